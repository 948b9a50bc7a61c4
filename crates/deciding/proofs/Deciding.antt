-- From a kind to the event, and from the lent columns to the task that is read.
-- Assumes nothing.
use mathlib.Core.Path.{◌≡◌, sym, ap, ◌∙◌, subst}
use mathlib.Core.Bool.{Bool}
use mathlib.Core.Logic.{◌≢◌, ◌⊎◌, inl, inr}
use mathlib.Core.List.{List, [], ◌∷◌}
use mathlib.Core.Option.{Option, none, some}
use Prim.Native.Nat.{ℕ, suc, ◌<◌}
use native.Mathlib.Omega.{arith}
use lib.ListN.{length}
use Rattle.rules.specs.Machine.{Machine, task_places}
use Rattle.rules.specs.Events.{Event, Kind, kind_of, by_kind, effect, effect_of}
use Rattle.std.specs.Prelude.{Result, Err}
use Rattle.rules.specs.Refusals.{refusal, first_failing, no_kind, checks}
use Rattle.rules.specs.declared.answer.Refusal.{Refusal}
use Rattle.rules.specs.declared.answer.Refusal.TheVariants.{UnknownKind}
use Rattle.laws.proofs.Lists.{same?}
use Rattle.laws.proofs.Checks.{no_kind_lem}
use Rattle.plans.specs.Decided.{as_task, Named, strands, Judged, Does, DecidedAs}
use Rattle.stranding.specs.Stranding.{strands_by}
use Rattle.deciding.specs.Subject.{entries, Lent, Decides}
use Rattle.plans.specs.declared.plan.Task.{Task as Columns}
use Rattle.plans.specs.declared.plan.Decision.{Decision}

-- ---- kinds by their numbers

module _ (m : Machine) (e : Event) where
  -- what is judged as of its kind is judged as of the event, whatever P says of what is accepted
  pub judged_by_kind : {A : Type 0} (P : Machine → A → Type 0) (k : Kind) (d : Result A Refusal) → kind_of e.kind ≡ some k
      → Judged (first_failing (checks m e k)) (P (effect_of k e m)) d → Judged (refusal m e) (P (effect e m)) d
  judged_by_kind P k d named h =
      subst (λ (o : Option Kind). Judged (first_failing (by_kind (no_kind ∷ []) (checks m e) o)) (P (by_kind m (λ (j : Kind). effect_of j e m) o)) d)
      (sym named) h

  pub by_kind_lem : (k : Kind) (d : Result Decision Refusal) → kind_of e.kind ≡ some k → DecidedAs k m e d → Decides m e d
  unfolding Decides
  by_kind_lem k d named h = judged_by_kind (λ done d. Does done m d) k d named h

  pub unknown : kind_of e.kind ≡ none → Decides m e (Err UnknownKind)
  unfolding Decides first_failing
  unknown named = sym (ap (λ (o : Option Kind). first_failing (by_kind (no_kind ∷ []) (checks m e) o)) named)

further : (k j : ℕ) → j < k → k ≢ suc j → suc j < k
further k j h n = omega arith

positive : (k : ℕ) → k ≢ 0 → 0 < k
positive k n = omega arith

pub unnamed : (k : ℕ) → k ≢ 1 → k ≢ 2 → k ≢ 3 → k ≢ 4 → k ≢ 5 → k ≢ 6 → k ≢ 7 → k ≢ 8 → k ≢ 9 → k ≢ 10 → k ≢ 11 → kind_of k ≡ none
unnamed k n1 n2 n3 n4 n5 n6 n7 n8 n9 n10 n11 = go (same? k 0)
  where
    past : {j : ℕ} → j < k → k ≢ suc j → suc j < k
    past {j} h n = further k j h n

    go : (k ≡ 0) ⊎ (k ≢ 0) → kind_of k ≡ none
    go (inl e) = ap kind_of e
    go (inr n0) = no_kind_lem k (past (past (past (past (past (past (past (past (past (past (past (positive k n0) n1) n2) n3) n4) n5) n6) n7) n8) n9) n10) n11)

-- ---- what is read

module _ {m : Machine} {n on full : ℕ} {ss ps qs cs ls ks : List ℕ} {b : Bool} {kind who : ℕ} (l : Lent m n on full ss ps qs cs ls ks b kind who) where
  pub sized : (length ss ≡ task_places)
      × ((length ps ≡ task_places) × ((length qs ≡ task_places) × ((length cs ≡ task_places) × ((length ls ≡ task_places) × (length ks ≡ task_places)))))
  sized = (
    ap length l.state ∙ l.formed.shape.state,
    (
      ap length l.policy ∙ l.formed.shape.policy,
      (
        ap length l.prio ∙ l.formed.shape.prio,
        (ap length l.cpu ∙ l.formed.shape.cpu, (ap length l.slice ∙ l.formed.shape.slice, ap length l.mask ∙ l.formed.shape.mask)),
      ),
    ),
  )

  -- kind 10 takes a CPU offline
  pub strands_is : kind ≡ 10 → b ≡ strands m who
  strands_is e = l.stranding ∙ ap (λ (x : ℕ). strands_by m x who) e

  pub named : {τ : Columns} → as_task τ ≡ entries ss ps qs cs ls ks who → Named m who τ
  named read =
      record {
        formed = l.formed;
        columns = read ∙ (λ i. entries (l.state i) (l.policy i) (l.prio i) (l.cpu i) (l.slice i) (l.mask i) who);
      }
