-- A machine is settled if no step applies. Every accepted event leaves one, a refused event leaves what it found, and a fresh machine is settled:
-- so every machine that events reach from a fresh one is.
-- Assumes nothing.
use mathlib.Core.Path.{◌≡◌, refl, sym, subst}
use mathlib.Core.List.{List, [], ◌∷◌, tail}
use mathlib.Core.Option.{Option, none, some}
use Prim.Native.Nat.{ℕ, zero, suc, ◌≤◌}
use native.Mathlib.Omega.{arith}
use lib.ListN.{get_or, replicate}
use Rattle.rules.specs.Lists.{In}
use Rattle.rules.specs.Machine.{Machine, cpu_places, longest_slice, fresh}
use Rattle.rules.specs.WellFormed.{WellFormed}
use Rattle.rules.specs.Events.{Event, effect}
use Rattle.rules.specs.Refusals.{refusal}
use Rattle.rules.specs.Migration.{Move, next}
use Rattle.rules.specs.Outcome.{Outcome, outcome, answered}
use Rattle.rules.specs.Cases.{played}
use Rattle.rules.specs.Tables.{Tables, machine_of}
use Rattle.rules.specs.Entry.{Result, checked, event_answer, handled}
use Rattle.levels.specs.declared.record.Record.{Record}
use Rattle.laws.specs.Still.{Still}
use Rattle.laws.proofs.Lists.{not_in_nil}
use Rattle.laws.proofs.Checks.{outcome_accepted}
use Rattle.laws.proofs.Effects.{keep_effect, fresh_well_formed}
use Rattle.laws.proofs.Choice.{chosen}
use Rattle.laws.proofs.Runs.{settle_ends}
use Rattle.laws.proofs.Demand3.{keep_outcome}
use Rattle.laws.proofs.Entry.{checked_good, answer_zero, handled_refused, handled_machine}

-- the machine with which an accepted event ends is settled, whatever it was before
pub accepted_settled : (m : Machine) (e : Event) → WellFormed m → refusal m e ≡ 0 → next (outcome m e).machine ≡ none
accepted_settled m e w h =
    subst (λ (o : Outcome). next o.machine ≡ none) (sym (outcome_accepted m e h))
    (settle_ends (effect e m).n (effect e m) (keep_effect m e w h) (omega arith))

pub outcome_settled : (m : Machine) (e : Event) → WellFormed m → next m ≡ none → next (outcome m e).machine ≡ none
unfolding outcome
outcome_settled m e w n = go (refusal m e) refl
  where
    go : (r : ℕ) → refusal m e ≡ r → next (answered r e m).machine ≡ none
    go zero h = settle_ends (effect e m).n (effect e m) (keep_effect m e w h) (omega arith)
    go (suc r) h = n

-- a fresh machine has no task
pub fresh_settled : (n full : ℕ) → 1 ≤ n → n ≤ cpu_places → 1 ≤ full → full ≤ longest_slice → next (fresh n full) ≡ none
fresh_settled n full h l low high = go (next (fresh n full)) refl
  where
    empty : (k i : ℕ) → ◌≡◌ {A = List ℕ} (get_or (replicate k []) i []) []
    empty zero i = refl
    empty (suc k) zero = refl
    empty (suc k) (suc i) = empty k i

    go : (o : Option Move) → next (fresh n full) ≡ o → next (fresh n full) ≡ none
    go none e = e
    go (some v) e =
        absurd
        (not_in_nil v.task
        (subst (λ (r : List ℕ). In v.task (tail r)) (empty n v.origin) (chosen (fresh n full) v (fresh_well_formed n full h l low high) e).waits))

-- so every machine that events reach from a settled one is settled, and from a fresh one
pub played_settled : (es : List Event) (m : Machine) → WellFormed m → next m ≡ none → next (played es m) ≡ none
unfolding played
played_settled [] m w n = n
played_settled (e ∷ es) m w n = played_settled es (outcome m e).machine (keep_outcome m e w) (outcome_settled m e w n)

pub reached_settled : (n full : ℕ) (es : List Event) → 1 ≤ n → n ≤ cpu_places → 1 ≤ full → full ≤ longest_slice → next (played es (fresh n full)) ≡ none
reached_settled n full es h l low high = played_settled es (fresh n full) (fresh_well_formed n full h l low high) (fresh_settled n full h l low high)

-- ---- what an event hands back

module _ (n : ℕ) (r : Record) (s : Tables) (e : Event) where
  -- accepted: it is settled
  pub handled_still : event_answer n r s e ≡ 0 → Still n (handled n r s e).tables
  handled_still h =
      let z : (checked n r s ≡ 0) × (refusal (machine_of n s) e ≡ 0) = answer_zero n r s e h in
      subst (λ (m : Machine). next m ≡ none) (sym (handled_machine n r s e h))
      (accepted_settled (machine_of n s) e (checked_good n r s z.0).machine z.1)

  -- accepted or refused: it is settled if what was lent was
  pub still_handled : Still n s → Still n (handled n r s e).tables
  still_handled h = go (event_answer n r s e) refl
    where
      go : (a : ℕ) → event_answer n r s e ≡ a → Still n (handled n r s e).tables
      go zero q = handled_still q
      go (suc a) q = subst (λ (x : Result). Still n x.tables) (sym (handled_refused n r s e a q)) h
