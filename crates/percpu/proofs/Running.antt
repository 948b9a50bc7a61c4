-- A tick and a yield of the task that runs on a CPU.
-- Assumes nothing.
use mathlib.Core.Path.{◌≡◌, refl, sym, ap, ◌∙◌, subst}
use mathlib.Core.Bool.{true}
use mathlib.Core.Logic.{◌≢◌}
use mathlib.Core.List.{List, [], ◌∷◌}
use Prim.Native.Nat.{ℕ, ◌-◌, ◌≤◌, ◌<◌}
use native.Mathlib.Omega.{arith}
use lib.Dec.{eqb}
use borrow.Author.Tests.{eq-eqb, ne_eqb}
use Rattle.std.specs.Prelude.{Some, None}
use Rattle.std.proofs.lemmas.Option.{none-some, same_Some}
use Rattle.rules.specs.Lists.{In}
use Rattle.rules.specs.Machine.{Machine, Task, task_of, row, enqueue, dequeue, requeue, runnable, rr, task_places, highest_priority}
use Rattle.rules.specs.Events.{ticked_task, ticked, yielded, to_first}
use Rattle.rules.specs.Plan.{rewrite, shift, with_slice, Doable, Carries}
use Rattle.laws.proofs.Lists.{in_here}
use Rattle.laws.proofs.Apart.{runnable_fit, runnable_place, in_row}
use Rattle.laws.proofs.Online.{home_online}
use Rattle.plans.specs.Decided.{Named}
use Rattle.plans.proofs.Planned.{write_self, write_slice}
use Rattle.plans.proofs.Plans.{kept, shifted}
use Rattle.percpu.specs.Running.{first_of, Runs}
use Rattle.percpu.specs.declared.Runner.{Runner}

-- ---- nobody runs

module _ {m : Machine} {c : ℕ} (l : Runs m c None) where
  pub empty : row m c ≡ []
  empty = go (row m c) l.first
    where
      go : (r : List ℕ) → None ≡ first_of r → r ≡ []
      go [] e = refl
      go (u ∷ us) e = absurd (none-some u e)

  pub ticked_empty : ticked c m ≡ m
  ticked_empty = ap (to_first (λ (t : ℕ). ticked_task t c m) m) empty

-- ---- a task runs

module _ {m : Machine} {c : ℕ} {r : Runner} (l : Runs m c (Some r)) where
  abbrev t : ℕ
  t = r.task

  pub runs : (ts : List ℕ) × (row m c ≡ t ∷ ts)
  runs = go (row m c) l.first
    where
      go : (q : List ℕ) → Some t ≡ first_of q → (ts : List ℕ) × (q ≡ t ∷ ts)
      go [] e = absurd (none-some t (sym e))
      go (u ∷ us) e = (us, ap (λ (x : ℕ). x ∷ us) (sym (same_Some t u e)))

  stands : ((task_of m t).state ≡ runnable) × ((task_of m t).cpu ≡ c)
  stands = in_row m t c l.formed (subst (In t) (sym runs.1) (in_here t runs.0))

  small : t < task_places
  small = runnable_place m t l.formed stands.0

  named : Named m t r.columns
  named = record { formed = l.formed; columns = l.columns }

  behind : (σ : Task) → σ.prio ≡ (task_of m t).prio → Doable m (shift t c σ c)
  behind σ e =
      subst (λ (d : ℕ). Doable m (shift t d σ d)) stands.1
      (shifted named small σ (task_of m t).cpu stands.0 (runnable_fit m t l.formed stands.0).cpu (home_online m t l.formed stands.0)
      (subst (λ (x : ℕ). x ≤ highest_priority) (sym e) (runnable_fit m t l.formed stands.0).prio_high))

  ticked_is : ticked c m ≡ ticked_task t c m
  ticked_is = ap (to_first (λ (t : ℕ). ticked_task t c m) m) runs.1

  pub ticked_fifo : r.columns.policy ≢ rr → ticked c m ≡ m
  ticked_fifo n = ticked_is ∙ rw (ne_eqb (task_of m t).policy rr (λ e. n (ap (λ (x : Task). x.policy) l.columns ∙ e)))

  module _ (is : r.columns.policy ≡ rr) where
    is_rr : eqb (task_of m t).policy rr ≡ true
    is_rr = eq-eqb (task_of m t).policy rr (ap (λ (x : Task). x.policy) (sym l.columns) ∙ is)

    slice_is : r.columns.slice ≡ (task_of m t).slice
    slice_is = ap (λ (x : Task). x.slice) l.columns

    pub ticks_less : 1 < r.columns.slice → Carries (ticked c m) m (rewrite t (with_slice ((task_of m t).slice - 1) (task_of m t)))
    ticks_less h =
        record {
          effect = ticked_is ∙ rw (is_rr, ne_eqb ((task_of m t).slice - 1) 0 (λ e. omega (arith, slice_is))) (sym (write_slice t ((task_of m t).slice - 1) m));
          doable = kept named small (with_slice ((task_of m t).slice - 1) (task_of m t)) refl;
        }

    pub ticks_again : r.columns.slice ≤ 1 → Carries (ticked c m) m (shift t c (with_slice m.full (task_of m t)) c)
    ticks_again h =
        let z : (task_of m t).slice - 1 ≡ 0 = omega (arith, slice_is) in
        record {
          effect = ticked_is ∙ rw (is_rr, eq-eqb ((task_of m t).slice - 1) 0 z) (ap (enqueue t c) (sym (write_slice t m.full (dequeue t c m))));
          doable = behind (with_slice m.full (task_of m t)) refl;
        }

  pub yields : Carries (yielded c m) m (shift t c (task_of m t) c)
  yields =
      record {
        effect = ap (to_first (λ (t : ℕ). requeue t c m) m) runs.1 ∙ ap (enqueue t c) (sym (write_self t (dequeue t c m)));
        doable = behind (task_of m t) refl;
      }
