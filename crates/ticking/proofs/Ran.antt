-- The task that runs on the CPU of an event, as it was read from what is lent.
-- Assumes nothing.
use mathlib.Core.Path.{◌≡◌, refl, sym, ap, ◌∙◌, subst}
use mathlib.Core.List.{List}
use mathlib.Core.Option.{some}
use Prim.Native.Nat.{ℕ}
use Rattle.std.specs.Prelude.{Option, Some, None, IfSome, IsSomeAnd, option_map}
use Rattle.std.proofs.lemmas.Option.{IfSome_then}
use Rattle.levels.specs.declared.record.Record.{Record}
use Rattle.rules.specs.Lists.{In}
use Rattle.rules.specs.Machine.{Machine, Task, task_of, row, head, running}
use Rattle.laws.proofs.Apart.{in_row}
use Rattle.laws.proofs.Lists.{in_here}
use Rattle.plans.specs.Decided.{as_task}
use Rattle.percpu.specs.Running.{first_of, Runs}
use Rattle.percpu.specs.declared.Runner.{Runner}
use Rattle.percpu.proofs.Running.{runs}
use Rattle.deciding.specs.Subject.{entries}
use Rattle.queueing.specs.Moved.{Running}
use Rattle.effect.specs.Effected.{Lends}
use Rattle.effect.proofs.Effects.{columns_are}

-- it is there
pub there : {P : Runner → Type 0} (o : Option Runner) → IsSomeAnd o P → (r : Runner) × (o ≡ Some r) × P r
there None h = absurd h
there (Some r) h = (r, refl, h)

module _ {m : Machine} {ss ps qs cs ls ks flat ns fs : List ℕ} {on : ℕ} {r : Record} (l : Lends m ss ps qs cs ls ks flat ns fs on r) where
  pub runs_is : (c : ℕ) (o : Option Runner) → option_map (λ x. x.task) o ≡ first_of (row m c) → IfSome o (λ x. as_task x.columns ≡ entries ss ps qs cs ls ks x.task)
      → Runs m c o
  runs_is c o first read = record { formed = l.formed; first = first; columns = IfSome_then o read (λ x e. columns_are l x.task e) }

-- it goes on to be runnable with its priority
pub runs_on : {m : Machine} {c d u : ℕ} {r : Runner} {σ : Task} → Runs m c (Some r) → u ≡ r.task → d ≡ c → σ.state ≡ (task_of m u).state → σ.prio ≡ (task_of m u).prio
    → Running m u d σ
runs_on {m} {c} {d} {u} {r} l et ed es ep =
    let q = runs l in
    record {
      first = ap (running m) ed ∙ ap head q.1 ∙ ap some (sym et);
      state = es ∙ ap (λ (x : ℕ). (task_of m x).state) et ∙ (in_row m r.task c l.formed (subst (In r.task) (sym q.1) (in_here r.task q.0))).0;
      prio = ep;
    }
