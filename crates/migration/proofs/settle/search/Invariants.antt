-- `migration::settle::search` meets its contract. The loop's invariant: the tables hold the machine that the steps so far lead to, the log has their
-- entries, and the CPUs below each level are that machine's; there are fewer than n steps. Assumes nothing.
use mathlib.Core.Path.{◌≡◌}
use Prim.Native.Nat.{◌-◌}
use Rattle.levels.specs.Record.{lent_record}
use Rattle.rules.specs.Machine.{Machine}
use Rattle.waiting.specs.Wanted.{Told}
use Rattle.waiting.specs.declared.scan.Test.TheVariants.{Movable}
use Rattle.migration.specs.Settling.{Settling}
use Rattle.migration.proofs.Going.{Going}
use Rattle.migration.proofs.settle.search.Given as goal

abbrev pub invariant-loop-step : goal.invariant-loop-step
invariant-loop-step l =
    (m : Machine) → Settling m l.prio l.initial.cpu l.mask l.initial.counts l.initial.rows (lent_record l.initial.masks l.initial.tallies l.initial.words l.initial.levels) → l.n ≡ m.n
    → Going m l.prio l.cpu l.mask l.counts l.rows l.initial.log l.log l.steps (lent_record l.masks l.tallies l.words l.levels) (λ (e : Machine). Told e (Movable l.lowest) l.under)

abbrev pub decreases-loop-step : goal.decreases-loop-step
decreases-loop-step l =
    l.n - l.steps
