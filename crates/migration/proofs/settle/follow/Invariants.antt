-- `migration::settle::follow` meets its contract. The loop's invariant: the tables hold the machine that the steps so far lead to, the log
-- has their entries, and what is known is true; there are fewer than n. Assumes nothing.
use mathlib.Core.Path.{◌≡◌}
use Prim.Native.Nat.{◌-◌}
use Rattle.levels.specs.Record.{lent_record}
use Rattle.rules.specs.Machine.{Machine}
use Rattle.hinting.specs.Hinted.{Among}
use Rattle.migration.specs.Settling.{Settling}
use Rattle.migration.proofs.Going.{Going}
use Rattle.migration.proofs.settle.follow.Given as goal

abbrev pub invariant-loop-step : goal.invariant-loop-step
invariant-loop-step l =
    (m : Machine) → Settling m l.prio l.initial.cpu l.mask l.initial.counts l.initial.rows (lent_record l.initial.masks l.initial.tallies l.initial.words l.initial.levels) → l.n ≡ m.n → Among m l.initial.known
    → Going m l.prio l.cpu l.mask l.counts l.rows l.initial.log l.log l.moves (lent_record l.masks l.tallies l.words l.levels) (λ (e : Machine). Among e l.known)

abbrev pub decreases-loop-step : goal.decreases-loop-step
decreases-loop-step l =
    l.n - l.moves
