-- `mover::pick::who_above` meets its contract. The loop's invariant: at most one who waits in the rows passed is above the level, and a task waits on
-- the CPU at hand. Assumes nothing.
use mathlib.Core.Path.{◌≡◌}
use Prim.Native.Nat.{◌-◌, ◌≤◌, ◌<◌}
use lib.ListN.{get_or}
use Rattle.std.specs.Prelude.{IfSome}
use Rattle.waiting.proofs.Waiting.{until}
use Rattle.rules.specs.Machine.{Machine}
use Rattle.mover.specs.Foremost.{Looking, OnlyAbove}
use Rattle.mover.proofs.pick.who_above.Given as goal

abbrev pub invariant-loop-next : goal.invariant-loop-next
invariant-loop-next l =
    IfSome l.next (λ c. (c < l.n) × (2 ≤ get_or l.counts c 0)) × ((m : Machine) → Looking m l.prio m.mask l.counts l.rows → l.n ≡ m.n → OnlyAbove m l.level (until l.n l.next) l.found)

abbrev pub decreases-loop-next : goal.decreases-loop-next
decreases-loop-next l = l.n - until l.n l.next
