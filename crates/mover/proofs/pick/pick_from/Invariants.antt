-- `mover::pick::pick_from` meets its contract. The loop's invariant: the best of the rows passed with the priority that is to be beaten, and a task waits on
-- the CPU at hand. Assumes nothing.
use mathlib.Core.Path.{◌≡◌}
use Prim.Native.Nat.{◌-◌, ◌≤◌, ◌<◌}
use lib.ListN.{get_or}
use Rattle.std.specs.Prelude.{IfSome}
use Rattle.waiting.proofs.Waiting.{until}
use Rattle.rules.specs.Machine.{Machine}
use Rattle.mover.specs.Foremost.{Looking, BestOf}
use Rattle.waiting.specs.Wanted.{meant, least, Told}
use Rattle.mover.proofs.Candidates.{floor_of}
use Rattle.mover.proofs.pick.pick_from.Given as goal

abbrev pub invariant-loop-next : goal.invariant-loop-next
invariant-loop-next l =
    IfSome l.next (λ c. (c < l.n) × (2 ≤ get_or l.counts c 0)) × (l.floor ≡ floor_of (least l.test) l.best)
    × ((m : Machine) → Looking m l.prio l.mask l.counts l.rows → Told m l.test l.under → l.n ≡ m.n → BestOf (meant m l.test) m (until l.n l.next) l.best)

abbrev pub decreases-loop-next : goal.decreases-loop-next
decreases-loop-next l = l.n - until l.n l.next
