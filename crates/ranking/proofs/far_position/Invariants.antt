-- `ranking::far_position` meets its contract. The loop's invariant: the task does not stand earlier. Assumes nothing.
use Prim.Native.Nat.{◌-◌, ◌≤◌}
use Rattle.rules.specs.Lists.{place}
use Rattle.ranking.proofs.far_position.Given as goal

abbrev pub invariant-loop-at : goal.invariant-loop-at
invariant-loop-at l = l.at ≤ place l.task l.row

abbrev pub decreases-loop-at : goal.decreases-loop-at
decreases-loop-at l = place l.task l.row - l.at
