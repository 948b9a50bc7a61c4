-- `ranking::first_block` meets its contract. The loop's invariant: the task does not stand before the block. Assumes nothing.
use Prim.Native.Nat.{◌-◌, ◌*◌, ◌≤◌}
use Rattle.rules.specs.Lists.{place}
use Rattle.ranking.proofs.first_block.Given as goal

abbrev pub invariant-loop-task : goal.invariant-loop-task
invariant-loop-task l = l.block * 16 ≤ place l.task l.row

abbrev pub decreases-loop-task : goal.decreases-loop-task
decreases-loop-task l = place l.task l.row - l.block
