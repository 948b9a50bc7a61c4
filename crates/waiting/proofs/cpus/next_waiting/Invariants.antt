-- `waiting::cpus::next_waiting` meets its contract. The loop's invariant: nobody waits on the CPUs passed.
-- Assumes nothing.
use Prim.Native.Nat.{◌-◌, ◌≤◌}
use Rattle.waiting.specs.Waiting.{NobodyWaits}
use Rattle.waiting.proofs.cpus.next_waiting.Given as goal

abbrev pub invariant-loop-next : goal.invariant-loop-next
invariant-loop-next l = (l.from ≤ l.next) × (l.next ≤ l.n) × NobodyWaits l.counts l.from l.next

abbrev pub decreases-loop-next : goal.decreases-loop-next
decreases-loop-next l = l.n - l.next
