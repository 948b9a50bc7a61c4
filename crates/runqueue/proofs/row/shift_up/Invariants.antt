-- `runqueue::row::shift_up` meets its contract. The loop's invariant: the places from i on have moved. Assumes nothing.
use Prim.Native.Nat.{◌≤◌}
use Rattle.runqueue.specs.Row.{Opened}
use Rattle.runqueue.proofs.row.shift_up.Given as goal

abbrev pub invariant-loop-i : goal.invariant-loop-i
invariant-loop-i l = (l.at ≤ l.i) × Opened l.i l.count l.initial.row l.row
