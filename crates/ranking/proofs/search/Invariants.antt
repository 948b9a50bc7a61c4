-- `ranking::search` meets its contract. The loop's invariant: those behind the part that is left are below the key. Assumes nothing.
use Prim.Native.Nat.{◌+◌}
use Rattle.ranking.specs.Row.{LowerFrom}
use Rattle.ranking.proofs.search.Given as goal

abbrev pub invariant-loop-size : goal.invariant-loop-size
invariant-loop-size l = LowerFrom l.prio l.row l.key (l.start + l.size)

abbrev pub decreases-loop-size : goal.decreases-loop-size
decreases-loop-size l = l.size
