-- `ranking::rank` meets its contract. The loop's invariant: the tasks from `at` on are below the key. Assumes nothing.
use Rattle.ranking.specs.Row.{LowerFrom}
use Rattle.ranking.proofs.rank.Given as goal

abbrev pub invariant-loop-at : goal.invariant-loop-at
invariant-loop-at l = LowerFrom l.prio l.row l.key l.at

abbrev pub decreases-loop-at : goal.decreases-loop-at
decreases-loop-at l = l.at
