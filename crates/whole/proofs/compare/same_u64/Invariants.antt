-- `whole::compare::same_u64` meets its contract. The loop's invariant: the word is 0 exactly if the places passed are the same.
-- Assumes nothing.
use mathlib.Core.Path.{◌≡◌}
use lib.Dec.{eqb}
use lib.ListN.{take}
use Rattle.whole.specs.Whole.{same}
use Rattle.whole.proofs.compare.same_u64.Given as goal

abbrev pub invariant-loop-i : goal.invariant-loop-i
invariant-loop-i l = eqb l.word 0 ≡ same (take l.i l.a) (take l.i l.b)
