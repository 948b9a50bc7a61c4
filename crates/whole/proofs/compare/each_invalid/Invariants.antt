-- `whole::compare::each_invalid` meets its contract. The loop's invariant: the byte is 0 exactly if the places passed are the same.
-- Assumes nothing.
use mathlib.Core.Path.{◌≡◌}
use Prim.Native.Nat.{◌+◌}
use lib.Dec.{eqb}
use lib.ListN.{take}
use Rattle.whole.specs.Whole.{same, invalid_from}
use Rattle.whole.proofs.compare.each_invalid.Given as goal

abbrev pub invariant-loop-level : goal.invariant-loop-level
invariant-loop-level l = eqb l.byte 0 ≡ same (take (l.start + l.level-index) l.a) (take (l.start + l.level-index) (invalid_from l.start l.a))
