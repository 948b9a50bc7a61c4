-- `whole::compare::none_u64` meets its contract. The loop's invariant: the word is 0 exactly if the places passed are.
-- Assumes nothing.
use mathlib.Core.Path.{◌≡◌}
use mathlib.Core.List.{List}
use Prim.Native.Nat.{ℕ}
use lib.Dec.{eqb}
use lib.ListN.{length, take, replicate}
use Rattle.whole.specs.Whole.{same}
use Rattle.whole.proofs.compare.none_u64.Given as goal

-- as many zeros
abbrev pub zeros : List ℕ → List ℕ
zeros a = replicate (length a) 0

abbrev pub invariant-loop-x : goal.invariant-loop-x
invariant-loop-x l = eqb l.word 0 ≡ same (take l.x-index l.a) (take l.x-index (zeros l.a))
