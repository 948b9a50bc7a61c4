-- `whole::compare::none_u64` meets its contract. The loop's invariant: the word is 0 exactly if the places passed are.
-- Assumes nothing.
use mathlib.Core.Path.{◌≡◌, refl, sym, ap, ◌∙◌}
use mathlib.Core.List.{List}
use Prim.Native.Nat.{ℕ, ◌<◌}
use native.Mathlib.Omega.{arith}
use lib.Bits.{bit_or, bit_xor, xor_zero_r}
use lib.Dec.{eqb}
use lib.ListN.{length, get_or, length-replicate, get_or-replicate}
use Rattle.whole.specs.Whole.{same}
use Rattle.whole.proofs.Compared.{compare_more}
use Rattle.whole.proofs.compare.none_u64.Invariants.{zeros}
use Rattle.whole.proofs.compare.none_u64.Goals as goal

-- a number and its difference to 0
from_zero : (a : List ℕ) (i : ℕ) → i < length a → get_or a i 0 ≡ bit_xor (get_or a i 0) (get_or (zeros a) i 0)
from_zero a i h = sym (xor_zero_r (get_or a i 0)) ∙ ap (bit_xor (get_or a i 0)) (sym (get_or-replicate (length a) i 0 0 h))

pub loop-x-init : goal.loop-x-init
unfolding same
loop-x-init c = refl

pub loop-x-preserved : goal.loop-x-preserved
loop-x-preserved c =
    let l = c.loop-x in
    let a = c.args.a.now in
    let more : l.x-index < length a = omega arith in
    ap (λ (x : ℕ). eqb (bit_or l.word x) 0) (from_zero a l.x-index more)
    ∙ compare_more a (zeros a) (sym (length-replicate (length a) 0)) l.word l.x-index l.invariant more
