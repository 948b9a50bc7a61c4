-- `bits::low_bits` meets its contract. Assumes nothing.
use mathlib.Core.Path.{ap, ◌∙◌}
use Prim.Native.Nat.{ℕ, ◌-◌}
use lib.Arith.{lt_of_le-ne}
use lib.Bits.{bit_and, and_mask}
use Rattle.bits.proofs.Word.{one_shl}
use Rattle.bits.proofs.low_bits.Goals as goal

pub returns : goal.returns
returns c =
    let x = c.before.args in
    ap (λ (n : ℕ). bit_and x.m (n - 1)) (one_shl 64 x.k (lt_of_le-ne c.before.requires c.if-k-eq64.false)) ∙ and_mask x.m x.k
