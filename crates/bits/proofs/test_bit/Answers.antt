-- `bits::test_bit` meets its contract: the shifted word's lowest digit is the bit. Assumes nothing.
use mathlib.Core.Path.{ap}
use Prim.Native.Nat.{ℕ, ◌/◌, ◌^◌}
use lib.Bits.{and_mask}
use lib.Dec.{eqb}
use Rattle.bits.specs.Bit.{bit}
use Rattle.bits.proofs.test_bit.Goals as goal

pub returns : goal.returns
unfolding bit
returns c = ap (λ (x : ℕ). eqb x 1) (and_mask (c.args.m / 2 ^ c.args.c) 1)
