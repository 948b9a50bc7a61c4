-- `bits::clear_bit` meets its contract. Assumes nothing.
use Prim.Native.Nat.{ℕ, ◌+◌, ◌-◌, ◌*◌, ◌%◌, ◌^◌, ◌<◌}
use mathlib.Core.Path.{◌≡◌}
use native.Mathlib.Omega.{arith}
use lib.Pow.{pow-lt}
use Rattle.bits.proofs.Word.{and_not, one_shl}
use Rattle.bits.proofs.clear_bit.Goals as goal

-- the complement of the shifted one, its bit and 1 make 2^64
complement : (c : ℕ) → c < 64 → (2 ^ 64 - 1) - 1 * 2 ^ c % 2 ^ 64 + 2 ^ c + 1 ≡ 2 ^ 64
complement c h = let below : 2 ^ c < 2 ^ 64 = pow-lt h in omega (arith, one_shl 64 c h)

pub returns : goal.returns
returns c = and_not 64 c.args.m c.args.c _ c.ranges.m.fits c.requires (complement c.args.c c.requires)
