-- `bits::set_bit` meets its contract. Assumes nothing.
use mathlib.Core.Path.{ap, ◌∙◌}
use lib.Bits.{bit_or}
use Rattle.bits.proofs.Word.{or_pow, one_shl}
use Rattle.bits.proofs.set_bit.Goals as goal

pub returns : goal.returns
returns c = ap (bit_or c.args.m) (one_shl 64 c.args.c c.requires) ∙ or_pow c.args.m c.args.c
