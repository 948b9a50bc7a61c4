-- `bits::lowest_bit` meets its contract. Assumes nothing.
use Rattle.bits.proofs.Search.{lowest_trailing}
use Rattle.bits.proofs.lowest_bit.Goals as goal

pub returns : goal.returns
returns c = lowest_trailing 64 c.args.m
