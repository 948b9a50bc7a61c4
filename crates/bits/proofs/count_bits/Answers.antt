-- `bits::count_bits` meets its contract. Assumes nothing.
use Rattle.bits.proofs.Search.{weight_ones}
use Rattle.bits.proofs.count_bits.Goals as goal

pub returns : goal.returns
returns c = weight_ones 64 c.args.m c.ranges.m.fits
