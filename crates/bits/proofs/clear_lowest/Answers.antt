-- `bits::clear_lowest` meets its contract. Assumes nothing.
use Rattle.bits.proofs.Search.{and_less}
use Rattle.bits.proofs.clear_lowest.Goals as goal

pub returns : goal.returns
returns c = and_less 64 c.args.m c.ranges.m.fits c.requires
