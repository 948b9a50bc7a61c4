-- `bits::all_below` meets its contract. Assumes nothing.
use Rattle.bits.proofs.Word.{ones_shifted}
use Rattle.bits.proofs.all_below.Goals as goal

pub returns : goal.returns
returns c = ones_shifted c.args.k c.requires.k_bound
