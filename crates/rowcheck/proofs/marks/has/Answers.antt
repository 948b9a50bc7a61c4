-- `rowcheck::marks::has` meets its contract. Assumes nothing.
use Rattle.rowcheck.specs.Placed.{marked}
use Rattle.rowcheck.proofs.marks.has.Goals as goal

pub returns : goal.returns
unfolding marked
returns c = c.test_bit.ensures
