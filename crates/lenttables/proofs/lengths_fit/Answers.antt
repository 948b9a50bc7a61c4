-- `lenttables::lengths_fit` meets its contract. Assumes nothing.
use Rattle.lenttables.specs.Lent.{sizes_fit}
use Rattle.lenttables.proofs.lengths_fit.Goals as goal

pub returns : goal.returns
unfolding sizes_fit
returns c = λ online. c.sizes_fit.ensures
