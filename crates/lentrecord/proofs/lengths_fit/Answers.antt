-- `lentrecord::lengths_fit` meets its contract. Assumes nothing.
use mathlib.Core.Path.{refl}
use Rattle.lentrecord.specs.Lent.{record_lengths_fit}
use Rattle.lentrecord.proofs.lengths_fit.Goals as goal

pub returns : goal.returns
unfolding record_lengths_fit
returns c = refl
