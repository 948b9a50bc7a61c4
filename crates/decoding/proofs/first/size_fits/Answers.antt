-- `decoding::first::size_fits` meets its contract.
-- Assumes nothing.
use mathlib.Core.Path.{refl}
use Rattle.cpupri.specs.Found.{size_fits}
use Rattle.decoding.proofs.first.size_fits.Goals as goal

pub returns : goal.returns
unfolding size_fits
returns c = refl
