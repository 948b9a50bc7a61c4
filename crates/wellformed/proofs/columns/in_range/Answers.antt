-- `wellformed::columns::in_range` meets its contract. Assumes nothing.
use mathlib.Core.Path.{ap}
use mathlib.Core.Bool.{Bool, ◌&&◌}
use lib.Dec.{leb, ltb}
use Rattle.wellformed.specs.Passes.{ranges_fit}
use Rattle.wellformed.proofs.columns.in_range.Goals as goal

pub returns : goal.returns
unfolding ranges_fit
returns c =
    let a = c.args in
    ap (λ (b : Bool).
    leb 1 a.policy && leb a.policy 2 && leb 1 a.prio && leb a.prio 99 && ltb a.cpu a.n && leb 1 a.slice && leb a.slice a.full && b)
    c.mask_fits.ensures
