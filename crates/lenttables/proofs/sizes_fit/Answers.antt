-- `lenttables::sizes_fit` meets its contract. Assumes nothing.
use mathlib.Core.Path.{sym, ap}
use mathlib.Core.Bool.{Bool, ◌&&◌}
use Prim.Native.Nat.{◌*◌}
use lib.Dec.{eqb, leb}
use Rattle.cpupri.specs.Found.{size_fits}
use Rattle.rules.specs.Machine.{task_places, longest_slice}
use Rattle.rules.specs.Tables.{log_places}
use Rattle.lenttables.specs.Lent.{sizes_fit}
use Rattle.lenttables.proofs.sizes_fit.Goals.{Start}
use Rattle.lenttables.proofs.sizes_fit.Goals as goal

-- the tests behind that of N
abbrev others : Start → Bool → Bool
others c b =
    let a = c.args in
    b && (leb 1 a.full && leb a.full longest_slice) && eqb a.state task_places && eqb a.policy task_places && eqb a.prio task_places && eqb a.cpu task_places && eqb a.slice task_places
    && eqb a.mask task_places && eqb a.rows (task_places * a.n) && eqb a.counts a.n && eqb a.flags a.n && eqb a.log log_places

pub returns-then-not-n : goal.returns-then-not-n
unfolding sizes_fit size_fits
returns-then-not-n c =
    let a = c.args in
    ap (others (goal.at.returns-then-not-n c).Start) (sym c.if-not-n.true)

pub returns : goal.returns
unfolding sizes_fit size_fits
returns c =
    let a = c.args in
    ap (others (goal.at.returns c).Start) (sym c.if-not-n.false)
