-- `mover::pick::pick` meets its contract: where nobody waits, nobody passes. Assumes nothing.
use mathlib.Core.Path.{sym, subst}
use native.Mathlib.Omega.{arith}
use Rattle.std.specs.Prelude.{None}
use Rattle.mover.specs.Foremost.{BestOf}
use Rattle.waiting.specs.Wanted.{meant}
use Rattle.mover.proofs.Candidates.{no_best, skip_best}
use Rattle.mover.proofs.pick.pick.Goals as goal

pub returns-in_err-first : goal.returns-in_err-first
returns-in_err-first c =
    let nobody = c.in_err-first.ensures in
    λ m k told e.
    subst (BestOf (meant m c.args.test) m c.args.n) (sym c.from_residual.ensures)
    (skip_best k (meant m c.args.test) None 0 c.args.n None e (omega arith) nobody (no_best k (meant m c.args.test)))
