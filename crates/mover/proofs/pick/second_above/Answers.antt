-- `mover::pick::second_above` meets its contract.
-- Assumes nothing.
use Prim.Native.Nat.{◌+◌, ◌*◌, ◌≤◌, ◌<◌}
use native.Mathlib.Omega.{arith}
use lib.Arith.{lt_of_le-ne}
use lib.ListN.{length, get_or}
use mathlib.Core.Path.{sym}
use borrow.Author.Tests.{ltb-false}
use Rattle.mover.proofs.Candidates.{row_fits, stored_small, stored_high, searchable, none_second, low_second}
use Rattle.mover.proofs.pick.second_above.Goals.{Else-counts-cpu-eq2}
use Rattle.mover.proofs.pick.second_above.Goals as goal

-- three stand in the row, and more
module _ (c : Else-counts-cpu-eq2) where
  more : let k = c in 2 < get_or k.args.counts.now k.args.cpu 0
  more = let k = c in lt_of_le-ne k.requires.1.2 (λ e. k.if-counts-cpu-eq2.false (sym e))

  fits : let k = c in k.args.cpu * 512 + 512 ≤ length k.args.rows.now
  fits = let k = c in row_fits k.requires.1.0 k.args.cpu k.requires.1.1

pub returns-then-counts-cpu-eq2 : goal.returns-then-counts-cpu-eq2
returns-then-counts-cpu-eq2 c = λ m l h no. none_second l c.args.cpu h c.if-counts-cpu-eq2.true c.args.level

pub of_priority-requires : goal.of_priority-requires
of_priority-requires c = let p = c.requires.1 in stored_high p.0 c.args.cpu p.1 2 (more (goal.at.of_priority-requires c).Else-counts-cpu-eq2)

pub returns : goal.returns
returns c = λ m l h no.
    low_second l c.args.cpu h (more (goal.at.returns c).Else-counts-cpu-eq2) c.args.level (omega (arith, c.of_priority.ensures, ltb-false c.args.level _ no))

pub bounds-rows-cpu : goal.bounds-rows-cpu
bounds-rows-cpu c = let f = fits (goal.at.bounds-rows-cpu c).Else-counts-cpu-eq2 in omega arith

pub bounds-prio-second : goal.bounds-prio-second
bounds-prio-second c =
    let p = c.requires.1 in
    omega (arith, stored_small p.0 c.args.cpu p.1 2 (more (goal.at.bounds-prio-second c).Else-counts-cpu-eq2), (searchable p.0 c.args.cpu p.1 (omega (arith, p.2))).prios)
