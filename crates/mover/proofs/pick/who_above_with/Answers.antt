-- `mover::pick::who_above_with` meets its contract.
-- Assumes nothing.
use mathlib.Core.Path.{subst}
use Prim.Native.Nat.{◌+◌, ◌*◌, ◌≤◌}
use native.Mathlib.Omega.{arith}
use lib.ListN.{length}
use Rattle.mover.specs.Foremost.{OnlyAbove}
use Rattle.mover.specs.declared.pick.Above.{Above}
use Rattle.mover.proofs.Candidates.{row_fits, stored_small, stored_high, searchable, row_adds_none, row_adds_first}
use Rattle.mover.proofs.pick.who_above_with.Goals.{Start}
use Rattle.mover.proofs.pick.who_above_with.Goals as goal

-- the row is one of the table's
module _ (c : Start) where
  fits : c.args.cpu * 512 + 512 ≤ length c.args.rows.now
  fits = row_fits c.requires.1.0 c.args.cpu c.requires.1.1

pub of_priority-requires : goal.of_priority-requires
of_priority-requires c =
    let p = c.requires.1 in
    stored_high p.0 c.args.cpu p.1 1 (omega (arith, p.2))

pub returns-then-of_priority-level : goal.returns-then-of_priority-level
returns-then-of_priority-level c = λ m l h old.
    row_adds_none l c.args.level c.args.cpu h c.requires.1.2 (omega (arith, c.of_priority.ensures, c.if-of_priority-level.true)) c.args.found old

pub second_above-requires : goal.second_above-requires
second_above-requires c = c.requires

pub returns-in-Nobody : goal.returns-in-Nobody
returns-in-Nobody c = λ m l h old.
    let a = c.args in
    row_adds_first l a.level a.cpu h c.requires.1.2 (subst (λ (f : Above). OnlyAbove m a.level a.cpu f) c.in-Nobody.is old)
    (c.second_above.ensures m l h c.if-not-second_above.true)

pub bounds-rows-cpu : goal.bounds-rows-cpu
bounds-rows-cpu c = let f = fits (goal.at.bounds-rows-cpu c).Start in omega arith

pub bounds-prio-first : goal.bounds-prio-first
bounds-prio-first c =
    let p = c.requires.1 in
    omega (arith, stored_small p.0 c.args.cpu p.1 1 (omega (arith, p.2)), (searchable p.0 c.args.cpu p.1 (omega (arith, p.2))).prios)
