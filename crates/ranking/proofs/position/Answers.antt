-- `ranking::position` meets its contract: the task does not stand at the places that were asked before. Assumes nothing.
use mathlib.Core.Path.{◌≡◌}
use mathlib.Core.Logic.{◌≢◌}
use Prim.Native.Nat.{ℕ, ◌≤◌, ◌<◌, zero-le}
use native.Mathlib.Omega.{arith}
use lib.ListN.{length, get_or}
use Rattle.rules.specs.Lists.{place}
use Rattle.ranking.proofs.Held.{stands_here, stands_later}
use Rattle.ranking.proofs.position.Goals.{Else-row-task, Else-row-task-2, Else-row-task-3, Else-row-task-4, Else-row-task-5, Start}
use Rattle.ranking.proofs.position.Goals as goal

module _ (c : Start) where
  abbrev stands : ℕ
  stands = place c.args.task c.args.row.now

  size : length c.args.row.now ≡ 512
  size = c.requires.row_len

  here : (at : ℕ) → at ≤ stands → get_or c.args.row.now at 0 ≡ c.args.task → at ≡ stands
  here = stands_here c.args.row.now c.args.task c.requires.stands

  later : (at : ℕ) → at ≤ stands → get_or c.args.row.now at 0 ≢ c.args.task → at < stands
  later = stands_later c.args.row.now c.args.task c.requires.stands

past-1 : (c : Else-row-task) → 1 ≤ stands (goal.at.Else-row-task c).Start
past-1 c = let k = c in later (goal.at.Else-row-task k).Start 0 zero-le k.if-row-task.false

past-2 : (c : Else-row-task-2) → 2 ≤ stands (goal.at.Else-row-task-2 c).Start
past-2 c = let k = c in later (goal.at.Else-row-task-2 k).Start 1 (past-1 (goal.at.Else-row-task-2 k).Else-row-task) k.if-row-task-2.false

past-3 : (c : Else-row-task-3) → 3 ≤ stands (goal.at.Else-row-task-3 c).Start
past-3 c = let k = c in later (goal.at.Else-row-task-3 k).Start 2 (past-2 (goal.at.Else-row-task-3 k).Else-row-task-2) k.if-row-task-3.false

past-4 : (c : Else-row-task-4) → 4 ≤ stands (goal.at.Else-row-task-4 c).Start
past-4 c = let k = c in later (goal.at.Else-row-task-4 k).Start 3 (past-3 (goal.at.Else-row-task-4 k).Else-row-task-3) k.if-row-task-4.false

past-5 : (c : Else-row-task-5) → 5 ≤ stands (goal.at.Else-row-task-5 c).Start
past-5 c = let k = c in later (goal.at.Else-row-task-5 k).Start 4 (past-4 (goal.at.Else-row-task-5 k).Else-row-task-4) k.if-row-task-5.false

pub returns-then-row-task : goal.returns-then-row-task
returns-then-row-task c = here (goal.at.returns-then-row-task c).Start 0 zero-le c.if-row-task.true

pub returns-then-row-task-2 : goal.returns-then-row-task-2
returns-then-row-task-2 c = here (goal.at.returns-then-row-task-2 c).Start 1 (past-1 (goal.at.returns-then-row-task-2 c).Else-row-task) c.if-row-task-2.true

pub returns-then-row-task-3 : goal.returns-then-row-task-3
returns-then-row-task-3 c = here (goal.at.returns-then-row-task-3 c).Start 2 (past-2 (goal.at.returns-then-row-task-3 c).Else-row-task-2) c.if-row-task-3.true

pub returns-then-row-task-4 : goal.returns-then-row-task-4
returns-then-row-task-4 c = here (goal.at.returns-then-row-task-4 c).Start 3 (past-3 (goal.at.returns-then-row-task-4 c).Else-row-task-3) c.if-row-task-4.true

pub returns-then-row-task-5 : goal.returns-then-row-task-5
returns-then-row-task-5 c = here (goal.at.returns-then-row-task-5 c).Start 4 (past-4 (goal.at.returns-then-row-task-5 c).Else-row-task-4) c.if-row-task-5.true

pub returns-then-row-task-6 : goal.returns-then-row-task-6
returns-then-row-task-6 c = here (goal.at.returns-then-row-task-6 c).Start 5 (past-5 (goal.at.returns-then-row-task-6 c).Else-row-task-5) c.if-row-task-6.true

pub far_position-requires : goal.far_position-requires
far_position-requires c = record {
  row_len = c.requires.row_len;
  stands = c.requires.stands;
}

pub returns : goal.returns
returns c = c.far_position.ensures

pub bounds-row-0 : goal.bounds-row-0
bounds-row-0 c = omega (arith, size (goal.at.bounds-row-0 c).Start)

pub bounds-row-1 : goal.bounds-row-1
bounds-row-1 c = omega (arith, size (goal.at.bounds-row-1 c).Start)

pub bounds-row-2 : goal.bounds-row-2
bounds-row-2 c = omega (arith, size (goal.at.bounds-row-2 c).Start)

pub bounds-row-3 : goal.bounds-row-3
bounds-row-3 c = omega (arith, size (goal.at.bounds-row-3 c).Start)

pub bounds-row-4 : goal.bounds-row-4
bounds-row-4 c = omega (arith, size (goal.at.bounds-row-4 c).Start)

pub bounds-row-5 : goal.bounds-row-5
bounds-row-5 c = omega (arith, size (goal.at.bounds-row-5 c).Start)
