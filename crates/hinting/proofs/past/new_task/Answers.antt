-- `hinting::past::new_task` meets its contract.
-- Assumes nothing.
use mathlib.Core.Path.{◌∙◌}
use native.Mathlib.Omega.{arith}
use lib.ListN.{get_or}
use Prim.Native.Nat.{◌<◌}
use Rattle.rules.specs.Machine.{levels}
use Rattle.hinting.specs.Past.{Reading}
use Rattle.hinting.proofs.Lent.{cpu_low, rows_long, new_away, new_waits, new_stays, new_behind}
use Rattle.hinting.proofs.past.new_task.Goals.{Start}
use Rattle.hinting.proofs.past.new_task.Goals as goal

-- what the caller lent
module _ (c : Start) where
  lent : let a = c.args in Reading c.requires.reading.0 a.cpu.now a.rows.now (levels c.requires.reading.0)
  lent = c.requires.reading.1.0

  low : get_or c.args.cpu.now c.args.task 0 < c.requires.reading.0.n
  low = cpu_low lent c.args.task c.requires.task_lt_task_places

pub returns-then-state-own-ne-RUNNABLE : goal.returns-then-state-own-ne-RUNNABLE
returns-then-state-own-ne-RUNNABLE c = λ m r is. new_away r is c.args.task c.requires.task_lt_task_places c.args.at c.args.ran c.if-state-own-ne-RUNNABLE.true

pub returns-then-rows-start : goal.returns-then-rows-start
returns-then-rows-start c = λ m r is. new_waits r is c.args.task c.requires.task_lt_task_places c.args.at c.args.ran c.if-state-own-ne-RUNNABLE.false c.if-rows-start.true

pub returns-then-ran-at : goal.returns-then-ran-at
returns-then-ran-at c =
    λ m r is.
    new_stays r is c.args.task c.requires.task_lt_task_places c.args.at c.args.ran c.if-state-own-ne-RUNNABLE.false c.if-rows-start.false c.if-ran-at.true

pub returns : goal.returns
returns c =
    λ m r is.
    c.task_in.ensures ∙ new_behind r is c.args.task c.requires.task_lt_task_places c.args.at c.args.ran c.if-state-own-ne-RUNNABLE.false c.if-rows-start.false c.if-ran-at.false

pub bounds-rows-start : goal.bounds-rows-start
bounds-rows-start c = omega (arith, low (goal.at.bounds-rows-start c).Start, rows_long (lent (goal.at.bounds-rows-start c).Start))

pub bounds-rows-start-2 : goal.bounds-rows-start-2
bounds-rows-start-2 c = omega (arith, low (goal.at.bounds-rows-start-2 c).Start, rows_long (lent (goal.at.bounds-rows-start-2 c).Start))
