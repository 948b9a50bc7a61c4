-- `hinting::past::standing` meets its contract.
-- Assumes nothing.
use native.Mathlib.Omega.{arith}
use Rattle.hinting.proofs.Lent.{cpu_low, rows_long, past_is}
use Rattle.hinting.proofs.past.standing.Goals as goal

pub returns : goal.returns
returns c = λ m r. past_is r c.args.task c.requires.task_lt_task_places

pub bounds-rows-at : goal.bounds-rows-at
bounds-rows-at c =
    let low = cpu_low c.requires.reading.1 c.args.task c.requires.task_lt_task_places in
    omega (arith, rows_long c.requires.reading.1)
