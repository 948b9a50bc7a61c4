-- `batch::run` meets its contract: each turn of the loop is one event.
-- Assumes nothing.
use native.Mathlib.Omega.{arith}
use Rattle.batch.proofs.Turn.{turn, ends}
use Rattle.batch.proofs.run.Goals as goal

pub loop-event-preserved : goal.loop-event-preserved
loop-event-preserved c =
    turn c.args.events.now c.args.n _ _ _ c.loop-event.event-index (omega arith) c.play-course.ensures c.loop-event.invariant

pub returns : goal.returns
returns c = ends c.args.events.now c.args.n _ _ c.loop-event.event-index (omega arith) c.loop-event.invariant
