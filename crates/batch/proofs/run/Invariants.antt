-- The loop of `batch::run`: so many events are done, there is room for the others, and what they make of the machine now is what all make of
-- the machine at the start.
-- Assumes nothing.
use Rattle.lenttables.specs.Lent.{lent}
use Rattle.recording.specs.Replay.{run}
use Rattle.batch.proofs.Turn.{Inv}
use Rattle.batch.proofs.run.Given as goal

abbrev pub invariant-loop-event : goal.invariant-loop-event
invariant-loop-event l =
    let o = l.initial in
    let first = run o.«record»
    (lent o.course.full o.state o.policy o.prio o.cpu o.slice o.mask o.rows o.counts o.flags o.online o.log)
    o.times o.course.moves o.course.refused o.course.last in
    let now = run l.«record»
    (lent l.course.full l.state l.policy l.prio l.cpu l.slice l.mask l.rows l.counts l.flags l.online l.log)
    l.times l.course.moves l.course.refused l.course.last in
    Inv l.events l.n first now l.event-index
