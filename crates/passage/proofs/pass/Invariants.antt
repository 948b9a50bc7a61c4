-- The loop of `passage::pass`: what is left to read, on the machine now, comes to what all comes to on the machine at the start.
-- Assumes nothing.
use mathlib.Core.List.{List}
use Prim.Native.Nat.{ℕ}
use Rattle.levels.specs.declared.record.Record.{Record}
use Rattle.lenttables.specs.Lent.{lent}
use Rattle.rules.specs.Tables.{Tables}
use Rattle.recording.specs.declared.Course.{Course}
use Rattle.recording.specs.Reading.{reading}
use Rattle.recording.specs.Replay.{Run, run}
use Rattle.passage.proofs.Going.{Going}
use Rattle.passage.proofs.pass.Given as goal

-- a run, with what is carried along
abbrev pub built : Record → Tables → List ℕ → Course → Run
built r s ts t = run r s ts t.moves t.refused t.last

abbrev pub invariant-loop-ending : goal.invariant-loop-ending
invariant-loop-ending l =
    let o = l.initial in
    let first = built o.«record»
    (lent o.course.full o.state o.policy o.prio o.cpu o.slice o.mask o.rows o.counts o.flags o.online o.log) o.times o.course in
    let now = built l.«record»
    (lent l.course.full l.state l.policy l.prio l.cpu l.slice l.mask l.rows l.counts l.flags l.online l.log) l.times l.course in
    Going l.n l.bytes (reading l.from l.bytes) first l.room l.place now

abbrev pub decreases-loop-ending : goal.decreases-loop-ending
decreases-loop-ending l = l.room
