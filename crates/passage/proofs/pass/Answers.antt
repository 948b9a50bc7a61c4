-- `passage::pass` meets its contract.
-- Assumes nothing.
use mathlib.Core.Path.{◌≡◌, refl}
use Prim.Native.Nat.{◌-◌, ◌<◌}
use Rattle.std.specs.Prelude.{Some, None}
use Rattle.lenttables.specs.Lent.{lent}
use Rattle.recording.specs.declared.Ending.{Ending}
use Rattle.recording.specs.Reading.{Reading, most_events, reading, ends}
use Rattle.recording.specs.Replay.{Run}
use Rattle.passage.proofs.Going.{Same, Going, ready_batch, going_start, going_on, going_nearer, gone, all_run}
use Rattle.passage.proofs.pass.Invariants.{built}
use Rattle.passage.proofs.pass.Goals.{After-run-course, At-loop-ending, Start}
use Rattle.passage.proofs.pass.Goals as goal

-- the run that the caller lent
module _ (c : Start) where
  abbrev begin : Run
  begin =
      let x = c.args in
      built x.«record».now
      (lent x.t.full x.state.now x.policy.now x.prio.now x.cpu.now x.slice.now x.mask.now x.rows.now x.counts.now x.flags.now x.online.now x.log.now)
      x.times.now x.t

-- the run that a batch finds
module _ (c : At-loop-ending) where
  abbrev here : Run
  here =
      let l = c.loop-ending in
      built l.«record» (lent l.course.full l.state l.policy l.prio l.cpu l.slice l.mask l.rows l.counts l.flags l.online l.log) l.times l.course

-- the run that it leaves
module _ (c : After-run-course) where
  abbrev left : Run
  left =
      let k = c in
      let o = k.run-course.new in
      let u = k.run-course.result in
      built o.«record» (lent u.full o.state o.policy o.prio o.cpu o.slice o.mask o.rows o.counts o.flags o.online o.log) o.times u

  abbrev all : Reading
  all = reading c.args.from c.args.bytes.now

  abbrev first : Run
  first = begin (goal.at.After-run-course c).Start

  abbrev found : Run
  found = here (goal.at.After-run-course c).At-loop-ending

  further : c.fill-read.result.ending ≡ None
      → let k = c in let b = k.fill-read.result in Going k.args.n k.args.bytes.now all first (k.loop-ending.room - b.count) b.place left
  further =
      let k = c in
      let l = k.loop-ending in
      going_on k.args.n k.args.bytes.now all first l.room l.place found left k.fill-read.result l.invariant k.fill-read.ensures k.run-course.ensures

  nearer : c.fill-read.result.ending ≡ None → c.loop-ending.room - c.fill-read.result.count < c.loop-ending.room
  nearer =
      let k = c in
      let l = k.loop-ending in
      going_nearer k.args.n k.args.bytes.now all first l.room l.place found left k.fill-read.result l.invariant k.fill-read.ensures
      k.run-course.ensures

  ended : (x : Ending) → c.fill-read.result.ending ≡ Some x → Same c.args.n all first (ends x c.fill-read.result.place) left
  ended =
      let k = c in
      let l = k.loop-ending in
      gone k.args.n k.args.bytes.now all first l.room l.place found left k.fill-read.result l.invariant k.fill-read.ensures k.run-course.ensures

pub loop-ending-init : goal.loop-ending-init
loop-ending-init c =
    going_start c.args.n most_events c.args.from c.args.bytes.now (begin (goal.at.loop-ending-init c).Start) c.requires

pub run-course-requires : goal.run-course-requires
run-course-requires c =
    let x = c.args in
    let l = c.loop-ending in
    ready_batch x.n l.room l.place x.bytes.now c.fill-read.result (here (goal.at.run-course-requires c).At-loop-ending) c.fill-read.ensures
    l.invariant.ready

pub returns-in-Some : goal.returns-in-Some
returns-in-Some c =
    let k = (goal.at.returns-in-Some c).After-run-course in
    let s = ended k c.in-Some.ending c.in-Some.is in record {
      replays = all_run c.args.n (all k) (first k) (left k) (ends c.in-Some.ending c.fill-read.result.place) refl s;
      ending_is = s.ending;
      place_is = s.place;
    }

pub loop-ending-smaller : goal.loop-ending-smaller
loop-ending-smaller c = nearer (goal.at.loop-ending-smaller c).After-run-course c.in-None.is

pub loop-ending-preserved : goal.loop-ending-preserved
loop-ending-preserved c = further (goal.at.loop-ending-preserved c).After-run-course c.in-None.is
