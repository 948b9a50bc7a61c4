-- `playing::play` meets its contract.
-- Assumes nothing.
use Rattle.levels.specs.Record.{lent_record}
use Rattle.std.proofs.Common.{arith}
use Rattle.lenttables.specs.Lent.{lent}
use Rattle.rules.specs.Tables.{Tables}
use Rattle.recording.specs.declared.Event.{Event}
use Rattle.recording.specs.Layout.{recorded}
use Rattle.recording.specs.Replay.{Run, run}
use Rattle.playing.proofs.Playing.{elapsed_less, played_ok, played_err, ready_counts, ready_times, moves_few}
use Rattle.playing.proofs.play.Goals.{After-handle, Start}
use Rattle.playing.proofs.play.Goals as goal

-- where the event finds the replay
module _ (c : Start) where
  abbrev tables : Tables
  tables =
      let x = c.args in
      lent x.t.full x.state.now x.policy.now x.prio.now x.cpu.now x.slice.now x.mask.now x.rows.now x.counts.now x.flags.now x.online.now x.log.now

  abbrev begin : Run
  begin = let t = c.args.t in run c.args.«record».now tables c.args.times.now t.moves t.refused t.last

  abbrev event : Event
  event = let x = c.args in recorded x.kind x.who x.a x.b x.k x.stamp

-- the event is handled
module _ (c : After-handle) where
  abbrev tables_after : Tables
  tables_after =
      let k = c in
      let o = k.handle.new in
      lent k.args.t.full o.state o.policy o.prio o.cpu o.slice o.mask o.rows o.counts o.flags o.online o.log

pub accrue-requires : goal.accrue-requires
accrue-requires c =
    let ready = c.requires in
    let u = begin (goal.at.accrue-requires c).Start in record {
      counts_len_bound = ready_counts c.args.n u ready;
      times_len = ready.places;
      d_bound = elapsed_less c.args.t.last c.args.stamp c.since.ensures;
      room = ready_times c.args.n u ready;
    }

pub handle-requires : goal.handle-requires
handle-requires c = record {
  log_value = c.requires.good;
  still = λ e. c.requires.still;
}

pub returns-in-Ok : goal.returns-in-Ok
returns-in-Ok c =
    let x = c.args in
    let h = c.handle in
    let s = (goal.at.returns-in-Ok c).Start in
    played_ok x.n (event s) c.since.result x.«record».now (lent_record h.new.masks h.new.tallies h.new.words h.new.levels) (tables s) (tables_after (goal.at.returns-in-Ok c).After-handle)
    x.times.now c.accrue.new.times x.t h.result c.since.ensures c.accrue.ensures h.ensures.as_ruled c.in-Ok.moves c.in-Ok.is

pub returns-in-Err : goal.returns-in-Err
returns-in-Err c =
    let x = c.args in
    let h = c.handle in
    let s = (goal.at.returns-in-Err c).Start in
    played_err x.n (event s) c.since.result x.«record».now (lent_record h.new.masks h.new.tallies h.new.words h.new.levels) (tables s) (tables_after (goal.at.returns-in-Err c).After-handle)
    x.times.now c.accrue.new.times x.t h.result c.since.ensures c.accrue.ensures h.ensures.as_ruled c.in-Err.field-0 c.in-Err.is

pub overflow_add-course : goal.overflow_add-course
overflow_add-course c =
    let x = c.args in
    let h = c.handle in
    let s = (goal.at.overflow_add-course c).Start in
    let few = moves_few x.n x.«record».now (lent_record h.new.masks h.new.tallies h.new.words h.new.levels) (tables s) (tables_after (goal.at.overflow_add-course c).After-handle) (event s) h.result
    c.requires.good h.ensures.as_ruled c.in-Ok.moves c.in-Ok.is in
    omega (arith, few, c.requires.moves)
