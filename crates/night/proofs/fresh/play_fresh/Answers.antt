-- `night::fresh::play_fresh` meets its contract.
-- Assumes nothing.
use mathlib.Core.Path.{◌≡◌, sym, subst}
use Rattle.lenttables.specs.Lent.{lent}
use Rattle.rules.specs.Answers.{answer_of}
use Rattle.rules.specs.Entry.{made}
use Rattle.rules.specs.Tables.{Tables}
use Rattle.recording.specs.Reading.{most_events, reading}
use Rattle.recording.specs.Replay.{Run, run, begun}
use Rattle.playing.specs.Ready.{Ready}
use Rattle.playing.proofs.Fresh.{ready_fresh}
use Rattle.night.proofs.Begin.{fresh_fits, begins, replays_from}
use Rattle.night.proofs.fresh.play_fresh.Goals.{After-make_fresh_lent, After-pass, Start}
use Rattle.night.proofs.fresh.play_fresh.Goals as goal

-- what the caller lent
module _ (c : Start) where
  abbrev tables : Tables
  tables =
      let x = c.args in
      lent x.full x.state.now x.policy.now x.prio.now x.cpu.now x.slice.now x.mask.now x.rows.now x.counts.now x.flags.now x.online.now x.log.now

-- the machine is made
module _ (c : After-make_fresh_lent) where
  abbrev lent_tables : Tables
  lent_tables = tables (goal.at.After-make_fresh_lent c).Start

  abbrev first : Run
  first =
      let k = c in
      let o = k.make_fresh_lent.new in
      run o.«record» (lent k.args.full o.state o.policy o.prio o.cpu o.slice o.mask o.rows o.counts o.flags o.online o.log)
      k.args.times.now 0 0 0

  begun_is : first ≡ begun (made c.args.n c.args.«record».now lent_tables) 0
  begun_is =
      let k = c in
      let x = k.args in
      begins x.n (answer_of k.make_fresh_lent.result) x.«record».now first.cpupri lent_tables first.tables x.times.now k.make_fresh_lent.ensures.as_ruled
      k.requires.no_time

-- what it comes to
module _ (c : After-pass) where
  abbrev last : Run
  last =
      let k = c in
      let o = k.pass.new in
      let t = k.pass.result.course in
      run o.«record» (lent t.full o.state o.policy o.prio o.cpu o.slice o.mask o.rows o.counts o.flags o.online o.log) o.times
      t.moves t.refused t.last

pub unwrap-requires : goal.unwrap-requires
unwrap-requires c =
    let x = c.args in
    let o = c.make_fresh_lent.new in
    fresh_fits x.n x.«record».now o.«record» (tables (goal.at.unwrap-requires c).Start)
    (lent x.full o.state o.policy o.prio o.cpu o.slice o.mask o.rows o.counts o.flags o.online o.log) c.requires.lengths
    c.make_fresh_lent.result c.make_fresh_lent.ensures.as_ruled

pub pass-requires : goal.pass-requires
pass-requires c =
    let x = c.args in
    subst (Ready x.n most_events) (sym (begun_is (goal.at.pass-requires c).After-make_fresh_lent))
    (ready_fresh x.n x.«record».now (tables (goal.at.pass-requires c).Start) c.requires.lengths 0)

pub returns : goal.returns
returns c =
    let x = c.args in
    let k = (goal.at.returns c).After-make_fresh_lent in
    let es = (reading x.from x.bytes.now).events in record {
      replays = replays_from x.n x.«record».now (lent_tables k) c.requires.lengths es (first k) (last (goal.at.returns c).After-pass)
          c.pass.ensures.replays (begun_is k);
      ending_is = c.pass.ensures.ending_is;
      place_is = c.pass.ensures.place_is;
    }
