-- `replay::qoriwesh_replay` meets its contract: refused by a length, or what the replay reports, told.
-- Assumes nothing.
use mathlib.Core.Path.{◌≡◌, refl, sym, ap, ◌∙◌}
use mathlib.Core.Bool.{Bool, true, ◌&&◌}
use lib.Dec.{eqb}
use lib.ListN.{length}
use Rattle.cpupri.specs.Record.{lent_record}
use Rattle.levels.specs.Record.{lent_record}
use Rattle.levels.specs.declared.record.Record.{Record}
use Rattle.lenttables.specs.Lent.{lent}
use Rattle.rules.specs.Machine.{cpu_places}
use Rattle.rules.specs.Tables.{Tables}
use Rattle.std.specs.Prelude.{Result as Answer, Ok, Err}
use Rattle.rules.specs.declared.answer.Refusal.{Refusal}
use Rattle.recording.specs.Replay.{Replayed, replayed}
use Rattle.night.specs.declared.Report.{Report}
use Rattle.night.specs.Told.{told_of}
use Rattle.replay.proofs.Entry.{told_unfit, told_fit, record_fits_lem, times_fit, places_of}
use Rattle.replay.proofs.qoriwesh_replay.Goals.{After-lengths_fit, After-replay_lent-replayed, Else-not-lengths_fit-times, Start}
use Rattle.replay.proofs.qoriwesh_replay.Goals as goal

-- what the caller lent
module _ (c : Start) where
  abbrev given : Record
  given = let x = c.args in lent_record x.level_masks.now x.level_counts.now x.level_words.now x.levels.now

  abbrev tables : Tables
  tables =
      let x = c.args in
      lent 0 x.state.now x.policy.now x.prio.now x.cpu.now x.slice.now x.mask.now x.rows.now x.counts.now x.flags.now x.online.now x.log.now

-- the test of the lengths
module _ (c : After-lengths_fit) where
  abbrev fit : Bool
  fit = let k = c in k.lengths_fit.result && eqb (length k.fill.new.self) cpu_places

-- what the replay reports
module _ (c : After-replay_lent-replayed) where
  abbrev told_by : Answer Report Refusal → Replayed
  told_by =
      let k = c in
      let l = k.replay_lent-replayed.new in
      λ o. told_of o l.times l.«record»
      (lent 0 l.state l.policy l.prio l.cpu l.slice l.mask l.rows l.counts l.flags l.online l.log)

  -- by its variant
  reports : (o : Answer Report Refusal) → c.replay_lent-replayed.result ≡ o
      → told_by o ≡ replayed c.args.bytes.now c.load.new.«record» (tables (goal.at.After-replay_lent-replayed c).Start)
  reports = let k = c in λ o is. ap told_by (sym is) ∙ k.replay_lent-replayed.ensures

  spent_places : length c.replay_lent-replayed.new.times ≡ cpu_places
  spent_places =
      let k = c in
      let l = k.replay_lent-replayed.new in
      places_of k.args.bytes.now k.load.new.«record» (tables (goal.at.After-replay_lent-replayed k).Start) k.replay_lent-replayed.result l.times l.«record»
      (lent 0 l.state l.policy l.prio l.cpu l.slice l.mask l.rows l.counts l.flags l.online l.log) k.replay_lent-replayed.ensures

-- the lengths are right
module _ (c : Else-not-lengths_fit-times) where
  right : fit (goal.at.Else-not-lengths_fit-times c).After-lengths_fit ≡ true
  right = let k = c in k.if-not-lengths_fit-times.false

pub returns-then-not-lengths_fit-times : goal.returns-then-not-lengths_fit-times
returns-then-not-lengths_fit-times c =
    let s = (goal.at.returns-then-not-lengths_fit-times c).Start in
    let f = c.lengths_fit in
    told_unfit c.args.bytes.now (given s) (tables s) c.args.times.now c.fill.new.self (c.fill.ensures.after (λ y e. e)) f.result f.ensures
    c.number-then-not-lengths_fit-times.result c.number.result c.number-then-not-lengths_fit-times.ensures c.number.ensures c.if-not-lengths_fit-times.true

pub load-requires : goal.load-requires
load-requires c =
    let s = (goal.at.load-requires c).Start in
    let f = c.lengths_fit in
    record_fits_lem c.args.bytes.now (given s) (tables s) c.args.times.now c.fill.new.self (c.fill.ensures.after (λ y e. e)) f.result f.ensures
    (right (goal.at.load-requires c).Else-not-lengths_fit-times)

pub copy_from_slice-requires : goal.copy_from_slice-requires
copy_from_slice-requires c =
    let s = (goal.at.copy_from_slice-requires c).Start in
    let f = c.lengths_fit in
    times_fit c.args.bytes.now (given s) (tables s) c.args.times.now c.fill.new.self (c.fill.ensures.after (λ y e. e)) f.result f.ensures
    (right (goal.at.copy_from_slice-requires c).Else-not-lengths_fit-times)
    ∙ sym (spent_places (goal.at.copy_from_slice-requires c).After-replay_lent-replayed)

pub write-requires : goal.write-requires
write-requires c =
    let s = (goal.at.write-requires c).Start in
    let f = c.lengths_fit in
    record_fits_lem c.args.bytes.now (given s) (tables s) c.args.times.now c.fill.new.self (c.fill.ensures.after (λ y e. e)) f.result f.ensures
    (right (goal.at.write-requires c).Else-not-lengths_fit-times)

pub returns-in-Ok : goal.returns-in-Ok
returns-in-Ok c =
    let s = (goal.at.returns-in-Ok c).Start in
    let k = (goal.at.returns-in-Ok c).After-replay_lent-replayed in
    let f = c.lengths_fit in
    let w = c.write.new in
    let o : Answer Report Refusal = Ok c.in-Ok.report in
    told_fit c.args.bytes.now (given s) (tables s) c.args.times.now c.fill.new.self (c.fill.ensures.after (λ y e. e)) f.result f.ensures
    (right (goal.at.returns-in-Ok c).Else-not-lengths_fit-times) c.load.new.«record» (lent_record w.masks w.counts w.words w.levels)
    (told_by k o) 0 c.number-in-Ok.result c.copy_from_slice.new.self c.load.ensures (reports k o c.in-Ok.is) refl
    c.number-in-Ok.ensures c.copy_from_slice.ensures.after c.write.ensures

pub returns-in-Err : goal.returns-in-Err
returns-in-Err c =
    let s = (goal.at.returns-in-Err c).Start in
    let k = (goal.at.returns-in-Err c).After-replay_lent-replayed in
    let f = c.lengths_fit in
    let w = c.write.new in
    let o : Answer Report Refusal = Err c.in-Err.refusal in
    told_fit c.args.bytes.now (given s) (tables s) c.args.times.now c.fill.new.self (c.fill.ensures.after (λ y e. e)) f.result f.ensures
    (right (goal.at.returns-in-Err c).Else-not-lengths_fit-times) c.load.new.«record» (lent_record w.masks w.counts w.words w.levels)
    (told_by k o) c.number-in-Err.result c.number.result c.copy_from_slice.new.self c.load.ensures (reports k o c.in-Err.is)
    c.number-in-Err.ensures c.number.ensures c.copy_from_slice.ensures.after c.write.ensures
