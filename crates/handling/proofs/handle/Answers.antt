-- `handling::handle` meets its contract.
-- Assumes nothing.
use mathlib.Core.Path.{refl}
use native.Mathlib.Omega.{arith}
use Rattle.levels.specs.Record.{lent_record}
use Rattle.std.specs.Prelude.{Ok}
use Rattle.std.proofs.lemmas.Result.{err_from_is_err_and}
use Rattle.levels.specs.declared.record.Record.{Record}
use Rattle.rules.specs.Events.{Event, effect}
use Rattle.rules.specs.Machine.{Machine}
use Rattle.rules.proofs.Answers.{number_some}
use Rattle.rules.specs.Tables.{Tables, machine_of}
use Rattle.lenttables.specs.Lent.{lent}
use Rattle.plans.specs.Decided.{as_event}
use Rattle.hinting.specs.Hinted.{Hinted}
use Rattle.effect.specs.Effected.{Effected}
use Rattle.handling.proofs.Handling.{Passed, Carried, lends, refused_result, carries, hinted, start_settling, start_cpus, log_long, taken_result, taken_few}
use Rattle.handling.proofs.handle.Goals.{In_ok-few, After-known-hint, Start}
use Rattle.handling.proofs.handle.Goals as goal

-- ---- what the caller lent

module _ (c : Start) where
  abbrev tables : Tables
  tables =
      let x = c.args in
      lent x.full x.state.now x.policy.now x.prio.now x.cpu.now x.slice.now x.mask.now x.rows.now x.counts.now x.flags.now x.online.now x.log.now

  abbrev levels : Record
  levels = (lent_record c.args.masks.now c.args.tallies.now c.args.words.now c.args.levels.now)

  abbrev asked : Event
  asked = as_event c.args.event

  abbrev machine : Machine
  machine = machine_of c.args.n tables

  passed : Passed c.args.n levels tables
  passed = record { checks = c.requires.log_value }

-- ---- what its own effect left

-- accepted
module _ (c : In_ok-few) where
  abbrev left : Tables
  left =
      let k = c in
      let o = k.effect.new in
      lent k.args.full o.state o.policy o.prio o.cpu o.slice o.mask o.rows o.counts o.flags o.online k.args.log.now

  abbrev left_levels : Record
  left_levels = (lent_record c.effect.new.masks c.effect.new.tallies c.effect.new.words c.effect.new.levels)

  own : let k = c in let s = (goal.at.In_ok-few k).Start in let t = left in
      Effected (machine s) (asked s) (Ok k.in_ok-few.few) t.state t.policy t.prio t.cpu t.slice t.mask t.rows t.counts t.flags t.online left_levels
  own = let k = c in k.in_ok-few.ensures (machine (goal.at.In_ok-few k).Start) (lends (passed (goal.at.In_ok-few k).Start)) refl refl

  carried : let k = c in let s = (goal.at.In_ok-few k).Start in Carried k.args.n (levels s) (tables s) (asked s) left left_levels
  carried = let k = c in let s = (goal.at.In_ok-few k).Start in carries (passed s) (asked s) own refl refl refl

module _ (c : After-known-hint) where
  true_hint : let k = c in Hinted (effect (asked (goal.at.After-known-hint k).Start) (machine (goal.at.After-known-hint k).Start)) k.known-hint.result
  true_hint =
      let k = c in
      let s = (goal.at.After-known-hint k).Start in
      hinted (passed s) (asked s) (left (goal.at.After-known-hint k).In_ok-few) (own (goal.at.After-known-hint k).In_ok-few) k.args.settled k.requires.still k.known-hint.ensures

-- ---- the needs
pub effect-requires : goal.effect-requires
effect-requires c = let s = (goal.at.effect-requires c).Start in (machine s, (lends (passed s), refl, refl))

pub returns-in_err-few : goal.returns-in_err-few
returns-in_err-few c =
    let s = (goal.at.returns-in_err-few c).Start in
    let p = err_from_is_err_and c.from_residual.result c.from_residual.ensures.1 in
    let own = c.in_err-few.ensures (machine s) (lends (passed s)) refl refl in
    let all = refused_result (passed s) (asked s) own refl refl (number_some c.in_err-few.field-0.0) in
    rw (p.1, p.2) record {
      as_ruled = all.0;
      leaves_well_formed = all.1.0;
      settles = all.1.1.0;
      stays_settled = all.1.1.1;
    }

pub settle-moves-requires : goal.settle-moves-requires
settle-moves-requires c =
    let s = (goal.at.settle-moves-requires c).Start in
    let h = carried (goal.at.settle-moves-requires c).In_ok-few in record {
      settling = (effect (asked s) (machine s), (start_settling h, start_cpus h, true_hint (goal.at.settle-moves-requires c).After-known-hint));
      log_len = log_long h;
    }

pub returns : goal.returns
returns c =
    let h = carried (goal.at.returns c).In_ok-few in
    let all = taken_result h (c.settle-moves.ensures _ (start_settling h) (start_cpus h) (true_hint (goal.at.returns c).After-known-hint)) in record {
      as_ruled = all.0;
      leaves_well_formed = all.1.0;
      settles = all.1.1.0;
      stays_settled = all.1.1.1;
    }

pub overflow_cast-moves : goal.overflow_cast-moves
overflow_cast-moves c =
    let h = carried (goal.at.overflow_cast-moves c).In_ok-few in
    let few = taken_few h (c.settle-moves.ensures _ (start_settling h) (start_cpus h) (true_hint (goal.at.overflow_cast-moves c).After-known-hint)) in
    omega arith
