-- `machine::event_lent` meets its contract: refused by the check, or handled.
-- Assumes nothing.
use mathlib.Core.Path.{sym}
use native.Mathlib.Omega.{arith}
use Rattle.levels.specs.Record.{lent_record}
use Rattle.std.proofs.lemmas.Result.{err_from_is_err_and}
use Rattle.lenttables.specs.Lent.{lent}
use Rattle.plans.specs.Decided.{as_event}
use Rattle.rules.proofs.Answers.{number_some}
use Rattle.rules.specs.Answers.{answer_of, number_of}
use Rattle.rules.specs.Tables.{Tables}
use Rattle.laws.proofs.Entry.{checked_good}
use Rattle.handling.specs.Moves.{moves_of}
use Rattle.handling.proofs.Handling.{unchecked_result, result_demand}
use Rattle.machine.proofs.event_lent.Goals.{Start}
use Rattle.machine.proofs.event_lent.Goals as goal

-- what the caller lent
module _ (c : Start) where
  abbrev tables : Tables
  tables =
      let x = c.args in
      lent x.full x.state.now x.policy.now x.prio.now x.cpu.now x.slice.now x.mask.now x.rows.now x.counts.now x.flags.now x.online.now x.log.now

pub returns-in_err-check_lent-clause-as_ruled : goal.returns-in_err-check_lent-clause-as_ruled
returns-in_err-check_lent-clause-as_ruled c =
    let x = c.args in
    let e = c.in_err-check_lent.field-0.0 in
    let p = err_from_is_err_and c.from_residual.result c.from_residual.ensures.1 in
    rw (p.1, p.2)
    (unchecked_result x.n x.«record».now (tables (goal.at.returns-in_err-check_lent-clause-as_ruled c).Start) (as_event x.event) (number_of e) c.in_err-check_lent.ensures (number_some e))

pub returns-clause-demand3_holds : goal.returns-clause-demand3_holds
returns-clause-demand3_holds c =
    let x = c.args in
    let o = c.handle.new in
    let r = c.handle.result in
    result_demand x.n x.«record».now (tables (goal.at.returns-clause-demand3_holds c).Start) (as_event x.event) (answer_of r) (moves_of r) (lent_record o.masks o.tallies o.words o.levels)
    (lent x.full o.state o.policy o.prio o.cpu o.slice o.mask o.rows o.counts o.flags o.online o.log) c.handle.ensures.as_ruled

pub overflow_cast-full : goal.overflow_cast-full
overflow_cast-full c =
    let good = checked_good c.args.n c.args.«record».now (tables (goal.at.overflow_cast-full c).Start) (sym c.in_ok-check_lent.ensures) in
    omega (arith, good.machine.shape.ticks)
