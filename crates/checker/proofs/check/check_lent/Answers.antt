-- `checker::check::check_lent` meets its contract.
-- Assumes nothing.
use mathlib.Core.Path.{sym, ◌∙◌}
use mathlib.Core.Bool.{true, false}
use Rattle.lenttables.specs.Lent.{lent}
use Rattle.rules.specs.Tables.{Tables}
use Rattle.laws.proofs.Entry.{lengths_shape}
use Rattle.checker.proofs.Answers.{checked_size, checked_form}
use Rattle.checker.proofs.check.check_lent.Goals.{Start}
use Rattle.checker.proofs.check.check_lent.Goals as goal

-- what the caller lent
module _ (c : Start) where
  abbrev tables : Tables
  tables =
      let x = c.args in
      lent x.full x.state.now x.policy.now x.prio.now x.cpu.now x.slice.now x.mask.now x.rows.now x.counts.now x.flags.now x.online.now x.log.now

pub returns-then-not-lengths_fit : goal.returns-then-not-lengths_fit
returns-then-not-lengths_fit c =
    let f = c.lengths_fit in
    sym (checked_size c.args.n c.args.«record».now (tables (goal.at.returns-then-not-lengths_fit c).Start) (sym (f.ensures c.args.online.now) ∙ c.if-not-lengths_fit.true))

pub tables_fit-requires : goal.tables_fit-requires
tables_fit-requires c =
    let f = c.lengths_fit in
    let l = lengths_shape c.args.n (tables (goal.at.tables_fit-requires c).Start) (sym (f.ensures c.args.online.now) ∙ c.if-not-lengths_fit.false) in record {
      shape = l.0;
      rows_len = l.1;
      counts_len = l.2;
    }

pub returns-then-not-tables_fit : goal.returns-then-not-tables_fit
returns-then-not-tables_fit c =
    let f = c.lengths_fit in
    let g = c.tables_fit in
    sym
    (checked_form c.args.n c.args.«record».now (tables (goal.at.returns-then-not-tables_fit c).Start) (sym (f.ensures c.args.online.now) ∙ c.if-not-lengths_fit.false) false
    (sym g.ensures ∙ c.if-not-tables_fit.true))

pub returns : goal.returns
returns c =
    let f = c.lengths_fit in
    let g = c.tables_fit in
    sym
    (checked_form c.args.n c.args.«record».now (tables (goal.at.returns c).Start) (sym (f.ensures c.args.online.now) ∙ c.if-not-lengths_fit.false) true
    (sym g.ensures ∙ c.if-not-tables_fit.false))
