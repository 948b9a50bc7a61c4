-- `checker::check::tables_fit` meets its contract.
-- Assumes nothing.
use mathlib.Core.Path.{◌≡◌, sym, ◌∙◌}
use mathlib.Core.Bool.{true, false≢true}
use mathlib.Core.List.{[]}
use borrow.Author.Rules.{rules}
use Rattle.bits.proofs.Tests.{fails}
use Rattle.rules.specs.Tables.{Tables, tables_fit}
use Rattle.lenttables.specs.Lent.{lent}
use Rattle.rowcheck.proofs.Saying.{yes, said}
use Rattle.wellformed.proofs.Whole.{decides, passes_fit, fit_rows, fit_columns, fit_consistent, fit_online}
use Rattle.checker.proofs.check.tables_fit.Goals.{Start}
use Rattle.checker.proofs.check.tables_fit.Goals as goal

-- what the caller lent
module _ (c : Start) where
  abbrev tables : Tables
  tables =
      let x = c.args in
      lent x.full x.state.now x.policy.now x.prio.now x.cpu.now x.slice.now x.mask.now x.rows.now x.counts.now x.flags.now x.online []

pub mask_fits-requires : goal.mask_fits-requires
mask_fits-requires c = c.requires.shape.cpus

pub returns-then-not-mask_fits : goal.returns-then-not-mask_fits
returns-then-not-mask_fits c =
    let n = c.args.n in
    let s = tables (goal.at.returns-then-not-mask_fits c).Start in
    let r = c.args.«record».now in
    let up = c.mask_fits in
    sym
    (fails (tables_fit n r s)
    (λ e. false≢true (sym c.if-not-mask_fits.true ∙ up.ensures ∙ fit_online n s c.requires.shape c.requires.rows_len c.requires.counts_len r e)))

pub returns-then-not-record_fits : goal.returns-then-not-record_fits
returns-then-not-record_fits c =
    let n = c.args.n in
    let s = tables (goal.at.returns-then-not-record_fits c).Start in
    let r = c.args.«record».now in
    let own = c.record_fits in
    sym
    (fails (tables_fit n r s)
    (λ e. false≢true (sym c.if-not-record_fits.true ∙ own.ensures ∙ fit_consistent n s c.requires.shape c.requires.rows_len c.requires.counts_len r e)))

pub returns-in_default : goal.returns-in_default
returns-in_default c =
    let n = c.args.n in
    let s = tables (goal.at.returns-in_default c).Start in
    let r = c.args.«record».now in
    sym
    (fails (tables_fit n r s)
    (λ e. c.in_default.ensures.right (fit_rows n s c.requires.shape c.requires.rows_len c.requires.counts_len r e)))

pub columns_fit-requires : goal.columns_fit-requires
columns_fit-requires c =
    let s = c.requires.shape in record {
      n_le_cpu_places = s.cpus;
      state_len = (s.state, s.policy, s.prio);
      cpu_len = (s.cpu, s.slice, s.mask);
    }

pub returns : goal.returns
returns c =
    let n = c.args.n in
    let s = tables (goal.at.returns c).Start in
    let r = c.args.«record».now in
    let rows = c.in-Some in
    let columns = c.columns_fit in
    let consistent : c.record_fits.result ≡ true = search rules in
    decides columns.result (tables_fit n r s)
    (λ e.
    passes_fit n s c.requires.shape c.requires.rows_len c.requires.counts_len r (search rules) rows.marks rows.ensures.right
    rows.ensures.placed (yes columns.result columns.ensures e) (sym c.record_fits.ensures ∙ consistent)
    (sym c.mask_fits.ensures ∙ c.if-not-mask_fits.false))
    (λ e. said columns.result columns.ensures (fit_columns n s c.requires.shape c.requires.rows_len c.requires.counts_len r e rows.marks rows.ensures.placed))
