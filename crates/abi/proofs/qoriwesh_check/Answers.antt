-- `abi::qoriwesh_check` meets its contract.
-- Assumes nothing.
use mathlib.Core.Path.{◌≡◌, sym, ◌∙◌}
use mathlib.Core.Bool.{true}
use Prim.Native.Nat.{ℕ}
use Rattle.levels.specs.Record.{lent_record}
use Rattle.levels.specs.declared.record.Record.{Record}
use Rattle.cpupri.specs.Record.{lent_record}
use Rattle.lenttables.specs.Lent.{lent}
use Rattle.rules.specs.Entry.{checked}
use Rattle.rules.specs.Tables.{Tables}
use Rattle.lentrecord.specs.Entry.{lent_checked}
use Rattle.lentrecord.specs.Lent.{lent_fits}
use Rattle.lentrecord.proofs.Entries.{checked_unfit, checked_fit}
use Rattle.abi.proofs.qoriwesh_check.Goals.{After-check_lent-checked, Else-not-lengths_fit, Start}
use Rattle.abi.proofs.qoriwesh_check.Goals as goal

-- what the caller lent
module _ (c : Start) where
  abbrev given : Record
  given = let x = c.args in lent_record x.level_masks.now x.level_counts.now x.level_words.now x.levels.now

  abbrev tables : Tables
  tables =
      let x = c.args in
      lent x.full x.state.now x.policy.now x.prio.now x.cpu.now x.slice.now x.mask.now x.rows.now x.counts.now x.flags.now x.online.now x.log.now

-- the lengths fit
fits : (c : Else-not-lengths_fit) → lent_fits (given (goal.at.Else-not-lengths_fit c).Start) ≡ true
fits c = let k = c in let f = k.lengths_fit in sym f.ensures ∙ k.if-not-lengths_fit.false

pub returns-then-not-lengths_fit : goal.returns-then-not-lengths_fit
returns-then-not-lengths_fit c =
    let s = (goal.at.returns-then-not-lengths_fit c).Start in
    let f = c.lengths_fit in
    c.number.ensures ∙ checked_unfit c.args.n (given s) (tables s) (sym f.ensures ∙ c.if-not-lengths_fit.true)

-- what the check answered
module _ (c : After-check_lent-checked) where
  as_checked : (a : ℕ) → let s = (goal.at.After-check_lent-checked c).Start in
      a ≡ checked c.args.n c.load.new.«record» (tables s) → a ≡ lent_checked c.args.n (given s) (tables s)
  as_checked a is =
      let s = (goal.at.After-check_lent-checked c).Start in
      checked_fit c.args.n a (given s) c.load.new.«record» (tables s) (fits (goal.at.After-check_lent-checked c).Else-not-lengths_fit) c.load.ensures is

pub returns-in-Ok : goal.returns-in-Ok
returns-in-Ok c = as_checked (goal.at.returns-in-Ok c).After-check_lent-checked 0 c.in-Ok.ensures

pub returns-in-Err : goal.returns-in-Err
returns-in-Err c = c.number-in-Err.ensures ∙ as_checked (goal.at.returns-in-Err c).After-check_lent-checked _ c.in-Err.ensures
