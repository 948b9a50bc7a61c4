-- `abifresh::qoriwesh_make_fresh` meets its contract.
-- Assumes nothing.
use mathlib.Core.Path.{◌≡◌, refl, sym, ◌∙◌}
use Prim.Native.Nat.{ℕ}
use Rattle.levels.specs.Record.{lent_record}
use Rattle.levels.specs.declared.record.Record.{Record}
use Rattle.lenttables.specs.Lent.{lent}
use Rattle.rules.specs.Entry.{result_of, made}
use Rattle.rules.specs.Tables.{Tables}
use Rattle.lentrecord.proofs.Entries.{made_unfit, made_fit}
use Rattle.lentrecord.specs.Entry.{lent_made}
use Rattle.abifresh.proofs.qoriwesh_make_fresh.Goals.{After-write, Start}
use Rattle.abifresh.proofs.qoriwesh_make_fresh.Goals as goal

-- what the caller lent
module _ (c : Start) where
  abbrev given : Record
  given = let x = c.args in lent_record x.level_masks.now x.level_counts.now x.level_words.now x.levels.now

  abbrev tables : Tables
  tables =
      let x = c.args in
      lent x.full x.state.now x.policy.now x.prio.now x.cpu.now x.slice.now x.mask.now x.rows.now x.counts.now x.flags.now x.online.now x.log.now

-- what came back
module _ (c : After-write) where
  abbrev left : Record
  left = let w = c.write.new in lent_record w.masks w.counts w.words w.levels

  abbrev left_tables : Tables
  left_tables =
      let o = c.make_fresh_lent-made.new in
      lent c.args.full o.state o.policy o.prio o.cpu o.slice o.mask o.rows o.counts o.flags o.online o.log

  back : (a : ℕ) → let s = (goal.at.After-write c).Start in
      result_of a 0 c.make_fresh_lent-made.new.«record» left_tables ≡ made c.args.n c.load.new.«record» (tables s)
      → result_of a 0 left left_tables ≡ lent_made c.args.n (given s) (tables s)
  back a is =
      let s = (goal.at.After-write c).Start in
      let k = c in
      let f = k.lengths_fit in
      made_fit c.args.n a (given s) c.load.new.«record» c.make_fresh_lent-made.new.«record» left (tables s) left_tables
      (sym f.ensures ∙ k.if-not-lengths_fit.false) c.load.ensures is c.write.ensures

pub returns-then-not-lengths_fit : goal.returns-then-not-lengths_fit
returns-then-not-lengths_fit c =
    let s = (goal.at.returns-then-not-lengths_fit c).Start in
    let f = c.lengths_fit in
    rw c.number.ensures
    record {
      as_ruled = made_unfit c.args.n (given s) (tables s) (sym f.ensures ∙ c.if-not-lengths_fit.true);
      slice_handed_back = refl;
    }

pub returns-in-Ok-clause-as_ruled : goal.returns-in-Ok-clause-as_ruled
returns-in-Ok-clause-as_ruled c = back (goal.at.returns-in-Ok-clause-as_ruled c).After-write 0 c.in-Ok.ensures.as_ruled

pub returns-in-Err-clause-as_ruled : goal.returns-in-Err-clause-as_ruled
returns-in-Err-clause-as_ruled c = rw c.number-in-Err.ensures (back (goal.at.returns-in-Err-clause-as_ruled c).After-write _ c.in-Err.ensures.as_ruled)
