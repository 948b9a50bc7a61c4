-- `abi::qoriwesh_event` meets its contract.
-- Assumes nothing.
use mathlib.Core.Path.{◌≡◌, refl, sym, ◌∙◌}
use mathlib.Core.Bool.{true}
use Prim.Native.Nat.{ℕ}
use Rattle.levels.specs.Record.{lent_record}
use Rattle.levels.specs.declared.record.Record.{Record}
use Rattle.lenttables.specs.Lent.{lent}
use Rattle.rules.specs.Entry.{result_of, handled}
use Rattle.rules.specs.Events.{Event, event}
use Rattle.rules.specs.Tables.{Tables}
use Rattle.lentrecord.proofs.Entries.{handled_unfit, handled_fit, checked_again}
use Rattle.lentrecord.proofs.Records.{fits_again}
use Rattle.lentrecord.specs.Entry.{lent_handled}
use Rattle.lentrecord.specs.Lent.{lent_fits}
use Rattle.abi.proofs.qoriwesh_event.Goals.{After-write, Else-not-lengths_fit, Start}
use Rattle.abi.proofs.qoriwesh_event.Goals as goal

-- what the caller lent
module _ (c : Start) where
  abbrev given : Record
  given = let x = c.args in lent_record x.level_masks.now x.level_counts.now x.level_words.now x.levels.now

  abbrev tables : Tables
  tables =
      let x = c.args in
      lent x.full x.state.now x.policy.now x.prio.now x.cpu.now x.slice.now x.mask.now x.rows.now x.counts.now x.flags.now x.online.now x.log.now

  abbrev asked : Event
  asked = let x = c.args in event x.kind x.who x.a x.b x.k

-- the lengths fit
fits : (c : Else-not-lengths_fit) → lent_fits (given (goal.at.Else-not-lengths_fit c).Start) ≡ true
fits c = let k = c in let f = k.lengths_fit in sym f.ensures ∙ k.if-not-lengths_fit.false

-- what came back
module _ (c : After-write) where
  abbrev left : Record
  left = let w = c.write.new in lent_record w.masks w.counts w.words w.levels

  abbrev left_tables : Tables
  left_tables =
      let o = c.event_lent-done.new in
      lent c.args.full o.state o.policy o.prio o.cpu o.slice o.mask o.rows o.counts o.flags o.online o.log

  fit : lent_fits (given (goal.at.After-write c).Start) ≡ true
  fit = fits (goal.at.After-write c).Else-not-lengths_fit

  back : (a k : ℕ) → let s = (goal.at.After-write c).Start in
      result_of a k c.event_lent-done.new.«record» left_tables ≡ handled c.args.n c.load.new.«record» (tables s) (asked s)
      → result_of a k left left_tables ≡ lent_handled c.args.n (given s) (tables s) (asked s)
  back a k is =
      let s = (goal.at.After-write c).Start in
      handled_fit c.args.n a k (given s) c.load.new.«record» c.event_lent-done.new.«record» left (tables s) left_tables (asked s) fit c.load.ensures is c.write.ensures

pub returns-then-not-lengths_fit-clause-as_ruled : goal.returns-then-not-lengths_fit-clause-as_ruled
returns-then-not-lengths_fit-clause-as_ruled c =
    let s = (goal.at.returns-then-not-lengths_fit-clause-as_ruled c).Start in
    let f = c.lengths_fit in
    rw c.number.ensures (handled_unfit c.args.n (given s) (tables s) (asked s) (sym f.ensures ∙ c.if-not-lengths_fit.true))

pub returns-in-Ok-clause-as_ruled : goal.returns-in-Ok-clause-as_ruled
returns-in-Ok-clause-as_ruled c = back (goal.at.returns-in-Ok-clause-as_ruled c).After-write 0 c.in-Ok.taken c.in-Ok.ensures.as_ruled

pub returns-in-Ok-clause-leaves_well_formed : goal.returns-in-Ok-clause-leaves_well_formed
returns-in-Ok-clause-leaves_well_formed c =
    let w = (goal.at.returns-in-Ok-clause-leaves_well_formed c).After-write in
    let again = fits_again c.write.auto.masks c.write.auto.counts c.write.auto.words c.write.auto.levels (fit w) in
    λ z. checked_again c.args.n (left w) c.event_lent-done.new.«record» (left_tables w) again c.write.ensures (c.in-Ok.ensures.leaves_well_formed refl)

pub returns-in-Err-clause-as_ruled : goal.returns-in-Err-clause-as_ruled
returns-in-Err-clause-as_ruled c = rw c.number-in-Err.ensures (back (goal.at.returns-in-Err-clause-as_ruled c).After-write _ 0 c.in-Err.ensures.as_ruled)
