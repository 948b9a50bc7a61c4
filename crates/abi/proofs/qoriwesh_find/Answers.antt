-- `abi::qoriwesh_find` meets its contract.
-- Assumes nothing.
use mathlib.Core.Path.{◌≡◌, sym, ◌∙◌}
use mathlib.Core.Bool.{true}
use borrow.Author.Rules.{rules}
use lib.ListN.{length, get_or}
use mir.Syntax.{w64}
use mir.Val.{Fits}
use Rattle.levels.specs.Record.{lent_record}
use Rattle.levels.specs.declared.record.Record.{Record}
use Rattle.lentrecord.specs.Lent.{lent_fits}
use Rattle.lentrecord.proofs.Entries.{found_unfit, found_fit}
use Rattle.lentrecord.proofs.Records.{sized}
use Rattle.abi.proofs.qoriwesh_find.Goals.{Else-not-lengths_fit, Start}
use Rattle.abi.proofs.qoriwesh_find.Goals as goal

-- what the caller lent
module _ (c : Start) where
  abbrev given : Record
  given = let x = c.args in lent_record x.level_masks.now x.level_counts.now x.level_words.now x.levels.now

-- the lengths fit
fits : (c : Else-not-lengths_fit) → lent_fits (given (goal.at.Else-not-lengths_fit c).Start) ≡ true
fits c = let k = c in let f = k.lengths_fit in sym f.ensures ∙ k.if-not-lengths_fit.false

pub returns-then-not-lengths_fit : goal.returns-then-not-lengths_fit
returns-then-not-lengths_fit c =
    let x = c.args in
    let f = c.lengths_fit in
    c.tell.ensures ∙ found_unfit x.n (given (goal.at.returns-then-not-lengths_fit c).Start) x.level x.mask (sym f.ensures ∙ c.if-not-lengths_fit.true)

pub find_in-found-requires : goal.find_in-found-requires
find_in-found-requires c =
    let r = given (goal.at.find_in-found-requires c).Start in
    let long = sized (length r.masks) (length r.counts) (length r.words) (length r.levels) (fits (goal.at.find_in-found-requires c).Else-not-lengths_fit) in
    record {
      masks = long.masks;
      counts = long.counts;
      words = long.words;
      levels = long.levels;
      mask = λ l. let f : Fits w64 (get_or r.masks l 0) = search rules in f.fits;
      word = λ i. let f : Fits w64 (get_or r.words i 0) = search rules in f.fits;
    }

pub returns : goal.returns
returns c =
    let x = c.args in
    c.tell-2.ensures ∙ found_fit x.n (given (goal.at.returns c).Start) x.level x.mask c.find_in-found.result (fits (goal.at.returns c).Else-not-lengths_fit) c.find_in-found.ensures
