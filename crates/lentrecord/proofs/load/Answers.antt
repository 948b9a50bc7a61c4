-- `lentrecord::load` meets its contract: its arrays have the lengths of a record's, and take the tables over.
-- Assumes nothing.
use borrow.Author.Rules.{rules}
use mathlib.Core.Path.{◌≡◌, sym, ◌∙◌}
use lib.ListN.{length}
use Rattle.lentrecord.proofs.Records.{Sized, sized, same_record}
use Rattle.lentrecord.proofs.load.Goals.{Start}
use Rattle.lentrecord.proofs.load.Goals as goal

lent : (c : Start) → let a = c.args in Sized (length a.masks.now) (length a.counts.now) (length a.words.now) (length a.levels.now)
lent c = let a = c.args in sized (length a.masks.now) (length a.counts.now) (length a.words.now) (length a.levels.now) c.requires

pub copy_from_slice-requires : goal.copy_from_slice-requires
copy_from_slice-requires c =
    let s = (goal.at.copy_from_slice-requires c).Start in
    let e : length s.args.«record».now.masks ≡ 102 = search rules in
    e ∙ sym (lent s).masks

pub copy_from_slice-requires-2 : goal.copy_from_slice-requires-2
copy_from_slice-requires-2 c =
    let s = (goal.at.copy_from_slice-requires-2 c).Start in
    let e : length s.args.«record».now.counts ≡ 102 = search rules in
    e ∙ sym (lent s).counts

pub copy_from_slice-requires-3 : goal.copy_from_slice-requires-3
copy_from_slice-requires-3 c =
    let s = (goal.at.copy_from_slice-requires-3 c).Start in
    let e : length s.args.«record».now.words ≡ 2 = search rules in
    e ∙ sym (lent s).words

pub copy_from_slice-requires-4 : goal.copy_from_slice-requires-4
copy_from_slice-requires-4 c =
    let s = (goal.at.copy_from_slice-requires-4 c).Start in
    let e : length s.args.«record».now.levels ≡ 64 = search rules in
    e ∙ sym (lent s).levels

pub returns : goal.returns
returns c = same_record c.copy_from_slice.ensures.after c.copy_from_slice-2.ensures.after c.copy_from_slice-3.ensures.after c.copy_from_slice-4.ensures.after
