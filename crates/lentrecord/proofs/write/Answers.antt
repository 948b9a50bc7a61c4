-- `lentrecord::write` meets its contract: each table has the length of its part of the record, and takes that over.
-- Assumes nothing.
use borrow.Author.Rules.{rules}
use mathlib.Core.Path.{◌≡◌, ◌∙◌}
use lib.ListN.{length}
use Rattle.lentrecord.proofs.Records.{Sized, sized, same_record}
use Rattle.lentrecord.proofs.write.Goals.{Start}
use Rattle.lentrecord.proofs.write.Goals as goal

lent : (c : Start) → let a = c.args in Sized (length a.masks.now) (length a.counts.now) (length a.words.now) (length a.levels.now)
lent c = let a = c.args in sized (length a.masks.now) (length a.counts.now) (length a.words.now) (length a.levels.now) c.requires

pub copy_from_slice-requires : goal.copy_from_slice-requires
copy_from_slice-requires c =
    let s = (goal.at.copy_from_slice-requires c).Start in
    let e : 102 ≡ length s.args.«record».now.masks = search rules in
    (lent s).masks ∙ e

pub copy_from_slice-requires-2 : goal.copy_from_slice-requires-2
copy_from_slice-requires-2 c =
    let s = (goal.at.copy_from_slice-requires-2 c).Start in
    let e : 102 ≡ length s.args.«record».now.counts = search rules in
    (lent s).counts ∙ e

pub copy_from_slice-requires-3 : goal.copy_from_slice-requires-3
copy_from_slice-requires-3 c =
    let s = (goal.at.copy_from_slice-requires-3 c).Start in
    let e : 2 ≡ length s.args.«record».now.words = search rules in
    (lent s).words ∙ e

pub copy_from_slice-requires-4 : goal.copy_from_slice-requires-4
copy_from_slice-requires-4 c =
    let s = (goal.at.copy_from_slice-requires-4 c).Start in
    let e : 64 ≡ length s.args.«record».now.levels = search rules in
    (lent s).levels ∙ e

pub returns : goal.returns
returns c = same_record c.copy_from_slice.ensures.after c.copy_from_slice-2.ensures.after c.copy_from_slice-3.ensures.after c.copy_from_slice-4.ensures.after
