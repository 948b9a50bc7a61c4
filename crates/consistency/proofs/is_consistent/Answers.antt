-- `consistency::is_consistent` meets its contract.
-- Assumes nothing.
use Rattle.std.proofs.Common.{◌≡◌, ℕ, ◌<◌, min, true, List, length, take, get_or, sym, refl, ap, ◌∙◌, zero-le, arith, take_all}
use Rattle.levels.specs.Level.{cpu_places, known}
use Rattle.levels.specs.Record.{lent_record, masks_of, counts_of, words_of}
use Rattle.levels.specs.declared.record.Record.{Record}
use Rattle.whole.specs.Whole.{same, invalid_from}
use Rattle.consistency.specs.Gathered.{Left}
use Rattle.whole.proofs.From.{from_bounded}
use Rattle.consistency.proofs.Gathered.{unfit, tested}
use Rattle.consistency.proofs.Taken.{gathered_start, left_start, left_none}
use Rattle.consistency.proofs.is_consistent.Goals.{After-places, Else-not-gather, Start}
use Rattle.consistency.proofs.is_consistent.Goals as goal

-- the record that is lent
abbrev lent : Start → Record
lent c = let a = c.args in lent_record a.masks.now a.counts.now a.words.now a.levels.now

-- the levels of the CPUs below n, and INVALID from there on
abbrev right : Start → List ℕ
right c = invalid_from c.args.n c.args.levels.now

-- the pass came to the last place below n
module _ (c : After-places) where
  end_is : c.places.result ≡ min c.args.n cpu_places
  end_is = c.places.ensures

  bounded : let k = c in invalid_from k.places.result k.args.levels.now ≡ right (goal.at.After-places k).Start
  bounded =
      let k = c in
      from_bounded k.args.n k.places.result k.args.levels.now (end_is ∙ ap (min k.args.n) (sym k.requires.levels))

-- as many masks as are copied there are
all_masks : (c : Start) → take 102 c.args.masks.now ≡ c.args.masks.now
all_masks c = take_all 102 c.args.masks.now (omega (arith, c.requires.masks))

-- ---- where all levels are known, the counts and words are gathered, and it is known what is left of the masks

module _ (c : Else-not-gather) where
  passed : c.gather.result ≡ true
  passed = let k = c in k.if-not-gather.false

  all : let k = c in (i : ℕ) → i < k.args.n → i < length k.args.levels.now → known (get_or k.args.levels.now i 0) ≡ true
  all i h hi = let k = c in k.gather.ensures.all passed i zero-le (omega (arith, h, hi, k.requires.levels, end_is (goal.at.Else-not-gather k).After-places))

  counts_are : let k = c in k.gather.new.counts ≡ counts_of (right (goal.at.Else-not-gather k).Start)
  counts_are = let k = c in (k.gather.ensures.right passed).counts_are ∙ ap counts_of (bounded (goal.at.Else-not-gather k).After-places)

  words_are : let k = c in k.gather.new.words ≡ words_of (counts_of (right (goal.at.Else-not-gather k).Start))
  words_are = let k = c in (k.gather.ensures.right passed).words_are ∙ ap words_of counts_are

  left_is : let k = c in Left k.args.levels.now k.places.result k.args.masks.now k.gather.new.left
  left_is =
      let k = c in
      k.gather.ensures.takes passed k.args.masks.now
      (left_start k.args.levels.now 0 k.args.masks.now k.copy_from_slice.new.self k.requires.mask k.requires.masks (k.copy_from_slice.ensures.after ∙ all_masks (goal.at.Else-not-gather k).Start))

pub copy_from_slice-requires : goal.copy_from_slice-requires
copy_from_slice-requires c = sym (ap length (all_masks (goal.at.copy_from_slice-requires c).Start) ∙ c.requires.masks)

pub slice_bounds-copy_from_slice-end-2 : goal.slice_bounds-copy_from_slice-end-2
slice_bounds-copy_from_slice-end-2 c = omega (arith, c.requires.masks, ap length (all_masks (goal.at.slice_bounds-copy_from_slice-end-2 c).Start))

pub gather-requires : goal.gather-requires
gather-requires c =
    record {
      from_len = c.requires.levels;
      end_le_cpu_places = omega (arith, c.places.ensures);
      gathered = gathered_start c.args.levels.now;
    }

pub returns-then-not-gather : goal.returns-then-not-gather
returns-then-not-gather c =
    let q = c.gather.ensures.none c.if-not-gather.true in
    let e = end_is (goal.at.returns-then-not-gather c).After-places in
    unfit c.args.n (lent (goal.at.returns-then-not-gather c).Start) q.0 (omega (arith, q.1.0, e)) (omega (arith, q.1.0, e, c.requires.levels)) q.1.1

pub returns : goal.returns
returns c =
    let x = c.args in
    let s = (goal.at.returns c).Start in
    let none =
    c.none_u64.ensures ∙ left_none x.levels.now c.places.result x.masks.now c.gather.new.left c.requires.mask c.requires.masks c.requires.levels (left_is (goal.at.returns c).Else-not-gather)
    ∙ ap (λ (ls : List ℕ). same x.masks.now (masks_of ls)) (bounded (goal.at.returns c).After-places) in
    tested x.n (lent s) (all (goal.at.returns c).Else-not-gather) c.none_u64.result c.same_u8.result c.same_u64.result _ c.absent.result
    none (c.same_u8.ensures ∙ ap (same x.counts.now) (counts_are (goal.at.returns c).Else-not-gather)) (c.same_u64.ensures ∙ ap (same x.words.now) (words_are (goal.at.returns c).Else-not-gather)) refl
    c.absent.ensures
