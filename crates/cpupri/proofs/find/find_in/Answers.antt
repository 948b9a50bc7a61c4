-- `cpupri::find::find_in` meets its contract: the tests on the way are those of `find_tests` in their order. Assumes nothing.
use borrow.Author.Rules.{rules}
use mathlib.Core.Path.{◌≡◌, refl, sym, ap, ◌∙◌}
use mathlib.Core.Bool.{Bool, true, false, not, cond}
use Prim.Native.Nat.{ℕ}
use lib.Dec.{leb}
use borrow.Author.Tests.{le-leb, lt-leb}
use Rattle.levels.specs.Level.{level_count}
use Rattle.levels.specs.Record.{lent_record}
use Rattle.consistency.specs.Consistent.{consistent}
use Rattle.cpupri.specs.Found.{size_fits, mask_fits, find_tests, tested, lowest_found, found}
use Rattle.std.specs.Prelude.{Result, Ok, Err}
use Rattle.refusal.specs.declared.Refusal.{Refusal}
use Rattle.refusal.specs.declared.Refusal.TheVariants.{BadSize, IllFormed, BadValue, BadMask}
use Rattle.cpupri.specs.declared.find.Found.{Found}
use Rattle.levels.specs.declared.record.Record.{Record}
use Rattle.consistency.proofs.Agrees.{consistent_whole}
use Rattle.cpupri.proofs.Search.{marked_whole}
use Rattle.cpupri.proofs.find.find_in.Goals.{Else-asked-ge-LEVELS, Else-not-is_consistent, Else-not-n, Start}
use Rattle.cpupri.proofs.find.find_in.Goals as goal

-- the answer by what the four tests say
abbrev answer : Bool → Bool → Bool → Bool → Found → Result Found Refusal
answer size good high fit f =
    cond (not size) (Err BadSize) (cond (not good) (Err IllFormed) (cond high (Err BadValue) (cond (not fit) (Err BadMask) (Ok f))))

found_is : (n : ℕ) (r : Record) (level mask : ℕ) {size good high fit : Bool}
    → size_fits n ≡ size → consistent n r ≡ good → leb level_count level ≡ high → mask_fits n mask ≡ fit
    → found n r level mask ≡ answer size good high fit (lowest_found r.masks level mask)
unfolding found find_tests tested
found_is n r level mask p q s t = λ i. answer (p i) (q i) (s i) (t i) (lowest_found r.masks level mask)

-- the record that is lent
abbrev lent : Start → Record
lent c = let a = c.args in lent_record a.masks.now a.counts.now a.words.now a.levels.now

-- ---- the checks that were passed

fits : (c : Else-not-n) → size_fits c.args.n ≡ true
unfolding size_fits
fits c = c.if-not-n.false

good : (c : Else-not-is_consistent) → let k = c in consistent k.args.n (lent (goal.at.Else-not-is_consistent k).Start) ≡ true
good c = let k = c in sym k.is_consistent.ensures ∙ k.if-not-is_consistent.false

low : (c : Else-asked-ge-LEVELS) → leb level_count c.args.level ≡ false
low c = let k = c in lt-leb 102 k.args.level k.if-asked-ge-LEVELS.false

-- ---- the needs
pub returns-then-not-n : goal.returns-then-not-n
unfolding size_fits
returns-then-not-n c =
    let a = c.args in
    sym (found_is a.n (lent (goal.at.returns-then-not-n c).Start) a.level a.mask c.if-not-n.true refl refl refl)

pub returns-then-not-is_consistent : goal.returns-then-not-is_consistent
returns-then-not-is_consistent c =
    let a = c.args in
    let bad = sym c.is_consistent.ensures ∙ c.if-not-is_consistent.true in
    sym (found_is a.n (lent (goal.at.returns-then-not-is_consistent c).Start) a.level a.mask (fits (goal.at.returns-then-not-is_consistent c).Else-not-n) bad refl refl)

pub returns-then-asked-ge-LEVELS : goal.returns-then-asked-ge-LEVELS
returns-then-asked-ge-LEVELS c =
    let a = c.args in
    sym (found_is a.n (lent (goal.at.returns-then-asked-ge-LEVELS c).Start) a.level a.mask (fits (goal.at.returns-then-asked-ge-LEVELS c).Else-not-n) (good (goal.at.returns-then-asked-ge-LEVELS c).Else-not-is_consistent) (le-leb 102 a.level c.if-asked-ge-LEVELS.true) refl)

pub returns-then-not-mask_fits : goal.returns-then-not-mask_fits
returns-then-not-mask_fits c =
    let a = c.args in
    let bad = sym c.mask_fits.ensures ∙ c.if-not-mask_fits.true in
    sym (found_is a.n (lent (goal.at.returns-then-not-mask_fits c).Start) a.level a.mask (fits (goal.at.returns-then-not-mask_fits c).Else-not-n) (good (goal.at.returns-then-not-mask_fits c).Else-not-is_consistent) (low (goal.at.returns-then-not-mask_fits c).Else-asked-ge-LEVELS) bad)

pub lowest_found-requires : goal.lowest_found-requires
lowest_found-requires c =
    let a = c.args in
    let r = lent (goal.at.lowest_found-requires c).Start in record {
      below_le_level_count = search rules;
      marked = marked_whole r (consistent_whole a.n r c.requires.levels (good (goal.at.lowest_found-requires c).Else-not-is_consistent));
      masks_len = (c.requires.masks, c.requires.words);
    }

pub returns : goal.returns
returns c =
    let a = c.args in
    let fit = sym c.mask_fits.ensures ∙ c.if-not-mask_fits.false in
    ap Ok c.lowest_found.ensures
    ∙ sym (found_is a.n (lent (goal.at.returns c).Start) a.level a.mask (fits (goal.at.returns c).Else-not-n) (good (goal.at.returns c).Else-not-is_consistent) (low (goal.at.returns c).Else-asked-ge-LEVELS) fit)
