-- What the consistency test means: it passes exactly if masks, counts, words and levels say the same and the levels are those of n CPUs.
-- Assumes nothing.
use Rattle.std.proofs.Common.{◌≡◌, ℕ, zero, suc, ◌+◌, ◌/◌, ◌%◌, ◌^◌, ◌<◌, ◌≤◌, Bool, true, false, cond, not, ◌&&◌, ◌||◌, eqb, ltb, ◌≢◌, ◌⊎◌, List, [], ◌∷◌, length, get_or, sym, refl, ap, ◌∙◌, subst, inl, inr, suc-le-suc, le_of_suc-le-suc, not-suc-le-zero, add-zero, add-suc, zero-lt-suc, suc-add, zero-add, arith, ext_get_or, ltb-false, ltb-true, le-ltb, lt-ltb, eq-eqb, ne_eqb, eqb-true}
use lib.ListN.{get_or-eq_default}
use borrow.Author.Tests.{eqb-false, not-true}
use Rattle.bits.specs.Bit.{bit}
use Rattle.bits.proofs.Word.{word_ext}
use Rattle.bits.proofs.Tests.{and_left, and_right, and_both}
use Rattle.bits.proofs.Packed.{bit_packed, packed_lt}
use Rattle.levels.specs.Level.{level_count, cpu_places, unused, invalid, known}
use Rattle.levels.specs.Record.{mask_at, masks_of, counts_of, active, words_of, record_of, Whole}
use Rattle.whole.specs.Whole.{same}
use Rattle.whole.proofs.Same.{same_is, is_same}
use Rattle.consistency.specs.Consistent.{level_fits, fit_from, levels_fit, agrees, consistent, Sized, Consistent}
use Rattle.levels.specs.declared.record.Record.{Record}
use Rattle.levels.proofs.Moved.{length_masks, length_counts, mask_at_lem, count_at_lem}
use Rattle.levels.proofs.Whole.{record_ext, level_known}
use Rattle.consistency.proofs.Words.{words_bit, words_ext}

-- ---- `agrees`

module _ (r : Record) where
  abbrev the_masks : Bool
  the_masks = same r.masks (masks_of r.levels)

  abbrev the_counts : Bool
  the_counts = same r.counts (counts_of r.levels)

  abbrev the_words : Bool
  the_words = same r.words (words_of (counts_of r.levels))

  pub agrees_of : r.masks ≡ masks_of r.levels → r.counts ≡ counts_of r.levels → r.words ≡ words_of (counts_of r.levels) → agrees r ≡ true
  unfolding agrees
  agrees_of m c w = and_both the_masks (the_counts && the_words) (is_same _ _ m) (and_both the_counts the_words (is_same _ _ c) (is_same _ _ w))

  pub agrees_masks : agrees r ≡ true → r.masks ≡ masks_of r.levels
  unfolding agrees
  agrees_masks e = same_is _ _ (and_left the_masks (the_counts && the_words) e)

  pub agrees_counts : agrees r ≡ true → r.counts ≡ counts_of r.levels
  unfolding agrees
  agrees_counts e = same_is _ _ (and_left the_counts the_words (and_right the_masks (the_counts && the_words) e))

  pub agrees_words : agrees r ≡ true → r.words ≡ words_of (counts_of r.levels)
  unfolding agrees
  agrees_words e = same_is _ _ (and_right the_counts the_words (and_right the_masks (the_counts && the_words) e))

-- ---- `levelsFit`

fit_from_lem : (n c : ℕ) (ls : List ℕ) → fit_from n c ls ≡ true → (i : ℕ) → i < length ls → level_fits n (c + i) (get_or ls i 0) ≡ true
unfolding fit_from
fit_from_lem n c [] e i h = absurd (not-suc-le-zero h)
fit_from_lem n c (l ∷ ls) e zero h = ap (λ (k : ℕ). level_fits n k l) (add-zero c) ∙ and_left (level_fits n c l) (fit_from n (suc c) ls) e
fit_from_lem n c (l ∷ ls) e (suc i) h =
    ap (λ (k : ℕ). level_fits n k (get_or ls i 0)) (add-suc c i ∙ sym (suc-add c i))
    ∙ fit_from_lem n (suc c) ls (and_right (level_fits n c l) (fit_from n (suc c) ls) e) i (le_of_suc-le-suc h)

from_fit : (n c : ℕ) (ls : List ℕ) → ((i : ℕ) → i < length ls → level_fits n (c + i) (get_or ls i 0) ≡ true) → fit_from n c ls ≡ true
unfolding fit_from
from_fit n c [] h = refl
from_fit n c (l ∷ ls) h =
    and_both _ _ (ap (λ (k : ℕ). level_fits n k l) (sym (add-zero c)) ∙ h zero (zero-lt-suc (length ls)))
    (from_fit n (suc c) ls (λ i hi. ap (λ (k : ℕ). level_fits n k (get_or ls i 0)) (suc-add c i ∙ sym (add-suc c i)) ∙ h (suc i) (suc-le-suc hi)))

pub fit_at : (n : ℕ) (ls : List ℕ) → levels_fit n ls ≡ true → (c : ℕ) → c < length ls → level_fits n c (get_or ls c 0) ≡ true
unfolding levels_fit
fit_at n ls e c h = ap (λ (k : ℕ). level_fits n k (get_or ls c 0)) (sym (zero-add c)) ∙ fit_from_lem n 0 ls e c h

pub fit_all : (n : ℕ) (ls : List ℕ) → ((c : ℕ) → c < length ls → level_fits n c (get_or ls c 0) ≡ true) → levels_fit n ls ≡ true
unfolding levels_fit
fit_all n ls h = from_fit n 0 ls (λ i hi. ap (λ (k : ℕ). level_fits n k (get_or ls i 0)) (zero-add i) ∙ h i hi)

-- what it says of one place
pub fits_below : (n c l : ℕ) → c < n → level_fits n c l ≡ true → (l ≡ invalid) ⊎ ((l < level_count) × (l ≢ unused))
unfolding level_fits
fits_below n c l h e = go (eqb l invalid) refl (ap (λ (b : Bool). cond b (eqb l invalid || good) (eqb l invalid)) (sym (lt-ltb c n h)) ∙ e)
  where
    good : Bool
    good = ltb l level_count && not (eqb l unused)

    go : (b : Bool) → eqb l invalid ≡ b → (b || good) ≡ true → (l ≡ invalid) ⊎ ((l < level_count) × (l ≢ unused))
    go true i e = inl (eqb-true l invalid i)
    go false i e = inr (
      ltb-true l level_count (and_left (ltb l level_count) (not (eqb l unused)) e),
      eqb-false l unused (not-true (eqb l unused) (and_right (ltb l level_count) (not (eqb l unused)) e)),
    )

pub fits_above : (n c l : ℕ) → n ≤ c → level_fits n c l ≡ true → l ≡ invalid
unfolding level_fits
fits_above n c l h e = eqb-true l invalid (ap (λ (b : Bool). cond b (eqb l invalid || (ltb l level_count && not (eqb l unused))) (eqb l invalid)) (sym (le-ltb c n h)) ∙ e)

pub below_fits : (n c l : ℕ) → c < n → l < level_count → l ≢ unused → level_fits n c l ≡ true
unfolding level_fits
below_fits n c l h hl d =
    ap (λ (b : Bool). cond b (eqb l invalid || (ltb l level_count && not (eqb l unused))) (eqb l invalid)) (lt-ltb c n h)
    ∙ ap (λ (b : Bool). b || (ltb l level_count && not (eqb l unused))) (ne_eqb l invalid (λ e. omega arith))
    ∙ and_both _ _ (lt-ltb l level_count hl) (ap not (ne_eqb l unused d))

-- INVALID may stand anywhere
pub invalid_fits : (n c l : ℕ) → l ≡ invalid → level_fits n c l ≡ true
unfolding level_fits
invalid_fits n c l e = go (ltb c n)
  where
    go : (b : Bool) → cond b (eqb l invalid || (ltb l level_count && not (eqb l unused))) (eqb l invalid) ≡ true
    go true = ap (λ (b : Bool). b || (ltb l level_count && not (eqb l unused))) (eq-eqb l invalid e)
    go false = eq-eqb l invalid e

pub fits_known : (n c l : ℕ) → level_fits n c l ≡ true → known l ≡ true
unfolding known
fits_known n c l e = go (ltb c n) refl
  where
    go : (b : Bool) → ltb c n ≡ b → known l ≡ true
    go true t = one (fits_below n c l (ltb-true c n t) e)
      where
        one : (l ≡ invalid) ⊎ ((l < level_count) × (l ≢ unused)) → known l ≡ true
        one (inl i) = ap known i
        one (inr k) = level_known l k.0
    go false t = ap known (fits_above n c l (ltb-false c n t) e)

-- ---- the meaning

pub mask_bit : (xs : List ℕ) (l c : ℕ) → c < length xs → bit (mask_at xs l) c ≡ eqb (get_or xs c 0) l
unfolding mask_at
mask_bit xs l c h = bit_packed (λ (x : ℕ). eqb x l) 0 xs c h

pub mask_lt : (xs : List ℕ) (l : ℕ) → length xs ≡ cpu_places → mask_at xs l < 2 ^ 64
unfolding mask_at
mask_lt xs l len = subst (λ (k : ℕ). mask_at xs l < 2 ^ k) len (packed_lt (λ (x : ℕ). eqb x l) xs)

-- past the last level no count is read
past : (cs : List ℕ) (l : ℕ) → length cs ≡ level_count → level_count ≤ l → active (get_or cs l 0) ≡ false
past cs l len h = ap active (get_or-eq_default cs 0 (omega arith))

module _ (n : ℕ) (r : Record) (sized : Sized r) where
  -- what the test says
  pub consistent_means : consistent n r ≡ true → Consistent n r
  unfolding consistent
  consistent_means e = record {
    masks = λ l c hl hc. ap (λ (ms : List ℕ). bit (get_or ms l 0) c) (agrees_masks r ok) ∙ ap (λ (m : ℕ). bit m c) (mask_at_lem r.levels l hl) ∙ mask_bit r.levels l c (place c hc);
    counts = λ l hl. ap (λ (cs : List ℕ). get_or cs l 0) (agrees_counts r ok) ∙ count_at_lem r.levels l hl;
    words = λ l hl. word_bit l (omega arith);
    clear = λ l hl h. word_bit l h ∙ past r.counts l sized.counts hl;
    below = λ c h hc. fits_below n c (get_or r.levels c 0) h (fit_at n r.levels fit c (place c hc));
    above = λ c h hc. fits_above n c (get_or r.levels c 0) h (fit_at n r.levels fit c (place c hc));
  }
    where
      fit : levels_fit n r.levels ≡ true
      fit = and_left (levels_fit n r.levels) (agrees r) e

      ok : agrees r ≡ true
      ok = and_right (levels_fit n r.levels) (agrees r) e

      place : (c : ℕ) → c < cpu_places → c < length r.levels
      place c h = omega (arith, sized.levels)

      word_bit : (l : ℕ) → l < 128 → bit (get_or r.words (l / 64) 0) (l % 64) ≡ active (get_or r.counts l 0)
      word_bit l h =
          ap (λ (ws : List ℕ). bit (get_or ws (l / 64) 0) (l % 64)) (agrees_words r ok ∙ ap words_of (sym (agrees_counts r ok)))
          ∙ words_bit r.counts l h

  -- and nothing else does
  pub means_consistent : Consistent n r → consistent n r ≡ true
  unfolding consistent
  means_consistent k = and_both (levels_fit n r.levels) (agrees r) (fit_all n r.levels fits) (agrees_of r masks counts words)
    where
      fits : (c : ℕ) → c < length r.levels → level_fits n c (get_or r.levels c 0) ≡ true
      fits c h = go (ltb c n) refl
        where
          hc : c < cpu_places
          hc = omega (arith, sized.levels)

          go : (b : Bool) → ltb c n ≡ b → level_fits n c (get_or r.levels c 0) ≡ true
          go true e = let l : c < n = ltb-true c n e in one l (k.below c l hc)
            where
              one : c < n → (get_or r.levels c 0 ≡ invalid) ⊎ ((get_or r.levels c 0 < level_count) × (get_or r.levels c 0 ≢ unused)) → level_fits n c (get_or r.levels c 0) ≡ true
              one l (inl i) = invalid_fits n c (get_or r.levels c 0) i
              one l (inr b) = below_fits n c (get_or r.levels c 0) l b.0 b.1
          go false e = let l : n ≤ c = ltb-false c n e in invalid_fits n c (get_or r.levels c 0) (k.above c l hc)

      masks : r.masks ≡ masks_of r.levels
      masks = ext_get_or 0 r.masks (masks_of r.levels) (sized.masks ∙ sym (length_masks r.levels)) (λ l h.
          let hl : l < level_count = omega (arith, sized.masks) in
          word_ext 64 (get_or r.masks l 0) (mask_at r.levels l) (sized.mask l) (mask_lt r.levels l sized.levels)
          (λ c hc. k.masks l c hl hc ∙ sym (mask_bit r.levels l c (omega (arith, sized.levels))))
          ∙ sym (mask_at_lem r.levels l hl))

      counts : r.counts ≡ counts_of r.levels
      counts = ext_get_or 0 r.counts (counts_of r.levels) (sized.counts ∙ sym (length_counts r.levels)) (λ l h.
          let hl : l < level_count = omega (arith, sized.counts) in
          k.counts l hl ∙ sym (count_at_lem r.levels l hl))

      bits : (l : ℕ) → l < 128 → bit (get_or r.words (l / 64) 0) (l % 64) ≡ active (get_or r.counts l 0)
      bits l h = go (ltb l level_count) refl
        where
          go : (b : Bool) → ltb l level_count ≡ b → bit (get_or r.words (l / 64) 0) (l % 64) ≡ active (get_or r.counts l 0)
          go true e = k.words l (ltb-true l level_count e)
          go false e = let hl : level_count ≤ l = ltb-false l level_count e in k.clear l hl h ∙ sym (past r.counts l sized.counts hl)

      words : r.words ≡ words_of (counts_of r.levels)
      words = words_ext r.counts r.words sized.words sized.counts (sized.word 0) (sized.word 1) bits ∙ ap words_of counts

-- a consistent record is whole, so its levels can be set
pub consistent_whole : (n : ℕ) (r : Record) → length r.levels ≡ cpu_places → consistent n r ≡ true → Whole r
unfolding consistent record_of
consistent_whole n r len e = record {
  same = record_ext r (record_of r.levels) (agrees_masks r ok) (agrees_counts r ok) (agrees_words r ok) refl;
  places = len;
  each = λ c h. fits_known n c (get_or r.levels c 0) (fit_at n r.levels fit c (omega arith));
}
  where
    fit : levels_fit n r.levels ≡ true
    fit = and_left (levels_fit n r.levels) (agrees r) e

    ok : agrees r ≡ true
    ok = and_right (levels_fit n r.levels) (agrees r) e
