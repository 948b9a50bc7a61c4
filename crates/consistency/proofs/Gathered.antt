-- Levels with INVALID from a place on: how a pass over the CPUs comes to them, and that a record is consistent exactly if these levels fit and
-- its four tables are those of the record that they determine.
-- Assumes nothing.
use Rattle.std.proofs.Common.{◌≡◌, ℕ, ◌<◌, ◌≤◌, Bool, true, false, ◌&&◌, eqb, ltb, ◌≢◌, ◌⊎◌, List, length, get_or, sym, refl, ap, ◌∙◌, subst, inl, inr, arith, ext_get_or, pow_pos, ltb-false, ltb-true, eq-eqb, ne_eqb, eqb-true}
use mathlib.Core.Bool.{and-true, and-false, and_assoc, false≢true}
use borrow.Author.Tests.{eqb-false}
use Rattle.bits.specs.Bit.{bit, packed}
use Rattle.bits.proofs.Packed.{packed_lt, bit_packed, packed_none, none_packed}
use Rattle.bits.proofs.Tests.{fails, and_left, and_right, and_both}
use Rattle.bits.proofs.Word.{bit_of_zero, word_ext}
use Rattle.levels.specs.Level.{level_count, unused, invalid, known}
use Rattle.levels.specs.Record.{count_at, masks_of, counts_of, words_of, record_of}
use Rattle.levels.specs.declared.record.Record.{Record}
use Rattle.levels.proofs.Moved.{count_at_lem}
use Rattle.levels.proofs.Whole.{known_level}
use Rattle.whole.specs.Whole.{invalid_from, same}
use Rattle.consistency.specs.Consistent.{level_fits, levels_fit, agrees, consistent}
use Rattle.whole.proofs.Same.{same_is, is_same}
use Rattle.consistency.proofs.Agrees.{fit_at, fit_all, fits_below, fits_above, below_fits, invalid_fits, fits_known}
use Rattle.whole.proofs.Compared.{both_ways}
use Rattle.whole.proofs.From.{length_from, from_below, from_above}

module _ (n : ℕ) (xs : List ℕ) where
  -- they fit exactly if the levels of the CPUs below n do
  pub below_fit_all : ((c : ℕ) → c < n → c < length xs → level_fits n c (get_or xs c 0) ≡ true) → levels_fit n (invalid_from n xs) ≡ true
  below_fit_all fits = fit_all n (invalid_from n xs) (λ c h. go c (omega (arith, length_from n xs)) (ltb c n) refl)
    where
      go : (c : ℕ) → c < length xs → (b : Bool) → ltb c n ≡ b → level_fits n c (get_or (invalid_from n xs) c 0) ≡ true
      go c h true e = let l : c < n = ltb-true c n e in ap (level_fits n c) (from_below n c xs l) ∙ fits c l h
      go c h false e = invalid_fits n c (get_or (invalid_from n xs) c 0) (from_above n c xs (ltb-false c n e) h)

  pub below_fit_at : levels_fit n (invalid_from n xs) ≡ true → (c : ℕ) → c < n → c < length xs → level_fits n c (get_or xs c 0) ≡ true
  below_fit_at e c l h = ap (level_fits n c) (sym (from_below n c xs l)) ∙ fit_at n (invalid_from n xs) e c (omega (arith, length_from n xs))

  -- levels that fit have INVALID from there on already
  fit_already : levels_fit n xs ≡ true → xs ≡ invalid_from n xs
  fit_already e = ext_get_or 0 xs (invalid_from n xs) (sym (length_from n xs)) (λ c h. go c h (ltb c n) refl)
    where
      go : (c : ℕ) → c < length xs → (b : Bool) → ltb c n ≡ b → get_or xs c 0 ≡ get_or (invalid_from n xs) c 0
      go c h true t = sym (from_below n c xs (ltb-true c n t))
      go c h false t =
          let l : n ≤ c = ltb-false c n t in
          fits_above n c (get_or xs c 0) l (fit_at n xs e c h) ∙ sym (from_above n c xs l h)

-- ---- the test as the code takes it

-- two records have the same tables
abbrev pub same_tables : Record → Record → Bool
same_tables r q = same r.masks q.masks && same r.counts q.counts && same r.words q.words && same r.levels q.levels

-- a record is consistent exactly if its levels, cut at n, fit, and its tables are those that they determine
gathered : (n : ℕ) (r : Record)
    → (levels_fit n (invalid_from n r.levels) && same_tables r (record_of (invalid_from n r.levels))) ≡ consistent n r
unfolding consistent agrees record_of
gathered n r = go (same r.levels right) refl
  where
    right : List ℕ
    right = invalid_from n r.levels

    -- but for the levels
    others : List ℕ → Bool
    others levels = same r.masks (masks_of levels) && same r.counts (counts_of levels) && same r.words (words_of (counts_of levels))

    regroup : others r.levels ≡ agrees r
    regroup = and_assoc (same r.masks (masks_of r.levels)) (same r.counts (counts_of r.levels)) (same r.words (words_of (counts_of r.levels)))

    go : (b : Bool) → same r.levels right ≡ b → (levels_fit n right && (others right && b)) ≡ consistent n r
    go true e =
        subst (λ (levels : List ℕ). (levels_fit n levels && (others levels && true)) ≡ consistent n r) (same_is r.levels right e)
        (ap (λ (b : Bool). levels_fit n r.levels && b) (and-true (others r.levels) ∙ regroup))
    go false e =
        ap (λ (b : Bool). levels_fit n right && b) (and-false (others right)) ∙ and-false (levels_fit n right)
        ∙ sym (fails (consistent n r) (λ t. false≢true (sym e ∙ is_same r.levels right (fit_already n r.levels (and_left (levels_fit n r.levels) (agrees r) t)))))

-- ---- as the code learns it

module _ (n : ℕ) (r : Record) where
  abbrev right : List ℕ
  right = invalid_from n r.levels

  -- the unused level has no CPU exactly if no place holds it
  no_unused : count_at right unused ≡ 0 → (c : ℕ) → c < length right → get_or right c 0 ≢ unused
  unfolding count_at
  no_unused e c h is =
      false≢true (sym (bit_of_zero c) ∙ ap (λ (m : ℕ). bit m c) (sym (packed_none (λ (x : ℕ). eqb x unused) right e))
      ∙ bit_packed (λ (x : ℕ). eqb x unused) 0 right c h ∙ eq-eqb (get_or right c 0) unused is)

  none_unused : ((c : ℕ) → c < length right → get_or right c 0 ≢ unused) → count_at right unused ≡ 0
  unfolding count_at
  none_unused other =
      let p : ℕ → Bool = λ x. eqb x unused in
      none_packed p right (word_ext (length right) (packed p right) 0 (packed_lt p right) (pow_pos (length right)) (λ c h.
      bit_packed p 0 right c h ∙ ne_eqb (get_or right c 0) unused (other c h) ∙ sym (bit_of_zero c)))

  -- a level that is none refuses the record
  pub unfit : (c : ℕ) → c < n → c < length r.levels → known (get_or r.levels c 0) ≡ false → false ≡ consistent n r
  unfolding consistent
  unfit c h hc e =
      sym (fails (consistent n r) (λ t. false≢true (sym e ∙ fits_known n c (get_or r.levels c 0)
      (fit_at n r.levels (and_left (levels_fit n r.levels) (agrees r) t) c hc))))

  -- if all are levels or INVALID, they fit exactly if the unused one has no CPU
  module _ (all : (c : ℕ) → c < n → c < length r.levels → known (get_or r.levels c 0) ≡ true) where
    fit_of : count_at right unused ≡ 0 → levels_fit n right ≡ true
    fit_of e = below_fit_all n r.levels (λ c h hc. go c h hc (eqb (get_or r.levels c 0) invalid) refl)
      where
        go : (c : ℕ) → c < n → c < length r.levels → (b : Bool) → eqb (get_or r.levels c 0) invalid ≡ b → level_fits n c (get_or r.levels c 0) ≡ true
        go c h hc true t = invalid_fits n c (get_or r.levels c 0) (eqb-true (get_or r.levels c 0) invalid t)
        go c h hc false t =
            below_fits n c (get_or r.levels c 0) h (known_level (get_or r.levels c 0) (all c h hc) (eqb-false (get_or r.levels c 0) invalid t))
            (λ is. no_unused e c (omega (arith, length_from n r.levels)) (from_below n c r.levels h ∙ is))

    unused_of : levels_fit n right ≡ true → count_at right unused ≡ 0
    unused_of e = none_unused (λ c h is. go c h is (ltb c n) refl)
      where
        go : (c : ℕ) → c < length right → get_or right c 0 ≡ unused → (b : Bool) → ltb c n ≡ b → ⊥
        go c h is true t = one (fits_below n c (get_or right c 0) (ltb-true c n t) (fit_at n right e c h))
          where
            one : (get_or right c 0 ≡ invalid) ⊎ ((get_or right c 0 < level_count) × (get_or right c 0 ≢ unused)) → ⊥
            one (inl i) = omega (arith, i, is)
            one (inr k) = k.1 is
        go c h is false t = omega (arith, is, fits_above n c (get_or right c 0) (ltb-false c n t) (fit_at n right e c h))

    -- the tests in the code's order
    pub tested : (m c w z s : Bool) → m ≡ same r.masks (masks_of right) → c ≡ same r.counts (counts_of right) → w ≡ same r.words (words_of (counts_of right))
        → z ≡ eqb (get_or r.counts unused 0) 0 → s ≡ same r.levels right → (w && z && s && m && c) ≡ consistent n r
    unfolding record_of
    tested m c w z s em ec ew ez es = both_ways (w && z && s && m && c) (consistent n r) there back
      where
        -- the unused level's count, where the counts are right
        count_is : same r.counts (counts_of right) ≡ true → get_or r.counts unused 0 ≡ count_at right unused
        count_is t = ap (λ (cs : List ℕ). get_or cs unused 0) (same_is r.counts (counts_of right) t) ∙ count_at_lem right unused (omega arith)

        there : (w && z && s && m && c) ≡ true → consistent n r ≡ true
        there t =
            let wzsm = and_left (w && z && s && m) c t in
            let wzs = and_left (w && z && s) m wzsm in
            let wz = and_left (w && z) s wzs in
            let tc = sym ec ∙ and_right (w && z && s && m) c t in
            let tz = and_right w z wz in
            let none : count_at right unused ≡ 0 = sym (count_is tc) ∙ eqb-true (get_or r.counts unused 0) 0 (sym ez ∙ tz) in
            sym (gathered n r) ∙ and_both (levels_fit n right) (same_tables r (record_of right)) (fit_of none)
            (and_both _ _ (and_both _ _ (and_both _ _ (sym em ∙ and_right (w && z && s) m wzsm) tc) (sym ew ∙ and_left w z wz)) (sym es ∙ and_right (w && z) s wzs))

        back : consistent n r ≡ true → (w && z && s && m && c) ≡ true
        back t =
            let both : (levels_fit n right && same_tables r (record_of right)) ≡ true = gathered n r ∙ t in
            let fit = and_left (levels_fit n right) (same_tables r (record_of right)) both in
            let tables = and_right (levels_fit n right) (same_tables r (record_of right)) both in
            let mcw = and_left (same r.masks (masks_of right) && same r.counts (counts_of right) && same r.words (words_of (counts_of right))) (same r.levels right) tables in
            let mc = and_left (same r.masks (masks_of right) && same r.counts (counts_of right)) (same r.words (words_of (counts_of right))) mcw in
            let tc = and_right (same r.masks (masks_of right)) (same r.counts (counts_of right)) mc in
            let none : get_or r.counts unused 0 ≡ 0 = count_is tc ∙ unused_of fit in
            let tm = em ∙ and_left (same r.masks (masks_of right)) (same r.counts (counts_of right)) mc in
            let tw = ew ∙ and_right (same r.masks (masks_of right) && same r.counts (counts_of right)) (same r.words (words_of (counts_of right))) mcw in
            let ts =
            es ∙ and_right (same r.masks (masks_of right) && same r.counts (counts_of right) && same r.words (words_of (counts_of right))) (same r.levels right) tables in
            and_both _ _ (and_both _ _ (and_both _ _ (and_both _ _ tw (ez ∙ eq-eqb (get_or r.counts unused 0) 0 none)) ts) tm) (ec ∙ tc)
