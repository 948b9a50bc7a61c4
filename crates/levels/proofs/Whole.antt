-- A record that its levels determine stays one when a CPU joins or leaves a level: the record that the code makes is the new levels' record.
-- Assumes nothing.
use mathlib.Core.Path.{◌≡◌, refl, sym, ap, ap₂, ◌∙◌}
use mathlib.Core.Bool.{Bool, true, false, not, ◌||◌}
use mathlib.Core.Logic.{◌≢◌}
use mathlib.Core.List.{List}
use Prim.Native.Nat.{ℕ, zero, suc, ◌+◌, ◌-◌, ◌/◌, ◌%◌, ◌≤◌, ◌<◌}
use native.Mathlib.Omega.{arith}
use lib.Dec.{eqb, ltb, leb-zero, leb-suc-suc, eqb-suc-zero}
use lib.ListN.{length, get_or, set, length-set}
use lib.Seq.{get_or-set_same, get_or-set_other, set-get_or}
use borrow.Author.Tests.{ne_eqb, eq-eqb, eqb-true, eqb-false, ltb-true, lt-ltb}
use Rattle.bits.specs.Bit.{with_bit, without_bit, put_bit, digit, tally}
use Rattle.bits.proofs.Packed.{tally_le}
use Rattle.levels.specs.Level.{level_count, cpu_places, invalid, known}
use Rattle.levels.specs.Record.{count_at, masks_of, counts_of, active, words_of, record_of, Whole}
use Rattle.levels.specs.declared.record.Record.{Record}
use Rattle.levels.proofs.Moved.{length_counts, count_at_lem, count_moved, masks_moved, counts_moved, words_moved}

-- ---- levels

pub known_level : (l : ℕ) → known l ≡ true → (l ≡ invalid → ⊥) → l < level_count
unfolding known
known_level l k ne = go (ltb l level_count) refl k
  where
    go : (b : Bool) → ltb l level_count ≡ b → (b || eqb l invalid) ≡ true → l < level_count
    go true e q = ltb-true l level_count e
    go false e q = absurd (ne (eqb-true l invalid q))

pub level_known : (l : ℕ) → l < level_count → known l ≡ true
unfolding known
level_known l h = ap (λ (b : Bool). b || eqb l invalid) (lt-ltb l level_count h)

-- no level is INVALID
pub no_level : (k : ℕ) → k < level_count → eqb invalid k ≡ false
no_level k h = ne_eqb invalid k (λ e. omega arith)

pub active_is : (v : ℕ) → active v ≡ not (eqb v 0)
active_is zero = refl
active_is (suc v) = leb-suc-suc 0 v ∙ leb-zero v ∙ sym (ap not (eqb-suc-zero v))

-- ---- records

pub record_ext : (r q : Record) → r.masks ≡ q.masks → r.counts ≡ q.counts → r.words ≡ q.words → r.levels ≡ q.levels → r ≡ q
record_ext r q m c w l = λ i. record { masks = m i; counts = c i; words = w i; levels = l i }

module _ (r : Record) (whole : Whole r) where
  pub masks_are : r.masks ≡ masks_of r.levels
  unfolding record_of
  masks_are = ap (λ (q : Record). q.masks) whole.same

  pub counts_are : r.counts ≡ counts_of r.levels
  unfolding record_of
  counts_are = ap (λ (q : Record). q.counts) whole.same

  pub words_are : r.words ≡ words_of (counts_of r.levels)
  unfolding record_of
  words_are = ap (λ (q : Record). q.words) whole.same

  pub count_is : (l : ℕ) → l < level_count → get_or r.counts l 0 ≡ count_at r.levels l
  count_is l h = ap (λ (cs : List ℕ). get_or cs l 0) counts_are ∙ count_at_lem r.levels l h

  -- at most all CPUs are at a level
  pub count_le : (l : ℕ) → l < level_count → get_or r.counts l 0 ≤ cpu_places
  unfolding count_at
  count_le l h =
      let most : tally (λ (x : ℕ). eqb x l) r.levels ≤ length r.levels = tally_le (λ (x : ℕ). eqb x l) r.levels in
      omega (arith, count_is l h, whole.places)

  -- a CPU that is not at INVALID is at a level
  pub at_level : (c : ℕ) → c < cpu_places → (get_or r.levels c 0 ≡ invalid → ⊥) → get_or r.levels c 0 < level_count
  at_level c h ne = known_level (get_or r.levels c 0) (whole.each c h) ne

  -- a CPU is set to its own level with nothing done
  pub same_level : (c l : ℕ) → get_or r.levels c 0 ≡ l → r ≡ record_of (set r.levels c l)
  same_level c l e = whole.same ∙ ap record_of (sym (set-get_or r.levels c 0) ∙ ap (set r.levels c) e)

  module _ (c : ℕ) (hc : c < cpu_places) where
    in_range : c < length r.levels
    in_range = omega (arith, whole.places)

    -- CPU c goes to level l, and j is the one level at which that makes a difference: the record with one place changed in each part is the
    -- new levels' record
    module _ (l j : ℕ) (hj : j < level_count) (other : (k : ℕ) → k < level_count → k ≢ j → eqb l k ≡ eqb (get_or r.levels c 0) k) where
      moved : (mask count word : ℕ) → mask ≡ put_bit (eqb l j) (get_or r.masks j 0) c → count_at (set r.levels c l) j ≡ count
          → word ≡ put_bit (active count) (get_or r.words (j / 64) 0) (j % 64)
          → ◌≡◌ {A = Record} (record { masks = set r.masks j mask; counts = set r.counts j count; words = set r.words (j / 64) word; levels = set r.levels c l })
          (record_of (set r.levels c l))
      unfolding record_of
      moved mask count word em ec ew = record_ext _ _ (sym masks) (sym counts) (sym words) refl
        where
          masks : masks_of (set r.levels c l) ≡ set r.masks j mask
          masks =
              masks_moved r.levels c l in_range j hj other
              ∙ ap (λ (ms : List ℕ). set ms j (put_bit (eqb l j) (get_or ms j 0) c)) (sym masks_are)
              ∙ ap (set r.masks j) (sym em)

          counts : counts_of (set r.levels c l) ≡ set r.counts j count
          counts = counts_moved r.levels c l in_range j hj other ∙ ap₂ (λ (cs : List ℕ) (n : ℕ). set cs j n) (sym counts_are) ec

          words : words_of (counts_of (set r.levels c l)) ≡ set r.words (j / 64) word
          words =
              ap words_of counts
              ∙ words_moved r.counts j count (ap length counts_are ∙ length_counts r.levels) hj
              ∙ ap (λ (ws : List ℕ). set ws (j / 64) (put_bit (active count) (get_or ws (j / 64) 0) (j % 64))) (ap words_of counts_are ∙ sym words_are)
              ∙ ap (set r.words (j / 64)) (sym ew)

    -- at INVALID it joins level l
    module _ (l : ℕ) (hl : l < level_count) (from : get_or r.levels c 0 ≡ invalid) where
      joins : count_at (set r.levels c l) l ≡ get_or r.counts l 0 + 1
      joins =
          let new : digit (eqb l l) ≡ 1 = ap digit (eq-eqb l l refl) in
          let old : digit (eqb (get_or r.levels c 0) l) ≡ 0 = ap (λ (x : ℕ). digit (eqb x l)) from ∙ ap digit (no_level l hl) in
          omega (arith, count_moved r.levels c l in_range l, count_is l hl)

      pub entered : (mask word : ℕ) → mask ≡ with_bit (get_or r.masks l 0) c → word ≡ with_bit (get_or r.words (l / 64) 0) (l % 64)
          → ◌≡◌ {A = Record} (record { masks = set r.masks l mask; counts = set r.counts l (get_or r.counts l 0 + 1); words = set r.words (l / 64) word; levels = set r.levels c l })
          (record_of (set r.levels c l))
      entered mask word em ew =
          moved l l hl
          (λ k hk d. ne_eqb l k (λ e. d (sym e)) ∙ sym (ap (λ (x : ℕ). eqb x k) from ∙ no_level k hk))
          mask (get_or r.counts l 0 + 1) word
          (em ∙ ap (λ (b : Bool). put_bit b (get_or r.masks l 0) c) (sym (eq-eqb l l refl)))
          joins
          (ew ∙ ap (λ (b : Bool). put_bit b (get_or r.words (l / 64) 0) (l % 64)) (sym (lt-ltb 0 (get_or r.counts l 0 + 1) (omega arith))))

    -- at level l it leaves it
    module _ (l : ℕ) (hl : l < level_count) (from : get_or r.levels c 0 ≡ l) where
      leaves : count_at (set r.levels c invalid) l + 1 ≡ get_or r.counts l 0
      leaves =
          let new : digit (eqb invalid l) ≡ 0 = ap digit (no_level l hl) in
          let old : digit (eqb (get_or r.levels c 0) l) ≡ 1 = ap digit (eq-eqb (get_or r.levels c 0) l from) in
          omega (arith, count_moved r.levels c invalid in_range l, count_is l hl)

      pub counted : 1 ≤ get_or r.counts l 0
      counted = omega (arith, leaves)

      pub left : (mask word : ℕ) → mask ≡ without_bit (get_or r.masks l 0) c
          → word ≡ put_bit (not (eqb (get_or r.counts l 0 - 1) 0)) (get_or r.words (l / 64) 0) (l % 64)
          → ◌≡◌ {A = Record} (record { masks = set r.masks l mask; counts = set r.counts l (get_or r.counts l 0 - 1); words = set r.words (l / 64) word; levels = set r.levels c invalid })
          (record_of (set r.levels c invalid))
      left mask word em ew =
          moved invalid l hl
          (λ k hk d. no_level k hk ∙ sym (ne_eqb (get_or r.levels c 0) k (λ e. d (sym e ∙ from))))
          mask (get_or r.counts l 0 - 1) word
          (em ∙ ap (λ (b : Bool). put_bit b (get_or r.masks l 0) c) (sym (no_level l hl)))
          (omega (arith, leaves))
          (ew ∙ ap (λ (b : Bool). put_bit b (get_or r.words (l / 64) 0) (l % 64)) (sym (active_is (get_or r.counts l 0 - 1))))

-- what the code has made of it is whole again
pub whole_set : (r : Record) → Whole r → (c l : ℕ) → known l ≡ true → Whole (record_of (set r.levels c l))
unfolding record_of
whole_set r w c l k = record { same = refl; places = length-set r.levels c l ∙ w.places; each = λ d h. go d h (eqb d c) refl }
  where
    go : (d : ℕ) → d < cpu_places → (b : Bool) → eqb d c ≡ b → known (get_or (set r.levels c l) d 0) ≡ true
    go d h true e =
        let same : d ≡ c = eqb-true d c e in
        let at : c < length r.levels = omega (arith, w.places) in
        ap (λ (x : ℕ). known (get_or (set r.levels c l) x 0)) same ∙ ap known (get_or-set_same r.levels c l 0 at) ∙ k
    go d h false e = ap known (get_or-set_other r.levels c d l 0 (eqb-false d c e)) ∙ w.each d h
