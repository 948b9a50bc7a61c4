-- What masks, counts and words become when one CPU changes its level: each changes at one level, where the CPU joins or leaves it.
-- Assumes nothing.
use mathlib.Core.Path.{◌≡◌, refl, sym, ap, ap₂, ◌∙◌}
use mathlib.Core.Bool.{Bool, true, false}
use mathlib.Core.Logic.{◌≢◌}
use mathlib.Core.List.{List, [], ◌∷◌}
use Prim.Native.Nat.{ℕ, ◌+◌, ◌/◌, ◌%◌, ◌≤◌, ◌<◌}
use native.Mathlib.Omega.{arith}
use lib.Dec.{eqb, ltb}
use lib.ListN.{length, get_or, set, take, drop, length-take, length-drop}
use lib.Seq.{take-set-lt, take-set-le, drop-set-lt, drop-set-add}
use borrow.Author.Tests.{ltb-true, ltb-false}
use Rattle.bits.specs.Bit.{put_bit, digit, packed}
use Rattle.bits.proofs.Word.{put_same}
use Rattle.bits.proofs.Packed.{bit_packed, packed_set, tally_set}
use Rattle.levels.specs.Level.{level_count}
use Rattle.levels.specs.Record.{mask_at, count_at, masks_of, counts_of, active, words_of}
use Rattle.levels.proofs.Table.{length_table, get_or_table, table_set}

pub length_masks : (xs : List ℕ) → length (masks_of xs) ≡ level_count
unfolding masks_of
length_masks xs = length_table (mask_at xs) level_count

pub length_counts : (xs : List ℕ) → length (counts_of xs) ≡ level_count
unfolding counts_of
length_counts xs = length_table (count_at xs) level_count

pub mask_at_lem : (xs : List ℕ) (l : ℕ) → l < level_count → get_or (masks_of xs) l 0 ≡ mask_at xs l
unfolding masks_of
mask_at_lem xs l h = get_or_table (mask_at xs) level_count l 0 h

pub count_at_lem : (xs : List ℕ) (l : ℕ) → l < level_count → get_or (counts_of xs) l 0 ≡ count_at xs l
unfolding counts_of
count_at_lem xs l h = get_or_table (count_at xs) level_count l 0 h

-- CPU c goes to level l
module _ (xs : List ℕ) (c l : ℕ) (hc : c < length xs) where
  mask_moved : (k : ℕ) → mask_at (set xs c l) k ≡ put_bit (eqb l k) (mask_at xs k) c
  unfolding mask_at
  mask_moved k = packed_set (λ (x : ℕ). eqb x k) xs c l hc

  mask_kept : (k : ℕ) → eqb l k ≡ eqb (get_or xs c 0) k → mask_at (set xs c l) k ≡ mask_at xs k
  unfolding mask_at
  mask_kept k e = mask_moved k ∙ put_same (eqb l k) (mask_at xs k) c (bit_packed (λ (x : ℕ). eqb x k) 0 xs c hc ∙ sym e)

  pub count_moved : (k : ℕ) → count_at (set xs c l) k + digit (eqb (get_or xs c 0) k) ≡ count_at xs k + digit (eqb l k)
  unfolding count_at
  count_moved k = tally_set (λ (x : ℕ). eqb x k) 0 xs c l hc

  count_kept : (k : ℕ) → eqb l k ≡ eqb (get_or xs c 0) k → count_at (set xs c l) k ≡ count_at xs k
  count_kept k e =
      let d : digit (eqb l k) ≡ digit (eqb (get_or xs c 0) k) = ap digit e in
      omega (arith, count_moved k)

  -- j is the one level at which it makes a difference
  module _ (j : ℕ) (hj : j < level_count) (other : (k : ℕ) → k < level_count → k ≢ j → eqb l k ≡ eqb (get_or xs c 0) k) where
    pub masks_moved : masks_of (set xs c l) ≡ set (masks_of xs) j (put_bit (eqb l j) (get_or (masks_of xs) j 0) c)
    unfolding masks_of
    masks_moved =
        table_set (mask_at xs) (mask_at (set xs c l)) level_count j hj (λ k hk d. mask_kept k (other k hk d))
        ∙ ap (set (masks_of xs) j) (mask_moved j ∙ ap (λ (m : ℕ). put_bit (eqb l j) m c) (sym (mask_at_lem xs j hj)))

    pub counts_moved : counts_of (set xs c l) ≡ set (counts_of xs) j (count_at (set xs c l) j)
    unfolding counts_of
    counts_moved = table_set (count_at xs) (count_at (set xs c l)) level_count j hj (λ k hk d. count_kept k (other k hk d))

-- A level's count changes: its bit does as the count says.
pub words_moved : (cs : List ℕ) (j v : ℕ) → length cs ≡ level_count → j < level_count
    → words_of (set cs j v) ≡ set (words_of cs) (j / 64) (put_bit (active v) (get_or (words_of cs) (j / 64) 0) (j % 64))
unfolding words_of
words_moved cs j v len hj = go (ltb j 64) refl
  where
    goal : ℕ → ℕ → Type 0
    goal q i = words_of (set cs j v) ≡ set (words_of cs) q (put_bit (active v) (get_or (words_of cs) q 0) i)

    in_word : (part part' : List ℕ) (i : ℕ) → part' ≡ set part i v → i < length part → packed active part' ≡ put_bit (active v) (packed active part) i
    in_word part part' i e h = ap (packed active) e ∙ packed_set active part i v h

    go : (b : Bool) → ltb j 64 ≡ b → words_of (set cs j v) ≡ set (words_of cs) (j / 64) (put_bit (active v) (get_or (words_of cs) (j / 64) 0) (j % 64))
    go true e =
        let below : j < 64 = ltb-true j 64 e in
        let quotient : j / 64 ≡ 0 = omega arith in
        let remainder : j % 64 ≡ j = omega arith in
        let size : length (take 64 cs) ≡ 64 = length-take 64 cs ∙ omega arith in
        let low : packed active (take 64 (set cs j v)) ≡ put_bit (active v) (packed active (take 64 cs)) j =
        in_word (take 64 cs) (take 64 (set cs j v)) j (take-set-lt 64 cs j v below) (omega arith) in
        let high : packed active (drop 64 (set cs j v)) ≡ packed active (drop 64 cs) = ap (packed active) (drop-set-lt 64 cs j v below) in
        rw (quotient, remainder) (ap₂ (λ (x y : ℕ). x ∷ y ∷ []) low high)
    go false e =
        let above : 64 ≤ j = ltb-false j 64 e in
        let quotient : j / 64 ≡ 1 = omega arith in
        let place : 64 + j % 64 ≡ j = omega arith in
        let size : length (drop 64 cs) ≡ 38 = length-drop 64 cs ∙ omega arith in
        let low : packed active (take 64 (set cs j v)) ≡ packed active (take 64 cs) = ap (packed active) (take-set-le 64 cs j v above) in
        let shifted : drop 64 (set cs j v) ≡ set (drop 64 cs) (j % 64) v =
        ap (λ (i : ℕ). drop 64 (set cs i v)) (sym place) ∙ drop-set-add 64 cs (j % 64) v in
        let high : packed active (drop 64 (set cs j v)) ≡ put_bit (active v) (packed active (drop 64 cs)) (j % 64) =
        in_word (drop 64 cs) (drop 64 (set cs j v)) (j % 64) shifted (omega arith) in
        rw quotient (ap₂ (λ (x y : ℕ). x ∷ y ∷ []) low high)
