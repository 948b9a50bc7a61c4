-- A loop that compares two lists from the front and collects the differences in a word: that is 0 exactly if the places passed are the same.
-- Assumes nothing.
use mathlib.Core.Path.{◌≡◌, refl, sym, ap, ap₂, ◌∙◌}
use mathlib.Core.Bool.{Bool, true, false, ◌&&◌, and-true, and_assoc}
use mathlib.Core.List.{List, [], ◌∷◌}
use Prim.Native.Nat.{ℕ, zero, suc, ◌+◌, ◌≤◌, ◌<◌}
use native.Mathlib.Nat.{not-suc-le-zero, le_of_suc-le-suc}
use native.Mathlib.Numerals.{add-one}
use native.Mathlib.Omega.{arith}
use lib.Bits.{bit_or, bit_xor, and_le_l, and_le_r, or_add_and, xor_add_and, xor_self}
use lib.Dec.{eqb}
use lib.ListN.{length, get_or, take}
use lib.Seq.{take_all}
use borrow.Author.Tests.{eqb-true, eq-eqb}
use Rattle.bits.proofs.Tests.{and_left, and_right, and_both}
use Rattle.whole.specs.Whole.{same}

-- two tests that pass together are the same test
pub both_ways : (a b : Bool) → (a ≡ true → b ≡ true) → (b ≡ true → a ≡ true) → a ≡ b
both_ways true b f g = sym (f refl)
both_ways false true f g = g refl
both_ways false false f g = refl

-- the word with the difference of x and y put in
differ_more : (d x y : ℕ) → eqb (bit_or d (bit_xor x y)) 0 ≡ (eqb d 0 && eqb x y)
differ_more d x y = both_ways _ _ there back
  where
    there : eqb (bit_or d (bit_xor x y)) 0 ≡ true → (eqb d 0 && eqb x y) ≡ true
    there e =
        let none : bit_or d (bit_xor x y) ≡ 0 = eqb-true (bit_or d (bit_xor x y)) 0 e in
        let no_old : d ≡ 0 = omega (arith, or_add_and d (bit_xor x y), and_le_r d (bit_xor x y)) in
        let no_new : bit_xor x y ≡ 0 = omega (arith, or_add_and d (bit_xor x y), and_le_l d (bit_xor x y)) in
        let equal : x ≡ y = omega (arith, xor_add_and x y, and_le_l x y, and_le_r x y) in
        and_both (eqb d 0) (eqb x y) (eq-eqb d 0 no_old) (eq-eqb x y equal)

    back : (eqb d 0 && eqb x y) ≡ true → eqb (bit_or d (bit_xor x y)) 0 ≡ true
    back e =
        let no_old : d ≡ 0 = eqb-true d 0 (and_left (eqb d 0) (eqb x y) e) in
        let equal : x ≡ y = eqb-true x y (and_right (eqb d 0) (eqb x y) e) in
        eq-eqb (bit_or d (bit_xor x y)) 0 (ap₂ bit_or no_old (ap (bit_xor x) (sym equal) ∙ xor_self x))

-- no difference, put in or by itself, is the same numbers
pub no_difference : (x y : ℕ) → bit_xor x y ≡ 0 → x ≡ y
no_difference x y e = omega (arith, e, xor_add_and x y, and_le_l x y, and_le_r x y)

pub same_number : (x y : ℕ) → x ≡ y → bit_xor x y ≡ 0
same_number x y e = ap (bit_xor x) (sym e) ∙ xor_self x

pub none_put : (d x y : ℕ) → bit_or d (bit_xor x y) ≡ 0 → (d ≡ 0) × (x ≡ y)
none_put d x y e =
    let t : (eqb d 0 && eqb x y) ≡ true = sym (differ_more d x y) ∙ eq-eqb (bit_or d (bit_xor x y)) 0 e in
    (eqb-true d 0 (and_left (eqb d 0) (eqb x y) t), eqb-true x y (and_right (eqb d 0) (eqb x y) t))

pub put_none : (d x y : ℕ) → d ≡ 0 → x ≡ y → bit_or d (bit_xor x y) ≡ 0
put_none d x y n e = eqb-true (bit_or d (bit_xor x y)) 0 (differ_more d x y ∙ and_both (eqb d 0) (eqb x y) (eq-eqb d 0 n) (eq-eqb x y e))

same_next : (xs ys : List ℕ) (i : ℕ) → i < length xs → i < length ys
    → (same (take i xs) (take i ys) && eqb (get_or xs i 0) (get_or ys i 0)) ≡ same (take (suc i) xs) (take (suc i) ys)
unfolding same
same_next [] ys i h k = absurd (not-suc-le-zero h)
same_next (x ∷ xs) [] i h k = absurd (not-suc-le-zero k)
same_next (x ∷ xs) (y ∷ ys) zero h k = sym (and-true (eqb x y))
same_next (x ∷ xs) (y ∷ ys) (suc i) h k =
    and_assoc (eqb x y) (same (take i xs) (take i ys)) (eqb (get_or xs i 0) (get_or ys i 0))
    ∙ ap (λ (b : Bool). eqb x y && b) (same_next xs ys i (le_of_suc-le-suc h) (le_of_suc-le-suc k))

module _ (xs ys : List ℕ) (len : length xs ≡ length ys) (d i : ℕ) (so_far : eqb d 0 ≡ same (take i xs) (take i ys)) where
  -- one place more
  pub compare_more : i < length xs → eqb (bit_or d (bit_xor (get_or xs i 0) (get_or ys i 0))) 0 ≡ same (take (i + 1) xs) (take (i + 1) ys)
  compare_more h =
      differ_more d (get_or xs i 0) (get_or ys i 0)
      ∙ ap (λ (b : Bool). b && eqb (get_or xs i 0) (get_or ys i 0)) so_far
      ∙ same_next xs ys i h (omega arith)
      ∙ ap (λ (k : ℕ). same (take k xs) (take k ys)) (sym (add-one i))

  -- at the end nothing is left out
  pub compare_all : length xs ≤ i → eqb d 0 ≡ same xs ys
  compare_all h = so_far ∙ ap₂ same (take_all i xs h) (take_all i ys (omega arith))
