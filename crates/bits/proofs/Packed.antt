-- The word packed from a list: its bits, what changing one element does to it, and that its set bits are the elements that pass the test.
-- One set of laws for every test and every element type: masks of CPUs at a level and words of active levels are both packed.
-- Assumes nothing.
use mathlib.Core.Path.{◌≡◌, refl, sym, ap, ap₂, ◌∙◌}
use mathlib.Core.Bool.{Bool, true, false, ◌||◌}
use mathlib.Core.List.{List, [], ◌∷◌}
use Prim.Native.Nat.{ℕ, zero, suc, ◌+◌, ◌*◌, ◌/◌, ◌%◌, ◌^◌, ◌≤◌, ◌<◌, max, zero-le}
use native.Mathlib.Nat.{not-suc-le-zero, le_of_suc-le-suc, zero-lt-suc, pow-succ'}
use native.Mathlib.Omega.{arith}
use lib.Bits.{bit_or, or_step, or_zero_r}
use lib.ListN.{length, get_or, set}
use Rattle.bits.specs.Bit.{bit, put_bit, digit, tally, packed}
use Rattle.bits.proofs.Digits.{digit_lt, bit_low, bit_rest, put_zero, put_suc, low, rest}
use Rattle.bits.proofs.Word.{bit_of_zero}

module _ {A : Type 0} (p : A → Bool) where
  -- a word of as many bits as the list has elements
  pub packed_lt : (xs : List A) → packed p xs < 2 ^ length xs
  unfolding packed
  packed_lt [] = zero-lt-suc 0
  packed_lt (x ∷ xs) = let ih : packed p xs < 2 ^ length xs = packed_lt xs in omega (arith, digit_lt (p x), pow-succ' 2 (length xs))

  pub bit_packed : (d : A) (xs : List A) (i : ℕ) → i < length xs → bit (packed p xs) i ≡ p (get_or xs i d)
  unfolding packed
  bit_packed d [] i h = absurd (not-suc-le-zero h)
  bit_packed d (x ∷ xs) zero h = bit_low (p x) (packed p xs)
  bit_packed d (x ∷ xs) (suc i) h = bit_rest (p x) (packed p xs) i ∙ bit_packed d xs i (le_of_suc-le-suc h)

  -- the same at every place, where the default does not pass
  pub bit_packed_any : (d : A) → p d ≡ false → (xs : List A) (i : ℕ) → bit (packed p xs) i ≡ p (get_or xs i d)
  unfolding packed
  bit_packed_any d out [] i = bit_of_zero i ∙ sym out
  bit_packed_any d out (x ∷ xs) zero = bit_low (p x) (packed p xs)
  bit_packed_any d out (x ∷ xs) (suc i) = bit_rest (p x) (packed p xs) i ∙ bit_packed_any d out xs i

  -- one element changed: its bit is put as the new element says, and nothing else moves
  pub packed_set : (xs : List A) (i : ℕ) (v : A) → i < length xs → packed p (set xs i v) ≡ put_bit (p v) (packed p xs) i
  unfolding packed
  packed_set [] i v h = absurd (not-suc-le-zero h)
  packed_set (x ∷ xs) zero v h =
      ap (λ (n : ℕ). digit (p v) + 2 * n) (sym (rest (p x) (packed p xs))) ∙ sym (put_zero (p v) (digit (p x) + 2 * packed p xs))
  packed_set (x ∷ xs) (suc i) v h =
      ap₂ (λ (b : Bool) (n : ℕ). digit b + 2 * n) (sym (bit_low (p x) (packed p xs)))
      (packed_set xs i v (le_of_suc-le-suc h) ∙ ap (λ (n : ℕ). put_bit (p v) n i) (sym (rest (p x) (packed p xs))))
      ∙ sym (put_suc (p v) (digit (p x) + 2 * packed p xs) i)

  pub tally_set : (d : A) (xs : List A) (i : ℕ) (v : A) → i < length xs
      → tally p (set xs i v) + digit (p (get_or xs i d)) ≡ tally p xs + digit (p v)
  unfolding tally
  tally_set d [] i v h = absurd (not-suc-le-zero h)
  tally_set d (x ∷ xs) zero v h = omega arith
  tally_set d (x ∷ xs) (suc i) v h =
      let ih : tally p (set xs i v) + digit (p (get_or xs i d)) ≡ tally p xs + digit (p v) = tally_set d xs i v (le_of_suc-le-suc h) in
      omega arith

  pub tally_le : (xs : List A) → tally p xs ≤ length xs
  unfolding tally
  tally_le [] = zero-le
  tally_le (x ∷ xs) = let ih : tally p xs ≤ length xs = tally_le xs in omega (arith, digit_lt (p x))

  -- the word is 0 exactly if no element passes
  pub packed_none : (xs : List A) → tally p xs ≡ 0 → packed p xs ≡ 0
  unfolding packed tally
  packed_none [] h = refl
  packed_none (x ∷ xs) h = let ih : packed p xs ≡ 0 = packed_none xs (omega arith) in omega arith

  pub none_packed : (xs : List A) → packed p xs ≡ 0 → tally p xs ≡ 0
  unfolding packed tally
  none_packed [] h = refl
  none_packed (x ∷ xs) h = let ih : tally p xs ≡ 0 = none_packed xs (omega arith) in omega arith

-- the same test at every element gives the same word
pub packed_cong : {A : Type 0} (p q : A → Bool) → ((x : A) → p x ≡ q x) → (xs : List A) → packed p xs ≡ packed q xs
unfolding packed
packed_cong p q e [] = refl
packed_cong p q e (x ∷ xs) = ap₂ (λ (b : Bool) (n : ℕ). digit b + 2 * n) (e x) (packed_cong p q e xs)

-- the elements that pass one of two tests
pub packed_or : {A : Type 0} (p q : A → Bool) (xs : List A) → bit_or (packed p xs) (packed q xs) ≡ packed (λ x. p x || q x) xs
unfolding packed
packed_or p q [] = or_zero_r 0
packed_or p q (x ∷ xs) = or_digits (p x) (q x) (packed p xs) (packed q xs) ∙ ap (λ (n : ℕ). digit (p x || q x) + 2 * n) (packed_or p q xs)
  where
    one : (a b : Bool) → max (digit a) (digit b) ≡ digit (a || b)
    one true true = refl
    one true false = refl
    one false true = refl
    one false false = refl

    or_digits : (a b : Bool) (m n : ℕ) → bit_or (digit a + 2 * m) (digit b + 2 * n) ≡ digit (a || b) + 2 * bit_or m n
    or_digits a b m n =
        let halves : bit_or ((digit a + 2 * m) / 2) ((digit b + 2 * n) / 2) ≡ bit_or m n = ap₂ bit_or (rest a m) (rest b n) in
        let digits : max ((digit a + 2 * m) % 2) ((digit b + 2 * n) % 2) ≡ digit (a || b) = ap₂ max (low a m) (low b n) ∙ one a b in
        or_step (digit a + 2 * m) (digit b + 2 * n) ∙ ap₂ (λ (x y : ℕ). x * 2 + y) halves digits ∙ turned (bit_or m n) (digit (a || b))
      where
        turned : (x y : ℕ) → x * 2 + y ≡ y + 2 * x
        turned x y = omega arith
