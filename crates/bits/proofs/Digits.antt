-- A word digit by digit, lowest first: what `bit` and `put_bit` are at 0 and at `suc c`, so that the other laws are inductions on the place.
-- Assumes nothing.
use mathlib.Core.Path.{◌≡◌, refl, sym, ap, ◌∙◌}
use mathlib.Core.Bool.{Bool, true, false, cond}
use Prim.Native.Nat.{ℕ, zero, suc, ◌+◌, ◌-◌, ◌*◌, ◌/◌, ◌%◌, ◌^◌, ◌≤◌, ◌<◌}
use native.Mathlib.Nat.{div-one, mod-lt, zero-lt-suc, le-div_iff_mul-le, not-suc-le-zero, le_of_suc-le-suc}
use native.Mathlib.Numerals.{one-add}
use native.Mathlib.Omega.{arith}
use lib.Dec.{eqb}
use lib.Pow.{shr-shr, pow_pos}
use borrow.Author.Tests.{eqb-true}
use Rattle.bits.specs.Bit.{bit, with_bit, without_bit, put_bit, digit}

-- ---- one digit

-- a number below 2 is the digit that says whether it is 1
pub digit_of : (x : ℕ) → x < 2 → digit (eqb x 1) ≡ x
digit_of zero h = refl
digit_of (suc zero) h = refl
digit_of (suc (suc x)) h = absurd (not-suc-le-zero (le_of_suc-le-suc (le_of_suc-le-suc h)))

pub digit_lt : (b : Bool) → digit b < 2
digit_lt true = omega arith
digit_lt false = omega arith

-- a digit is 1 exactly where it says so
pub eqb_digit : (b : Bool) → eqb (digit b) 1 ≡ b
eqb_digit true = refl
eqb_digit false = refl

-- the lowest digit and the rest of a word that is put together from them
pub low : (b : Bool) (n : ℕ) → (digit b + 2 * n) % 2 ≡ digit b
low true n = omega arith
low false n = omega arith

pub rest : (b : Bool) (n : ℕ) → (digit b + 2 * n) / 2 ≡ n
rest true n = omega arith
rest false n = omega arith

-- ---- `bit` at 0 and at suc c

pub bit_zero : (m : ℕ) → bit m 0 ≡ eqb (m % 2) 1
unfolding bit
bit_zero m = ap (λ (x : ℕ). eqb (x % 2) 1) (div-one m)

pub bit_suc : (m c : ℕ) → bit m (suc c) ≡ bit (m / 2) c
unfolding bit
bit_suc m c = ap (λ (x : ℕ). eqb (x % 2) 1) (ap (λ (k : ℕ). m / 2 ^ k) (sym (one-add c)) ∙ sym (shr-shr m 1 c))

pub digit_bit : (m : ℕ) → digit (bit m 0) ≡ m % 2
digit_bit m = ap digit (bit_zero m) ∙ digit_of (m % 2) (mod-lt m (zero-lt-suc 1))

-- a word is its lowest digit and the rest
pub split : (m : ℕ) → m ≡ digit (bit m 0) + 2 * (m / 2)
split m = omega (arith, digit_bit m)

pub bit_low : (b : Bool) (n : ℕ) → bit (digit b + 2 * n) 0 ≡ b
bit_low b n = bit_zero (digit b + 2 * n) ∙ ap (λ (x : ℕ). eqb x 1) (low b n) ∙ eqb_digit b

pub bit_rest : (b : Bool) (n c : ℕ) → bit (digit b + 2 * n) (suc c) ≡ bit n c
bit_rest b n c = bit_suc (digit b + 2 * n) c ∙ ap (λ (x : ℕ). bit x c) (rest b n)

-- a set bit is at most the word
pub bit_le : (m c : ℕ) → bit m c ≡ true → 2 ^ c ≤ m
unfolding bit
bit_le m c h =
    let one : m / 2 ^ c % 2 ≡ 1 = eqb-true (m / 2 ^ c % 2) 1 h in
    let some : 1 ≤ m / 2 ^ c = omega arith in
    let all : 1 * 2 ^ c ≤ m = (le-div_iff_mul-le (pow_pos c)).0 some in
    omega arith

-- ---- `put_bit` at 0 and at suc c

pub put_zero : (b : Bool) (m : ℕ) → put_bit b m 0 ≡ digit b + 2 * (m / 2)
unfolding with_bit without_bit
put_zero true m = go (bit m 0) refl
  where
    go : (t : Bool) → bit m 0 ≡ t → cond t m (m + 2 ^ 0) ≡ digit true + 2 * (m / 2)
    go true e = let d : m % 2 ≡ digit true = sym (digit_bit m) ∙ ap digit e in omega arith
    go false e = let d : m % 2 ≡ digit false = sym (digit_bit m) ∙ ap digit e in omega arith
put_zero false m = go (bit m 0) refl
  where
    go : (t : Bool) → bit m 0 ≡ t → cond t (m - 2 ^ 0) m ≡ digit false + 2 * (m / 2)
    go true e = let d : m % 2 ≡ digit true = sym (digit_bit m) ∙ ap digit e in omega arith
    go false e = let d : m % 2 ≡ digit false = sym (digit_bit m) ∙ ap digit e in omega arith

pub put_suc : (b : Bool) (m c : ℕ) → put_bit b m (suc c) ≡ digit (bit m 0) + 2 * put_bit b (m / 2) c
unfolding with_bit without_bit
put_suc true m c = ap (λ (t : Bool). cond t m (m + 2 ^ suc c)) (bit_suc m c) ∙ go (bit (m / 2) c)
  where
    go : (t : Bool) → cond t m (m + 2 ^ suc c) ≡ digit (bit m 0) + 2 * cond t (m / 2) (m / 2 + 2 ^ c)
    go true = split m
    go false = omega (arith, split m)
put_suc false m c = ap (λ (t : Bool). cond t (m - 2 ^ suc c) m) (bit_suc m c) ∙ go (bit (m / 2) c) (bit_le (m / 2) c)
  where
    go : (t : Bool) → (t ≡ true → 2 ^ c ≤ m / 2) → cond t (m - 2 ^ suc c) m ≡ digit (bit m 0) + 2 * cond t (m / 2 - 2 ^ c) (m / 2)
    go true h = let l : 2 ^ c ≤ m / 2 = h refl in omega (arith, split m)
    go false h = split m
