-- Words as sets: what a word with or without a bit holds, that a word is its bits, and what the machine's operations make of it.
-- Assumes nothing.
use mathlib.Core.Path.{◌≡◌, refl, sym, ap, ap₂, ◌∙◌}
use mathlib.Core.Bool.{Bool, true, false, cond, ◌&&◌}
use mathlib.Core.Logic.{◌≢◌}
use Prim.Native.Nat.{ℕ, zero, suc, ◌+◌, ◌-◌, ◌*◌, ◌/◌, ◌%◌, ◌^◌, ◌≤◌, ◌<◌, min, max, zero-le}
use native.Mathlib.Nat.{div-eq_of_lt, lt_of_lt_of_le, zero-lt-suc, le_of_suc-le-suc, not-suc-le-zero, mod-eq_of_lt, one-mul, suc-mul}
use native.Mathlib.Omega.{arith}
use lib.Arith.{lt-one, digits_div}
use lib.Bits.{bit_and, bit_or, and_step, or_step, and_mask, or_zero_r}
use lib.Pow.{pow_mono, pow-lt, pow-add, pow_pos}
use Rattle.bits.specs.Bit.{bit, with_bit, without_bit, put_bit, digit}
use Rattle.bits.proofs.Digits.{digit_bit, digit_lt, split, bit_suc, bit_low, bit_rest, put_zero, put_suc}

-- ---- a word with or without a bit

pub bit_put_same : (b : Bool) (m c : ℕ) → bit (put_bit b m c) c ≡ b
bit_put_same b m zero = ap (λ (x : ℕ). bit x 0) (put_zero b m) ∙ bit_low b (m / 2)
bit_put_same b m (suc c) =
    ap (λ (x : ℕ). bit x (suc c)) (put_suc b m c) ∙ bit_rest (bit m 0) (put_bit b (m / 2) c) c ∙ bit_put_same b (m / 2) c

pub bit_put_other : (b : Bool) (m c d : ℕ) → c ≢ d → bit (put_bit b m c) d ≡ bit m d
bit_put_other b m zero zero h = absurd (h refl)
bit_put_other b m zero (suc d) h = ap (λ (x : ℕ). bit x (suc d)) (put_zero b m) ∙ bit_rest b (m / 2) d ∙ sym (bit_suc m d)
bit_put_other b m (suc c) zero h = ap (λ (x : ℕ). bit x 0) (put_suc b m c) ∙ bit_low (bit m 0) (put_bit b (m / 2) c)
bit_put_other b m (suc c) (suc d) h =
    ap (λ (x : ℕ). bit x (suc d)) (put_suc b m c) ∙ bit_rest (bit m 0) (put_bit b (m / 2) c) d
    ∙ bit_put_other b (m / 2) c d (λ e. h (ap suc e)) ∙ sym (bit_suc m d)

-- a bit that stands as it is put changes nothing
pub put_same : (b : Bool) (m c : ℕ) → bit m c ≡ b → put_bit b m c ≡ m
unfolding with_bit without_bit
put_same true m c e = ap (λ (t : Bool). cond t m (m + 2 ^ c)) e
put_same false m c e = ap (λ (t : Bool). cond t (m - 2 ^ c) m) e

-- a word of k bits stays one
half_lt : (k m : ℕ) → m < 2 ^ suc k → m / 2 < 2 ^ k
half_lt k m h = omega arith

pub put_lt : (b : Bool) (k m c : ℕ) → m < 2 ^ k → c < k → put_bit b m c < 2 ^ k
put_lt b zero m c h hc = absurd (not-suc-le-zero hc)
put_lt b (suc k) m zero h hc = let l : m / 2 < 2 ^ k = half_lt k m h in omega (arith, put_zero b m, digit_lt b)
put_lt b (suc k) m (suc c) h hc =
    let ih : put_bit b (m / 2) c < 2 ^ k = put_lt b k (m / 2) c (half_lt k m h) (le_of_suc-le-suc hc) in
    omega (arith, put_suc b m c, digit_lt (bit m 0))

-- ---- a word is its bits

-- a word of n bits has none at n or above
pub bit_above : (n m c : ℕ) → m < 2 ^ n → n ≤ c → bit m c ≡ false
unfolding bit
bit_above n m c h hc = rw (div-eq_of_lt (lt_of_lt_of_le h (pow_mono hc)))

pub bit_of_zero : (c : ℕ) → bit 0 c ≡ false
bit_of_zero c = bit_above 0 0 c (zero-lt-suc 0) zero-le

-- two words of k bits with the same bits are equal
pub word_ext : (k m n : ℕ) → m < 2 ^ k → n < 2 ^ k → ((c : ℕ) → c < k → bit m c ≡ bit n c) → m ≡ n
word_ext zero m n hm hn e = lt-one hm ∙ sym (lt-one hn)
word_ext (suc k) m n hm hn e =
    let halves : m / 2 ≡ n / 2 =
    word_ext k (m / 2) (n / 2) (half_lt k m hm) (half_lt k n hn) (λ c h. sym (bit_suc m c) ∙ e (suc c) (omega arith) ∙ bit_suc n c) in
    split m ∙ ap₂ (λ (b : Bool) (x : ℕ). digit b + 2 * x) (e 0 (omega arith)) halves ∙ sym (split n)

-- ---- the machine's operations

-- a bit of an intersection
pub bit_of_and : (m n c : ℕ) → bit (bit_and m n) c ≡ (bit m c && bit n c)
bit_of_and m n zero =
    ap (λ (x : ℕ). bit x 0) (and_digits m n) ∙ bit_low (bit m 0 && bit n 0) (bit_and (m / 2) (n / 2))
  where
    both : (a b : Bool) → min (digit a) (digit b) ≡ digit (a && b)
    both true true = refl
    both true false = refl
    both false true = refl
    both false false = refl

    and_digits : (m n : ℕ) → bit_and m n ≡ digit (bit m 0 && bit n 0) + 2 * bit_and (m / 2) (n / 2)
    and_digits m n =
        let low_digit : min (m % 2) (n % 2) ≡ digit (bit m 0 && bit n 0) =
        ap₂ min (sym (digit_bit m)) (sym (digit_bit n)) ∙ both (bit m 0) (bit n 0) in
        let whole : bit_and m n ≡ bit_and (m / 2) (n / 2) * 2 + min (m % 2) (n % 2) = and_step m n in
        let named : bit_and m n ≡ bit_and (m / 2) (n / 2) * 2 + digit (bit m 0 && bit n 0) =
        whole ∙ ap (λ (x : ℕ). bit_and (m / 2) (n / 2) * 2 + x) low_digit in
        omega arith
bit_of_and m n (suc c) = bit_suc (bit_and m n) c ∙ ap (λ (x : ℕ). bit x c) halved ∙ bit_of_and (m / 2) (n / 2) c ∙ ap₂ ◌&&◌ (sym (bit_suc m c)) (sym (bit_suc n c))
  where
    halved : bit_and m n / 2 ≡ bit_and (m / 2) (n / 2)
    halved = ap (λ (x : ℕ). x / 2) (and_step m n) ∙ lib.Arith.digits_div (bit_and (m / 2) (n / 2)) (small m n)
      where
        small : (m n : ℕ) → min (m % 2) (n % 2) < 2
        small m n = omega arith

-- 1 << c in k bits
pub one_shl : (k c : ℕ) → c < k → 1 * 2 ^ c % 2 ^ k ≡ 2 ^ c
one_shl k c h = rw (one-mul (2 ^ c)) (mod-eq_of_lt (pow-lt h))

-- m | (1 << c)
pub or_pow : (m c : ℕ) → bit_or m (2 ^ c) ≡ with_bit m c
or_pow m zero =
    let step : bit_or m 1 ≡ bit_or (m / 2) 0 * 2 + max (m % 2) 1 = or_step m 1 in
    let none : bit_or (m / 2) 0 ≡ m / 2 = or_zero_r (m / 2) in
    let put : with_bit m 0 ≡ 1 + 2 * (m / 2) = put_zero true m in
    omega arith
or_pow m (suc c) =
    let step : bit_or m (2 ^ suc c) ≡ bit_or (m / 2) (2 ^ suc c / 2) * 2 + max (m % 2) (2 ^ suc c % 2) = or_step m (2 ^ suc c) in
    let even : 2 ^ suc c % 2 ≡ 0 = omega arith in
    let half : 2 ^ suc c / 2 ≡ 2 ^ c = omega arith in
    let rest_is : bit_or (m / 2) (2 ^ suc c / 2) ≡ with_bit (m / 2) c = ap (bit_or (m / 2)) half ∙ or_pow (m / 2) c in
    let put : with_bit m (suc c) ≡ digit (bit m 0) + 2 * with_bit (m / 2) c = put_suc true m c in
    omega (arith, digit_bit m)

-- m & !(1 << c) in k bits
pub and_not : (k m c n : ℕ) → m < 2 ^ k → c < k → n + 2 ^ c + 1 ≡ 2 ^ k → bit_and m n ≡ without_bit m c
and_not zero m c n h hc e = absurd (not-suc-le-zero hc)
and_not (suc k) m zero n h hc e =
    let step : bit_and m n ≡ bit_and (m / 2) (n / 2) * 2 + min (m % 2) (n % 2) = and_step m n in
    let even : n % 2 ≡ 0 = omega arith in
    let half : n / 2 ≡ 2 ^ k - 1 = omega arith in
    let rest_is : bit_and (m / 2) (n / 2) ≡ m / 2 = ap (bit_and (m / 2)) half ∙ and_mask (m / 2) k ∙ mod-eq_of_lt (half_lt k m h) in
    let put : without_bit m 0 ≡ 0 + 2 * (m / 2) = put_zero false m in
    omega arith
and_not (suc k) m (suc c) n h hc e =
    let above : 2 ^ c < 2 ^ k = pow-lt (le_of_suc-le-suc hc) in
    let step : bit_and m n ≡ bit_and (m / 2) (n / 2) * 2 + min (m % 2) (n % 2) = and_step m n in
    let odd : n % 2 ≡ 1 = omega arith in
    let half : n / 2 + 2 ^ c + 1 ≡ 2 ^ k = omega arith in
    let rest_is : bit_and (m / 2) (n / 2) ≡ without_bit (m / 2) c = and_not k (m / 2) c (n / 2) (half_lt k m h) (le_of_suc-le-suc hc) half in
    let put : without_bit m (suc c) ≡ digit (bit m 0) + 2 * without_bit (m / 2) c = put_suc false m c in
    omega (arith, digit_bit m)

-- the word of all ones, shifted: the bits below k are set
pub ones_shifted : (k : ℕ) → k ≤ 64 → (2 ^ 64 - 1) / 2 ^ (64 - k) ≡ 2 ^ k - 1
ones_shifted k h = ap (λ (x : ℕ). x / 2 ^ (64 - k)) split ∙ digits_div (2 ^ k - 1) (omega (arith, pow_pos (64 - k)))
  where
    parts : 2 ^ 64 ≡ 2 ^ k * 2 ^ (64 - k)
    parts = let whole : 64 ≡ k + (64 - k) = omega arith in ap (λ (x : ℕ). 2 ^ x) whole ∙ pow-add 2 k (64 - k)

    split : 2 ^ 64 - 1 ≡ (2 ^ k - 1) * 2 ^ (64 - k) + (2 ^ (64 - k) - 1)
    split = go (2 ^ 64) (2 ^ k) (2 ^ (64 - k)) parts (pow_pos k) (pow_pos (64 - k))
      where
        go : (w a b : ℕ) → w ≡ a * b → 1 ≤ a → 1 ≤ b → w - 1 ≡ (a - 1) * b + (b - 1)
        go w zero b e p q = absurd (omega arith)
        go w (suc a) b e p q =
            let one_more : suc a * b ≡ a * b + b = suc-mul a b in
            let one_less_lem : (suc a - 1) * b ≡ a * b = ap (λ (x : ℕ). x * b) (omega arith) in
            omega (arith, one_more, one_less_lem)
