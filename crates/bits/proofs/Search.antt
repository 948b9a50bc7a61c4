-- The first number that passes a test and how many do, and the same of a word's bits: what the machine counts are `lowest` and `weight`.
-- Assumes nothing.
use mathlib.Core.Path.{◌≡◌, refl, sym, ap, ap₂, ◌∙◌}
use mathlib.Core.Bool.{Bool, true, false, cond, false≢true}
use Prim.Native.Nat.{ℕ, zero, suc, ◌+◌, ◌-◌, ◌*◌, ◌/◌, ◌%◌, ◌^◌, ◌≤◌, ◌<◌, min, zero-le, suc-le-suc}
use native.Mathlib.Nat.{not-suc-le-zero, le_of_suc-le-suc, zero-lt-suc, lt_of_lt_of_le, zero-add, suc-add, mod-one}
use native.Mathlib.Omega.{arith}
use lib.Arith.{lt-one}
use lib.Bits.{bit_and, and_step, and_mask, and_self}
use lib.Dec.{leb, ltb}
use lib.Count.{ones, ones_step, count_trailing_zeros, under}
use lib.Pow.{pow_pos}
use borrow.Author.Tests.{leb-true, leb-false, ltb-true, ltb-false}
use Rattle.bits.specs.Bit.{bit, digit, without_bit, first, count, lowest, weight}
use Rattle.bits.proofs.Digits.{bit_suc, bit_low, bit_rest, digit_bit, digit_lt, rest, put_zero, put_suc}
use Rattle.bits.proofs.Word.{word_ext, bit_above, bit_of_zero}

-- ---- `first`

pub first_cong : (p q : ℕ → Bool) (k : ℕ) → ((c : ℕ) → c < k → p c ≡ q c) → first p k ≡ first q k
unfolding first
first_cong p q zero e = refl
first_cong p q (suc k) e =
    ap₂ (λ (b : Bool) (n : ℕ). cond b zero (suc n)) (e zero (zero-lt-suc k))
    (first_cong (λ c. p (suc c)) (λ c. q (suc c)) k (λ c h. e (suc c) (suc-le-suc h)))

pub first_le : (p : ℕ → Bool) (k : ℕ) → first p k ≤ k
unfolding first
first_le p zero = zero-le
first_le p (suc k) = go (p zero) (first_le (λ c. p (suc c)) k)
  where
    go : (b : Bool) {n : ℕ} → n ≤ k → cond b zero (suc n) ≤ suc k
    go true h = zero-le
    go false h = suc-le-suc h

-- it passes the test, where there is one below k
pub first_holds : (p : ℕ → Bool) (k : ℕ) → first p k < k → p (first p k) ≡ true
unfolding first
first_holds p zero h = absurd (not-suc-le-zero h)
first_holds p (suc k) h = go (p zero) refl h (first_holds (λ c. p (suc c)) k)
  where
    go : (b : Bool) → p zero ≡ b → cond b zero (suc (first (λ c. p (suc c)) k)) < suc k
        → (first (λ c. p (suc c)) k < k → p (suc (first (λ c. p (suc c)) k)) ≡ true)
        → p (cond b zero (suc (first (λ c. p (suc c)) k))) ≡ true
    go true e l ih = e
    go false e l ih = ih (le_of_suc-le-suc l)

-- nothing before it does
pub first_before : (p : ℕ → Bool) (k c : ℕ) → c < first p k → p c ≡ false
unfolding first
first_before p zero c h = absurd (not-suc-le-zero h)
first_before p (suc k) c h = go (p zero) refl c h (first_before (λ c. p (suc c)) k)
  where
    go : (b : Bool) → p zero ≡ b → (c : ℕ) → c < cond b zero (suc (first (λ c. p (suc c)) k))
        → ((c : ℕ) → c < first (λ c. p (suc c)) k → p (suc c) ≡ false) → p c ≡ false
    go true e c l ih = absurd (not-suc-le-zero l)
    go false e zero l ih = e
    go false e (suc c) l ih = ih c (le_of_suc-le-suc l)

-- so it is the one number of which both hold
pub first_is : (p : ℕ → Bool) (k c : ℕ) → c < k → p c ≡ true → ((d : ℕ) → d < c → p d ≡ false) → first p k ≡ c
unfolding first
first_is p zero c h t b = absurd (not-suc-le-zero h)
first_is p (suc k) zero h t b = ap (λ (x : Bool). cond x zero (suc (first (λ c. p (suc c)) k))) t
first_is p (suc k) (suc c) h t b =
    ap (λ (x : Bool). cond x zero (suc (first (λ c. p (suc c)) k))) (b zero (zero-lt-suc c))
    ∙ ap suc (first_is (λ c. p (suc c)) k c (le_of_suc-le-suc h) t (λ d l. b (suc d) (suc-le-suc l)))

pub first_none : (p : ℕ → Bool) (k : ℕ) → ((d : ℕ) → d < k → p d ≡ false) → first p k ≡ k
unfolding first
first_none p zero b = refl
first_none p (suc k) b =
    ap (λ (x : Bool). cond x zero (suc (first (λ c. p (suc c)) k))) (b zero (zero-lt-suc k))
    ∙ ap suc (first_none (λ c. p (suc c)) k (λ d l. b (suc d) (suc-le-suc l)))

-- one number that passes bounds it
pub first_at_most : (p : ℕ → Bool) (k c : ℕ) → p c ≡ true → c < k → first p k ≤ c
first_at_most p k c t h = go (leb (first p k) c) refl
  where
    go : (b : Bool) → leb (first p k) c ≡ b → first p k ≤ c
    go true e = leb-true (first p k) c e
    go false e = absurd (false≢true (sym (first_before p k c (leb-false (first p k) c e)) ∙ t))

-- ---- `count`

pub count_cong : (p q : ℕ → Bool) (k : ℕ) → ((c : ℕ) → c < k → p c ≡ q c) → count p k ≡ count q k
unfolding count
count_cong p q zero e = refl
count_cong p q (suc k) e =
    ap₂ (λ (b : Bool) (n : ℕ). digit b + n) (e zero (zero-lt-suc k))
    (count_cong (λ c. p (suc c)) (λ c. q (suc c)) k (λ c h. e (suc c) (suc-le-suc h)))

-- all numbers that are counted are below k
pub count_le : (p : ℕ → Bool) (k : ℕ) → count p k ≤ k
unfolding count
count_le p zero = zero-le
count_le p (suc k) = let ih : count (λ c. p (suc c)) k ≤ k = count_le (λ c. p (suc c)) k in omega (arith, digit_lt (p zero))

-- those below a, and then the next b
pub count_split : (p : ℕ → Bool) (a b : ℕ) → count p (a + b) ≡ count p a + count (λ c. p (a + c)) b
unfolding count
count_split p zero b = ap (count p) (zero-add b) ∙ count_cong p (λ c. p (zero + c)) b (λ c h. ap p (sym (zero-add c))) ∙ sym (zero-add (count (λ c. p (zero + c)) b))
count_split p (suc a) b =
    let ih : count (λ c. p (suc c)) (a + b) ≡ count (λ c. p (suc c)) a + count (λ c. p (suc (a + c))) b = count_split (λ c. p (suc c)) a b in
    let behind : count (λ c. p (suc (a + c))) b ≡ count (λ c. p (suc a + c)) b = count_cong (λ c. p (suc (a + c))) (λ c. p (suc a + c)) b (λ c h. ap p (sym (suc-add a c))) in
    ap (count p) (suc-add a b) ∙ omega (arith, ih, behind)

-- ---- a word's bits

pub lowest_step : (k m : ℕ) → lowest (suc k) m ≡ cond (bit m 0) zero (suc (lowest k (m / 2)))
unfolding lowest first
lowest_step k m = ap (λ (n : ℕ). cond (bit m 0) zero (suc n)) (first_cong (λ c. bit m (suc c)) (bit (m / 2)) k (λ c h. bit_suc m c))

pub weight_step : (k m : ℕ) → weight (suc k) m ≡ digit (bit m 0) + weight k (m / 2)
unfolding weight count
weight_step k m = ap (λ (n : ℕ). digit (bit m 0) + n) (count_cong (λ c. bit m (suc c)) (bit (m / 2)) k (λ c h. bit_suc m c))

-- the machine's count of trailing zeros
pub lowest_trailing : (k m : ℕ) → count_trailing_zeros k m ≡ lowest k m
unfolding count_trailing_zeros lowest first
lowest_trailing zero m = refl
lowest_trailing (suc k) m =
    ap₂ under (sym (digit_bit m)) (lowest_trailing k (m / 2)) ∙ go (bit m 0) (lowest k (m / 2)) ∙ sym (lowest_step k m)
  where
    go : (b : Bool) (n : ℕ) → under (digit b) n ≡ cond b zero (suc n)
    go true n = refl
    go false n = refl

-- the machine's count of set bits
pub weight_ones : (k m : ℕ) → m < 2 ^ k → ones m ≡ weight k m
unfolding ones weight count
weight_ones zero m h = ap ones (lt-one h)
weight_ones (suc k) m h =
    ones_step m ∙ ap₂ ◌+◌ (sym (digit_bit m)) (weight_ones k (m / 2) (omega arith)) ∙ sym (weight_step k m)

-- how many of the lowest k bits are set: those of what is left modulo 2 ^ k
weight_zero : (w : ℕ) → weight w 0 ≡ 0
unfolding weight count
weight_zero zero = refl
weight_zero (suc w) = weight_step w 0 ∙ ap₂ (λ (b : Bool) (n : ℕ). digit b + n) (bit_of_zero 0) (weight_zero w)

low_digit : (m k : ℕ) → m % 2 ^ suc k ≡ digit (bit m 0) + 2 * (m / 2 % 2 ^ k)
low_digit m k =
    let step : bit_and m (2 ^ suc k - 1) ≡ bit_and (m / 2) ((2 ^ suc k - 1) / 2) * 2 + min (m % 2) ((2 ^ suc k - 1) % 2) = and_step m (2 ^ suc k - 1) in
    let some : 1 ≤ 2 ^ k = pow_pos k in
    let odd : (2 ^ suc k - 1) % 2 ≡ 1 = omega arith in
    let half : (2 ^ suc k - 1) / 2 ≡ 2 ^ k - 1 = omega arith in
    let upper : bit_and (m / 2) ((2 ^ suc k - 1) / 2) ≡ m / 2 % 2 ^ k = ap (bit_and (m / 2)) half ∙ and_mask (m / 2) k in
    omega (arith, and_mask m (suc k), digit_bit m)

pub weight_mod : (w k m : ℕ) → k ≤ w → weight w (m % 2 ^ k) ≡ weight k m
unfolding weight count
weight_mod w zero m h = ap (weight w) (mod-one m) ∙ weight_zero w
weight_mod zero (suc k) m h = absurd (not-suc-le-zero h)
weight_mod (suc w) (suc k) m h =
    ap (weight (suc w)) (low_digit m k)
    ∙ weight_step w (digit (bit m 0) + 2 * (m / 2 % 2 ^ k))
    ∙ ap₂ (λ (b : Bool) (n : ℕ). digit b + n) (bit_low (bit m 0) (m / 2 % 2 ^ k))
    (ap (weight w) (rest (bit m 0) (m / 2 % 2 ^ k)) ∙ weight_mod w k (m / 2) (le_of_suc-le-suc h))
    ∙ sym (weight_step k m)

-- a word of k bits that is not 0 has a lowest bit, and it is set
pub lowest_bit : (k m : ℕ) → lowest k m < k → bit m (lowest k m) ≡ true
unfolding lowest
lowest_bit k m h = first_holds (bit m) k h

pub lowest_is : (k m c : ℕ) → c < k → bit m c ≡ true → ((d : ℕ) → d < c → bit m d ≡ false) → lowest k m ≡ c
unfolding lowest
lowest_is k m c h t b = first_is (bit m) k c h t b

-- a word of k bits is 0 exactly if none of its bits is set
pub zero_of_bits : (k m : ℕ) → m < 2 ^ k → ((c : ℕ) → c < k → bit m c ≡ false) → m ≡ 0
zero_of_bits k m h b = word_ext k m 0 h (pow_pos k) (λ c l. b c l ∙ sym (bit_of_zero c))

-- so a word of k bits that is not 0 has a lowest bit below k
pub lowest_lt : (k m : ℕ) → m < 2 ^ k → (m ≡ 0 → ⊥) → lowest k m < k
unfolding lowest
lowest_lt k m h ne = go (ltb (lowest k m) k) refl
  where
    go : (b : Bool) → ltb (lowest k m) k ≡ b → lowest k m < k
    go true e = ltb-true (lowest k m) k e
    go false e =
        let out : k ≤ lowest k m = ltb-false (lowest k m) k e in
        absurd (ne (zero_of_bits k m h (λ c l. first_before (bit m) k c (lt_of_lt_of_le l out))))

pub lowest_at_most : (k m c : ℕ) → bit m c ≡ true → c < k → lowest k m ≤ c
unfolding lowest
lowest_at_most k m c t h = first_at_most (bit m) k c t h

-- ---- bits taken away

-- a word without its bits from k on
pub bit_mod_below : (k m c : ℕ) → c < k → bit (m % 2 ^ k) c ≡ bit m c
bit_mod_below zero m c h = absurd (not-suc-le-zero h)
bit_mod_below (suc k) m zero h = ap (λ (x : ℕ). bit x 0) (low_digit m k) ∙ bit_low (bit m 0) (m / 2 % 2 ^ k)
bit_mod_below (suc k) m (suc c) h =
    ap (λ (x : ℕ). bit x (suc c)) (low_digit m k) ∙ bit_rest (bit m 0) (m / 2 % 2 ^ k) c ∙ bit_mod_below k (m / 2) c (le_of_suc-le-suc h) ∙ sym (bit_suc m c)

mod_small : (k m : ℕ) → m % 2 ^ k < 2 ^ k
mod_small zero m = omega (arith, mod-one m)
mod_small (suc k) m = let half : m / 2 % 2 ^ k < 2 ^ k = mod_small k (m / 2) in omega (arith, low_digit m k, digit_lt (bit m 0), half)

pub bit_mod_above : (k m c : ℕ) → k ≤ c → bit (m % 2 ^ k) c ≡ false
bit_mod_above k m c h = bit_above k (m % 2 ^ k) c (mod_small k m) h

-- m & (m - 1) is without its lowest bit
pub and_less : (k m : ℕ) → m < 2 ^ k → 0 < m → bit_and m (m - 1) ≡ without_bit m (lowest k m)
and_less zero m h some = absurd (omega arith)
and_less (suc k) m h some = go (and_less k (m / 2)) (bit m 0) refl
  where
    step : bit_and m (m - 1) ≡ bit_and (m / 2) ((m - 1) / 2) * 2 + min (m % 2) ((m - 1) % 2)
    step = and_step m (m - 1)

    go : (m / 2 < 2 ^ k → 0 < m / 2 → bit_and (m / 2) (m / 2 - 1) ≡ without_bit (m / 2) (lowest k (m / 2))) → (b : Bool) → bit m 0 ≡ b
        → bit_and m (m - 1) ≡ without_bit m (lowest (suc k) m)
    go half-less true e =
        let odd : m % 2 ≡ 1 = sym (digit_bit m) ∙ ap digit e in
        let half : (m - 1) / 2 ≡ m / 2 = omega arith in
        let even : (m - 1) % 2 ≡ 0 = omega arith in
        let rest_is : bit_and (m / 2) ((m - 1) / 2) ≡ m / 2 = ap (bit_and (m / 2)) half ∙ and_self (m / 2) in
        let low : lowest (suc k) m ≡ 0 = lowest_step k m ∙ ap (λ (b : Bool). cond b zero (suc (lowest k (m / 2)))) e in
        let put : without_bit m 0 ≡ 0 + 2 * (m / 2) = put_zero false m in
        let is : bit_and m (m - 1) ≡ without_bit m 0 = omega (arith, step, rest_is, odd, even, put) in
        is ∙ ap (without_bit m) (sym low)
    go half-less false e =
        let even : m % 2 ≡ 0 = sym (digit_bit m) ∙ ap digit e in
        let half : (m - 1) / 2 ≡ m / 2 - 1 = omega arith in
        let small : m / 2 < 2 ^ k = omega arith in
        let more : 0 < m / 2 = omega arith in
        let rest_is : bit_and (m / 2) ((m - 1) / 2) ≡ without_bit (m / 2) (lowest k (m / 2)) = ap (bit_and (m / 2)) half ∙ half-less small more in
        let low : lowest (suc k) m ≡ suc (lowest k (m / 2)) = lowest_step k m ∙ ap (λ (b : Bool). cond b zero (suc (lowest k (m / 2)))) e in
        let put : without_bit m (suc (lowest k (m / 2))) ≡ digit (bit m 0) + 2 * without_bit (m / 2) (lowest k (m / 2)) = put_suc false m (lowest k (m / 2)) in
        let none : digit (bit m 0) ≡ 0 = ap digit e in
        let is : bit_and m (m - 1) ≡ without_bit m (suc (lowest k (m / 2))) = omega (arith, step, rest_is, even, put, none) in
        is ∙ ap (without_bit m) (sym low)
