-- 64-bit words as sets of small numbers: c is in the set m exactly if bit c of m is set. Every definition takes the numbers as they are;
-- where a width matters it is a parameter.
-- Assumes nothing.
use Rattle.std.specs.Prelude.{ℕ, zero, suc, ◌+◌, ◌-◌, ◌*◌, ◌/◌, ◌%◌, ◌^◌, Bool, true, false, cond, List, [], ◌∷◌, eqb}

-- bit c of the word m is set
unfoldable pub bit : ℕ → ℕ → Bool
bit m c = eqb (m / 2 ^ c % 2) 1

-- the word m with bit c set, whatever it was
unfoldable pub with_bit : ℕ → ℕ → ℕ
with_bit m c = cond (bit m c) m (m + 2 ^ c)

-- the word m with bit c clear, whatever it was
unfoldable pub without_bit : ℕ → ℕ → ℕ
without_bit m c = cond (bit m c) (m - 2 ^ c) m

-- the word m with bit c set or clear, as b says
abbrev pub put_bit : Bool → ℕ → ℕ → ℕ
put_bit true m c = with_bit m c
put_bit false m c = without_bit m c

-- a binary digit
abbrev pub digit : Bool → ℕ
digit b = cond b 1 0

-- the first number below k at which the test p passes; k if there is none
unfoldable pub first : (ℕ → Bool) → ℕ → ℕ
first p zero = zero
first p (suc k) = cond (p zero) zero (suc (first (λ c. p (suc c)) k))

-- how many numbers below k pass the test p
unfoldable pub count : (ℕ → Bool) → ℕ → ℕ
count p zero = zero
count p (suc k) = digit (p zero) + count (λ c. p (suc c)) k

-- the lowest set bit of a word of k bits; k for the word 0
unfoldable pub lowest : ℕ → ℕ → ℕ
lowest k m = first (bit m) k

-- how many bits of a word of k bits are set
unfoldable pub weight : ℕ → ℕ → ℕ
weight k m = count (bit m) k

-- how many elements of a list pass the test p
unfoldable pub tally : {A : Type 0} → (A → Bool) → List A → ℕ
tally p [] = zero
tally p (x ∷ xs) = digit (p x) + tally p xs

-- the word whose bit i is set exactly if element i of the list passes the test p
unfoldable pub packed : {A : Type 0} → (A → Bool) → List A → ℕ
packed p [] = zero
packed p (x ∷ xs) = digit (p x) + 2 * packed p xs
