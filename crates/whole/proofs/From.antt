-- Levels with INVALID from a place on.
-- Assumes nothing.
use mathlib.Core.Path.{◌≡◌, refl, sym, ap, ◌∙◌}
use mathlib.Core.Bool.{Bool, true, false}
use mathlib.Core.List.{List, [], ◌∷◌}
use Prim.Native.Nat.{ℕ, zero, suc, ◌≤◌, ◌<◌, min, zero-le}
use native.Mathlib.Nat.{not-suc-le-zero, le_of_suc-le-suc}
use native.Mathlib.Omega.{arith}
use lib.Dec.{ltb}
use lib.ListN.{length, get_or, take}
use borrow.Author.Tests.{ltb-true, ltb-false}
use Rattle.levels.specs.Level.{invalid}
use Rattle.whole.specs.Whole.{invalid_from}

pub length_from : (n : ℕ) (xs : List ℕ) → length (invalid_from n xs) ≡ length xs
unfolding invalid_from
length_from n [] = refl
length_from zero (x ∷ xs) = ap suc (length_from zero xs)
length_from (suc n) (x ∷ xs) = ap suc (length_from n xs)

-- past the last place nothing changes
from_end : (n : ℕ) (xs : List ℕ) → length xs ≤ n → invalid_from n xs ≡ xs
unfolding invalid_from
from_end n [] h = refl
from_end zero (x ∷ xs) h = absurd (not-suc-le-zero h)
from_end (suc n) (x ∷ xs) h = ap (λ (l : List ℕ). x ∷ l) (from_end n xs (le_of_suc-le-suc h))

-- there are no places past the end
pub from_bounded : (n c : ℕ) (xs : List ℕ) → c ≡ min n (length xs) → invalid_from c xs ≡ invalid_from n xs
from_bounded n c xs e = go (ltb n (length xs)) refl
  where
    go : (b : Bool) → ltb n (length xs) ≡ b → invalid_from c xs ≡ invalid_from n xs
    go true t = let here : c ≡ n = omega (arith, ltb-true n (length xs) t) in ap (λ (k : ℕ). invalid_from k xs) here
    go false t = let past : length xs ≤ n = ltb-false n (length xs) t in from_end c xs (omega arith) ∙ sym (from_end n xs past)

pub from_below : (n c : ℕ) (xs : List ℕ) → c < n → get_or (invalid_from n xs) c 0 ≡ get_or xs c 0
unfolding invalid_from
from_below n c [] h = refl
from_below zero c (x ∷ xs) h = absurd (not-suc-le-zero h)
from_below (suc n) zero (x ∷ xs) h = refl
from_below (suc n) (suc c) (x ∷ xs) h = from_below n c xs (le_of_suc-le-suc h)

pub from_above : (n c : ℕ) (xs : List ℕ) → n ≤ c → c < length xs → get_or (invalid_from n xs) c 0 ≡ invalid
unfolding invalid_from
from_above n c [] h hc = absurd (not-suc-le-zero hc)
from_above zero zero (x ∷ xs) h hc = refl
from_above zero (suc c) (x ∷ xs) h hc = from_above zero c xs zero-le (le_of_suc-le-suc hc)
from_above (suc n) zero (x ∷ xs) h hc = absurd (not-suc-le-zero h)
from_above (suc n) (suc c) (x ∷ xs) h hc = from_above n c xs (le_of_suc-le-suc h) (le_of_suc-le-suc hc)

-- the places before stay
pub take_from : (n : ℕ) (xs : List ℕ) → take n xs ≡ take n (invalid_from n xs)
unfolding invalid_from
take_from zero [] = refl
take_from (suc n) [] = refl
take_from zero (x ∷ xs) = refl
take_from (suc n) (x ∷ xs) = ap (λ (l : List ℕ). x ∷ l) (take_from n xs)
