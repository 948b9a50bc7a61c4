-- Tables looked at whole.
-- Assumes nothing.
use Rattle.std.specs.Prelude.{Bool, true, false, ◌&&◌, List, [], ◌∷◌, ℕ, zero, suc, ◌+◌, ◌*◌, eqb, get_or}
use Rattle.levels.specs.Level.{invalid}

-- two lists of numbers are the same
unfoldable pub same : List ℕ → List ℕ → Bool
same [] [] = true
same [] (y ∷ ys) = false
same (x ∷ xs) [] = false
same (x ∷ xs) (y ∷ ys) = eqb x y && same xs ys

-- the levels with INVALID from place n on
unfoldable pub invalid_from : ℕ → List ℕ → List ℕ
invalid_from n [] = []
invalid_from zero (l ∷ ls) = invalid ∷ invalid_from zero ls
invalid_from (suc n) (l ∷ ls) = l ∷ invalid_from n ls

-- k numbers of a list from a place on, read as the digits of one number in base 256, lowest first
unfoldable pub number : List ℕ → ℕ → ℕ → ℕ
number xs at zero = zero
number xs at (suc k) = get_or xs at 0 + 256 * number xs (suc at) k
