-- What the rules say about lists: how often something stands in one, who is best, and joining and leaving a queue.
-- Assumes nothing.
use Rattle.std.specs.Prelude.{Bool, true, false, cond, ◌&&◌, ◌||◌, List, [], ◌∷◌, ◌++◌, ℕ, zero, suc, ◌≤◌, ◌<◌, eqb}
use Rattle.std.proofs.Math.Option.{Option, none, some}
use Rattle.bits.specs.Bit.{tally}

-- ---- standing in a list

-- how often x stands in xs
abbrev pub occ : ℕ → List ℕ → ℕ
occ x xs = tally (eqb x) xs

-- x stands in xs
abbrev pub In : ℕ → List ℕ → Type 0
In x xs = 0 < occ x xs

-- how many stand before the first x
unfoldable pub place : ℕ → List ℕ → ℕ
place x [] = 0
place x (y ∷ ys) = cond (eqb x y) 0 (suc (place x ys))

-- from the first to the last, the measure p never rises
abbrev pub Falling : (ℕ → ℕ) → List ℕ → Type 0
Falling p [] = Unit {0}
Falling p (x ∷ xs) = ((y : ℕ) → In y xs → p y ≤ p x) × Falling p xs

-- ---- making lists

-- k numbers, upwards from i
unfoldable pub from : ℕ → ℕ → List ℕ
from i zero = []
from i (suc k) = i ∷ from (suc i) k

-- the numbers below k
abbrev pub below : ℕ → List ℕ
below k = from 0 k

-- those that pass the test, in their order
unfoldable pub select : (ℕ → Bool) → List ℕ → List ℕ
select p [] = []
select p (x ∷ xs) = cond (p x) (x ∷ select p xs) (select p xs)

-- one list after the other
unfoldable pub joined : List (List ℕ) → List ℕ
joined [] = []
joined (xs ∷ xss) = xs ++ joined xss

-- ---- asking lists

unfoldable pub any : (ℕ → Bool) → List ℕ → Bool
any p [] = false
any p (x ∷ xs) = p x || any p xs

-- the test holds of each element and its place, counted from i
unfoldable pub each : {A : Type 0} → (ℕ → A → Bool) → ℕ → List A → Bool
each p i [] = true
each p i (x ∷ xs) = p i x && each p (suc i) xs

-- the first of x and xs that no other beats
unfoldable pub best_from : (ℕ → ℕ → Bool) → ℕ → List ℕ → ℕ
best_from beats x [] = x
best_from beats x (y ∷ ys) = best_from beats (cond (beats y x) y x) ys

unfoldable pub best : (ℕ → ℕ → Bool) → List ℕ → Option ℕ
best beats [] = none
best beats (x ∷ xs) = some (best_from beats x xs)

-- ---- joining and leaving a queue

-- x stands before the first element that passes the test, else last
unfoldable pub insert_before : (ℕ → Bool) → ℕ → List ℕ → List ℕ
insert_before p x [] = x ∷ []
insert_before p x (y ∷ ys) = cond (p y) (x ∷ y ∷ ys) (y ∷ insert_before p x ys)

-- x leaves, and those behind it close up
unfoldable pub delete : ℕ → List ℕ → List ℕ
delete x [] = []
delete x (y ∷ ys) = cond (eqb x y) ys (y ∷ delete x ys)
