-- One row of 512 places: what a place holds, in which a task can take another place, and what moving a part of it by one place does.
-- Assumes nothing.
use Rattle.std.specs.Prelude.{◌≡◌, cond, Option, Some, None, List, ℕ, suc, ◌≤◌, ◌<◌, eqb, length, get_or}
use Rattle.rules.specs.Lists.{In, Falling, delete}
use Rattle.rules.specs.Machine.{task_places}
use Rattle.rules.specs.Tables.{nothing}

-- the task in a place, if it is in use
abbrev pub task_in : ℕ → Option ℕ
task_in p = cond (eqb p nothing) None (Some p)

-- a run queue in which a task can take another place: it holds task numbers, the others in the order of their priorities
pub record Reorderable (prio : List ℕ) (task : ℕ) (r : List ℕ) : Type 0 where
  pub stands : In task r
  pub tasks : (u : ℕ) → In u r → u < task_places
  pub others : Falling (λ u. get_or prio u 0) (delete task r)

-- the places behind `at` up to `count` have moved down by one, and the last of them holds nothing
pub record Closed (at count : ℕ) (xs ys : List ℕ) : Type 0 where
  pub size : length ys ≡ length xs
  pub before : (k : ℕ) → k < at → get_or ys k 0 ≡ get_or xs k 0
  pub moved : (k : ℕ) → at ≤ k → suc k < count → get_or ys k 0 ≡ get_or xs (suc k) 0
  pub last : (k : ℕ) → suc k ≡ count → get_or ys k 0 ≡ nothing
  pub after : (k : ℕ) → count ≤ k → get_or ys k 0 ≡ get_or xs k 0

-- the places from `at` up to `count` have moved up by one
pub record Opened (at count : ℕ) (xs ys : List ℕ) : Type 0 where
  pub size : length ys ≡ length xs
  pub before : (k : ℕ) → k < at → get_or ys k 0 ≡ get_or xs k 0
  pub moved : (k : ℕ) → at ≤ k → k < count → get_or ys (suc k) 0 ≡ get_or xs k 0
  pub after : (k : ℕ) → count < k → get_or ys k 0 ≡ get_or xs k 0
