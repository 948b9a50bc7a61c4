-- One row of 512 places: what it holds, its order, and where those below a key start.
-- Assumes nothing.
use Rattle.std.specs.Prelude.{◌≡◌, Bool, true, false, cond, List, [], ◌∷◌, ℕ, suc, ◌-◌, ◌≤◌, ◌<◌, length, get_or, take}
use Rattle.rules.specs.Machine.{task_places}
use Rattle.rules.specs.Tables.{padded}

-- a row that holds `count` tasks, and nothing behind them
pub record HoldsRow (count : ℕ) (places : List ℕ) : Type 0 where
  pub most : count ≤ task_places
  pub written : places ≡ padded (take count places)
  pub counted : length (take count places) ≡ count

-- places that are looked through at once
abbrev pub block : ℕ
block = 16

-- the priority of the task at a place
abbrev pub prio_at : List ℕ → List ℕ → ℕ → ℕ
prio_at prio row k = get_or prio (get_or row k 0) 0

-- the places hold task numbers, and their priorities fall
pub record Ordered (prio row : List ℕ) : Type 0 where
  pub prios : length prio ≡ task_places
  pub tasks : (k : ℕ) → k < length row → get_or row k 0 < task_places
  pub falls : (j k : ℕ) → j ≤ k → k < length row → prio_at prio row k ≤ prio_at prio row j

-- the tasks from `at` on are below the key
pub record LowerFrom (prio row : List ℕ) (key at : ℕ) : Type 0 where
  pub most : at ≤ length row
  pub lower : (k : ℕ) → at ≤ k → k < length row → prio_at prio row k < key

-- whether the tasks that are not below the key end at `at`
pub record Ends (prio row : List ℕ) (key at : ℕ) (ends : Bool) : Type 0 where
  pub yes : ends ≡ true → 0 < at → key ≤ prio_at prio row (at - 1)
  pub no : ends ≡ false → (0 < at) × (prio_at prio row (at - 1) < key)

-- how many stand before the first that passes the test
unfoldable pub ahead : (ℕ → Bool) → List ℕ → ℕ
ahead p [] = 0
ahead p (x ∷ xs) = cond (p x) 0 (suc (ahead p xs))
