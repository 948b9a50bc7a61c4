-- The flat table of all rows, with their counts: it is the written form of the run queues that it is read as.
-- Assumes nothing.
use Rattle.std.specs.Prelude.{◌≡◌, List, [], ℕ, ◌≤◌, ◌<◌, length, get_or, set}
use Rattle.rules.specs.Lists.{In, Falling}
use Rattle.rules.specs.Machine.{task_places}
use Rattle.rules.specs.Tables.{rows_of, flat_of, row_counts}

pub record HoldsRows (counts rows : List ℕ) : Type 0 where
  pub fits : (c : ℕ) → length (get_or (rows_of counts rows) c []) ≤ task_places
  pub counted : counts ≡ row_counts (rows_of counts rows)
  pub written : rows ≡ flat_of (rows_of counts rows)

-- the run queue of CPU c, and all run queues with another one for it
abbrev pub row_at : List ℕ → List ℕ → ℕ → List ℕ
row_at counts rows c = get_or (rows_of counts rows) c []

abbrev pub rows_with : List ℕ → List ℕ → ℕ → List ℕ → List (List ℕ)
rows_with counts rows c r = set (rows_of counts rows) c r

-- a run queue that a task can enter: it has room, and holds task numbers in the order of their priorities
pub record Joinable (prio : List ℕ) (r : List ℕ) : Type 0 where
  pub room : length r < task_places
  pub tasks : (u : ℕ) → In u r → u < task_places
  pub falling : Falling (λ u. get_or prio u 0) r
