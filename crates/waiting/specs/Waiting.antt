-- The next CPU on which a task waits: its row has two tasks or more, of which the first runs.
-- Assumes nothing.
use Rattle.std.specs.Prelude.{Option, Some, None, List, ℕ, ◌≤◌, ◌<◌, get_or}

-- no task waits on the CPUs from `from` up to r; ks are the counts of the rows
abbrev pub NobodyWaits : List ℕ → ℕ → ℕ → Type 0
NobodyWaits ks from r = (d : ℕ) → d < r → from ≤ d → get_or ks d 0 < 2

-- c is the first CPU from `from` on, and below n, where a task waits
pub record FirstWaiting (ks : List ℕ) (from n c : ℕ) : Type 0 where
  pub low : from ≤ c
  pub high : c < n
  pub before : NobodyWaits ks from c
  pub waits : 2 ≤ get_or ks c 0

-- that CPU, or None: there is none
abbrev pub NextWaiting : List ℕ → ℕ → ℕ → Option ℕ → Type 0
NextWaiting ks from n None = NobodyWaits ks from n
NextWaiting ks from n (Some c) = FirstWaiting ks from n c
