-- The search in one word of level bits, whose levels begin at `base`.
-- Assumes nothing.
use Rattle.std.specs.Prelude.{◌≡◌, true, false, List, ℕ, ◌+◌, ◌≤◌, ◌<◌}
use Rattle.bits.specs.Bit.{bit}
use Rattle.levels.specs.Level.{level_count}
use Rattle.cpupri.specs.Found.{any_at}

-- a level that has no bit in `active` has no CPU of the mask
abbrev pub Passed : List ℕ → ℕ → ℕ → ℕ → Type 0
Passed masks mask base active = (c : ℕ) → c < 64 → base + c < level_count → bit active c ≡ false → any_at masks mask (base + c) ≡ false

-- l is the lowest of the word's levels below `below` that has a CPU of the mask
pub record LowestIn (masks : List ℕ) (mask base below l : ℕ) : Type 0 where
  pub under : l < below
  pub within : l < base + 64
  pub some : any_at masks mask l ≡ true
  pub least : (k : ℕ) → base ≤ k → k < l → any_at masks mask k ≡ false

-- none of the word's levels below `below` has one
abbrev pub NoneIn : List ℕ → ℕ → ℕ → ℕ → Type 0
NoneIn masks mask base below = (k : ℕ) → base ≤ k → k < base + 64 → k < below → any_at masks mask k ≡ false
