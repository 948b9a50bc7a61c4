-- What a pass over the CPUs gathers: the record in which the CPUs below k are at their levels and all other places hold INVALID.
-- Assumes nothing.
use Rattle.std.specs.Prelude.{◌≡◌, ℕ, ◌+◌, ◌%◌, ◌^◌, ◌<◌, ◌≤◌, Bool, true, false, List, length, slice_index}
use Rattle.levels.specs.Level.{level_count, known}
use Rattle.levels.specs.Record.{mask_at, counts_of, words_of}
use Rattle.whole.specs.Whole.{invalid_from}

-- a CPU's bit in a mask of 64 bits; 0 past the last place
abbrev pub cpu_bit : ℕ → ℕ
cpu_bit c = 2 ^ c % 2 ^ 64

-- its counts and words
pub record Gathered (from : List ℕ) (k : ℕ) (counts words : List ℕ) : Type 0 where
  pub counts_are : counts ≡ counts_of (invalid_from k from)
  pub words_are : words ≡ words_of counts

-- what is left of masks when its masks are taken out of them
pub record Left (from : List ℕ) (k : ℕ) (masks left : List ℕ) : Type 0 where
  pub long : length left ≡ level_count
  pub word : (l : ℕ) → l < level_count → slice_index left l < 2 ^ 64
  pub each : (l : ℕ) → l < level_count → (slice_index left l + mask_at (invalid_from k from) l) % 2 ^ 64 ≡ slice_index masks l

-- The pass goes on from CPU k to CPU j: b says whether the levels on the way are levels, or INVALID. If they are, `left` without these
-- CPUs too is `rest`, and the counts and words are those of the CPUs below j.
pub record Gathers (from : List ℕ) (k j : ℕ) (b : Bool) (left rest counts words : List ℕ) : Type 0 where
  pub all : b ≡ true → (c : ℕ) → k ≤ c → c < j → known (slice_index from c) ≡ true
  pub none : b ≡ false → (c : ℕ) × ((c < j) × (known (slice_index from c) ≡ false))
  pub right : b ≡ true → Gathered from j counts words
  pub takes : b ≡ true → (masks : List ℕ) → Left from k masks left → Left from j masks rest
