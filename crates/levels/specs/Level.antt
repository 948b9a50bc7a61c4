-- Levels of a CPU, from lowest to highest: idle, ordinary work only, and a real-time task of priority p at p + 2. Level 2 is never used.
-- INVALID is the level of a place that has no CPU to give tasks to.
-- Assumes nothing.
use Rattle.std.specs.Prelude.{ℕ, ◌+◌, Bool, ◌||◌, ltb, eqb}

-- how many levels a record has masks for, words of level bits, and places for CPUs
abbrev pub level_count : ℕ
level_count = 102

abbrev pub word_count : ℕ
word_count = 2

abbrev pub cpu_places : ℕ
cpu_places = 64

abbrev pub idle : ℕ
idle = 0

abbrev pub ordinary : ℕ
ordinary = 1

abbrev pub unused : ℕ
unused = 2

abbrev pub invalid : ℕ
invalid = 255

abbrev pub level_of : ℕ → ℕ
level_of priority = priority + 2

-- a level that a CPU can be set to: one of the levels, or INVALID
unfoldable pub known : ℕ → Bool
known l = ltb l level_count || eqb l invalid
