-- The CPU-priority record that a list of 64 levels determines. Masks, counts and words are all computed from the levels; a CPU at INVALID
-- is in no mask, since INVALID is no level.
-- Assumes nothing.
use Rattle.std.specs.Prelude.{◌≡◌, Bool, true, List, [], ◌∷◌, ◌++◌, ℕ, zero, suc, ◌-◌, ◌<◌, eqb, ltb, length, get_or, take, drop, replicate}
use Rattle.bits.specs.Bit.{packed, tally}
use Rattle.levels.specs.Level.{level_count, cpu_places, idle, invalid, known}
use Rattle.levels.specs.declared.record.Record.{Record}

-- f 0, f 1, .. of n numbers
unfoldable pub table : (ℕ → ℕ) → ℕ → List ℕ
table f zero = []
table f (suc n) = f zero ∷ table (λ i. f (suc i)) n

-- the CPUs at level l, and how many they are
unfoldable pub mask_at : List ℕ → ℕ → ℕ
mask_at levels l = packed (λ x. eqb x l) levels

unfoldable pub count_at : List ℕ → ℕ → ℕ
count_at levels l = tally (λ x. eqb x l) levels

unfoldable pub masks_of : List ℕ → List ℕ
masks_of levels = table (mask_at levels) level_count

unfoldable pub counts_of : List ℕ → List ℕ
counts_of levels = table (count_at levels) level_count

-- a level that has a CPU is active
abbrev pub active : ℕ → Bool
active count = ltb 0 count

-- the two words: level L is bit L mod 64 of word L / 64, set exactly if the level is active
unfoldable pub words_of : List ℕ → List ℕ
words_of counts = packed active (take 64 counts) ∷ packed active (drop 64 counts) ∷ []

unfoldable pub record_of : List ℕ → Record
record_of levels = record { masks = masks_of levels; counts = counts_of levels; words = words_of (counts_of levels); levels = levels }

-- the record that four lent tables hold
abbrev pub lent_record : List ℕ → List ℕ → List ℕ → List ℕ → Record
lent_record masks counts words levels = record { masks = masks; counts = counts; words = words; levels = levels }

-- the levels of a fresh machine of n CPUs: the CPUs are idle, and the other places hold INVALID
unfoldable pub fresh_levels : ℕ → List ℕ
fresh_levels n = replicate n idle ++ replicate (cpu_places - n) invalid

-- a record that its levels determine, whatever levels they are
pub record Whole (r : Record) : Type 0 where
  pub same : r ≡ record_of r.levels
  pub places : length r.levels ≡ cpu_places
  pub each : (c : ℕ) → c < cpu_places → known (get_or r.levels c 0) ≡ true
