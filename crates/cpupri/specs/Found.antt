-- The public finder, the lowest-priority search: which CPUs of a mask run at the lowest level below a given one.
-- Assumes nothing.
use Rattle.std.specs.Prelude.{◌≡◌, Bool, cond, not, ◌&&◌, Option, None, Some, Result, Ok, Err, List, [], ◌∷◌, map, ℕ, suc, ◌/◌, ◌%◌, ◌^◌, ◌<◌, eqb, ltb, leb, get_or}
use Rattle.std.specs.Int.Bits.{bit_and}
use Rattle.bits.specs.Bit.{bit, first, count}
use Rattle.levels.specs.Level.{level_count, cpu_places, invalid}
use Rattle.consistency.specs.Consistent.{consistent}
use Rattle.levels.specs.declared.record.Record.{Record}
use Rattle.refusal.specs.Answers.{number_of}
use Rattle.refusal.specs.declared.Refusal.{Refusal}
use Rattle.refusal.specs.declared.Refusal.TheVariants.{BadSize, IllFormed, BadValue, BadMask}
use Rattle.cpupri.specs.declared.find.Found.{Found}
use Rattle.cpupri.specs.declared.find.Lowest.{Lowest}

-- One check of an entry: whether it fails, and the number of the refusal then.
pub record Check : Type 0 where
  pub fails : Bool
  pub number : ℕ

-- the number of the first check that fails; 0 if none does
unfoldable pub first_failing : List Check → ℕ
first_failing [] = 0
first_failing (c ∷ cs) = cond c.fails c.number (first_failing cs)

-- 1 to 64 CPUs
unfoldable pub size_fits : ℕ → Bool
size_fits n = ltb 0 n && leb n cpu_places

-- an affinity mask of n CPUs: not 0, and no bit at n or above
unfoldable pub mask_fits : ℕ → ℕ → Bool
mask_fits n mask = ltb 0 mask && ltb mask (2 ^ n)

-- The finder's answer as the paper has it: a number, a level, a mask, and how many masks the search read.
pub record Answer : Type 0 where
  pub number : ℕ
  pub level : ℕ
  pub mask : ℕ
  pub read : ℕ

-- no such level is 0 with 255 and 0; a refusal its number with the same, and no mask is read for it
abbrev pub without : ℕ → ℕ → Answer
without number read = record { number = number; level = invalid; mask = 0; read = read }

abbrev pub told : ℕ → Option Lowest → Answer
told read (Some l) = record { number = 0; level = l.level; mask = l.mask; read = read }
told read None = without 0 read

abbrev pub answer_of : Result Found Refusal → Answer
answer_of (Ok f) = told f.read f.lowest
answer_of (Err e) = without (number_of e) 0

-- the CPUs of a mask that are at level l
unfoldable pub allowed_at : List ℕ → ℕ → ℕ → ℕ
allowed_at masks mask l = bit_and (get_or masks l 0) mask

unfoldable pub any_at : List ℕ → ℕ → ℕ → Bool
any_at masks mask l = not (eqb (allowed_at masks mask l) 0)

-- the lowest level below the asked one that has an allowed CPU; the asked one if there is none
unfoldable pub lowest_level : List ℕ → ℕ → ℕ → ℕ
lowest_level masks level mask = first (any_at masks mask) level

-- it, if there is one
unfoldable pub lowest_below : List ℕ → ℕ → ℕ → Option ℕ
lowest_below masks level mask = let l = lowest_level masks level mask in cond (ltb l level) (Some l) None

-- level l has a CPU; and how many below l have one
unfoldable pub occupied : List ℕ → ℕ → Bool
occupied masks l = not (eqb (get_or masks l 0) 0)

unfoldable pub occupied_below : List ℕ → ℕ → ℕ
occupied_below masks l = count (occupied masks) l

-- what is read: "one for each level with a CPU below the asked one, up to the answered one (all of them on none ..)"
abbrev pub found_at : List ℕ → ℕ → ℕ → Found
found_at masks mask l = record { lowest = Some (record { level = l; mask = allowed_at masks mask l }); read = occupied_below masks (suc l) }

abbrev pub found_nothing : List ℕ → ℕ → Found
found_nothing masks level = record { lowest = None; read = occupied_below masks level }

-- that level and its allowed CPUs; none exactly if there is no such level
unfoldable pub lowest_found : List ℕ → ℕ → ℕ → Found
lowest_found masks level mask = let l = lowest_level masks level mask in cond (ltb l level) (found_at masks mask l) (found_nothing masks level)

-- One test of the finder: whether it fails, and the refusal then.
pub record Test : Type 0 where
  pub fails : Bool
  pub refusal : Refusal

-- what the finder refuses, in the paper's order
unfoldable pub find_tests : ℕ → Record → ℕ → ℕ → List Test
find_tests n r level mask =
    record { fails = not (size_fits n); refusal = BadSize }
    ∷ record { fails = not (consistent n r); refusal = IllFormed }
    ∷ record { fails = leb level_count level; refusal = BadValue }
    ∷ record { fails = not (mask_fits n mask); refusal = BadMask }
    ∷ []

-- the same as checks, each with its number
abbrev pub numbered : Test → Check
numbered t = record { fails = t.fails; number = number_of t.refusal }

abbrev pub find_checks : ℕ → Record → ℕ → ℕ → List Check
find_checks n r level mask = map numbered (find_tests n r level mask)

-- the first test that fails refuses
unfoldable pub tested : List Test → Found → Result Found Refusal
tested [] f = Ok f
tested (t ∷ ts) f = cond t.fails (Err t.refusal) (tested ts f)

unfoldable pub found : ℕ → Record → ℕ → ℕ → Result Found Refusal
found n r level mask = tested (find_tests n r level mask) (lowest_found r.masks level mask)

-- ---- what the search goes by

-- level l's bit in the two words
abbrev pub marked : List ℕ → ℕ → Bool
marked words l = bit (get_or words (l / 64) 0) (l % 64)

-- a level is marked in the words exactly if it has a CPU
pub record Marked (masks words : List ℕ) : Type 0 where
  pub each : (l : ℕ) → l < level_count → marked words l ≡ occupied masks l
