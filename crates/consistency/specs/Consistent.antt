-- A record that is consistent in itself for n CPUs (W6 without the tables): a test that computes, and what it means.
-- Assumes nothing.
use Rattle.std.specs.Prelude.{◌≡◌, ℕ, suc, ◌/◌, ◌%◌, ◌^◌, ◌<◌, ◌≤◌, Bool, true, false, cond, not, ◌&&◌, ◌||◌, ◌≢◌, ◌⊎◌, List, [], ◌∷◌, length, ◌==◌, nat_lt, slice_index}
use Rattle.bits.specs.Bit.{bit}
use Rattle.levels.specs.Level.{level_count, word_count, cpu_places, unused, invalid}
use Rattle.levels.specs.Record.{count_at, active, masks_of, counts_of, words_of}
use Rattle.levels.specs.declared.record.Record.{Record}
use Rattle.whole.specs.Whole.{same}

-- the level that CPU place c may hold: INVALID, or below n one of the levels but the unused one
unfoldable pub level_fits : ℕ → ℕ → ℕ → Bool
level_fits n c l = cond (nat_lt c n) (l == invalid || (nat_lt l level_count && not (l == unused))) (l == invalid)

-- each place from c on does
unfoldable pub fit_from : ℕ → ℕ → List ℕ → Bool
fit_from n c [] = true
fit_from n c (l ∷ ls) = level_fits n c l && fit_from n (suc c) ls

unfoldable pub levels_fit : ℕ → List ℕ → Bool
levels_fit n levels = fit_from n 0 levels

-- masks, counts and words are what the levels determine
unfoldable pub agrees : Record → Bool
agrees r = same r.masks (masks_of r.levels) && (same r.counts (counts_of r.levels) && same r.words (words_of (counts_of r.levels)))

unfoldable pub consistent : ℕ → Record → Bool
consistent n r = levels_fit n r.levels && agrees r

-- what the type of a record says of it: the lengths of its arrays, and that masks and words are words of 64 bits
pub record Sized (r : Record) : Type 0 where
  pub masks : length r.masks ≡ level_count
  pub counts : length r.counts ≡ level_count
  pub words : length r.words ≡ word_count
  pub levels : length r.levels ≡ cpu_places
  pub mask : (l : ℕ) → slice_index r.masks l < 2 ^ 64
  pub word : (i : ℕ) → slice_index r.words i < 2 ^ 64

-- what the test means: masks, counts, words and levels say the same, and the levels are those of n CPUs
pub record Consistent (n : ℕ) (r : Record) : Type 0 where
  -- CPU c is in level l's mask exactly if its level is l
  pub masks : (l c : ℕ) → l < level_count → c < cpu_places → bit (slice_index r.masks l) c ≡ (slice_index r.levels c == l)
  -- a level's count is how many CPUs are at it
  pub counts : (l : ℕ) → l < level_count → slice_index r.counts l ≡ count_at r.levels l
  -- a level's bit is set exactly if it has a CPU
  pub words : (l : ℕ) → l < level_count → bit (slice_index r.words (l / 64)) (l % 64) ≡ active (slice_index r.counts l)
  -- bits 102 to 127 are clear
  pub clear : (l : ℕ) → level_count ≤ l → l < 128 → bit (slice_index r.words (l / 64)) (l % 64) ≡ false
  -- a CPU is at one of the levels, but never at the unused one; or it holds INVALID
  pub below : (c : ℕ) → c < n → c < cpu_places → (slice_index r.levels c ≡ invalid) ⊎ ((slice_index r.levels c < level_count) × (slice_index r.levels c ≢ unused))
  -- the other places hold INVALID
  pub above : (c : ℕ) → n ≤ c → c < cpu_places → slice_index r.levels c ≡ invalid
