-- The record as a C caller lends it: four tables, and the lengths with which they can hold one.
-- Assumes nothing.
use Rattle.std.specs.Prelude.{Bool, ◌&&◌, ℕ, eqb, length}
use Rattle.cpupri.specs.Level.{level_count, word_count, cpu_places}
use Rattle.levels.specs.declared.record.Record.{Record}
pub use Rattle.cpupri.specs.Record.{lent_record}

-- tables of these lengths can hold a record
unfoldable pub record_lengths_fit : ℕ → ℕ → ℕ → ℕ → Bool
record_lengths_fit masks counts words levels = eqb masks level_count && eqb counts level_count && eqb words word_count && eqb levels cpu_places

abbrev pub lent_fits : Record → Bool
lent_fits r = record_lengths_fit (length r.masks) (length r.counts) (length r.words) (length r.levels)
