-- The recordings worked out by hand hold of the definitions, by computation.
-- Assumes nothing.
use mathlib.Core.Path.{◌≡◌, refl}
use mathlib.Core.Bool.{true}
use mathlib.Core.List.{[], ◌∷◌, map}
use lib.ListN.{replicate}
use Rattle.bits.specs.Bit.{bit, with_bit, without_bit, first, tally, packed}
use Rattle.cpupri.specs.Consistent.{level_fits, fit_from, levels_fit, same, agrees, consistent}
use Rattle.cpupri.specs.Found.{first_failing, size_fits, mask_fits}
use Rattle.cpupri.specs.Record.{table, mask_at, count_at, masks_of, counts_of, words_of, record_of}
use Rattle.rules.specs.Lists.{from, select, joined, any, each, best_from, best, insert_before, delete}
use Rattle.rules.specs.WellFormed.{gathered, falls}
use Rattle.rules.specs.Events.{evacuated}
use Rattle.rules.specs.Migration.{next, settle}
use Rattle.rules.specs.Outcome.{outcome, log_numbers}
use Rattle.rules.specs.Tables.{rows_of, padded, flat_of, stored_row, stored_rows}
use Rattle.rules.specs.Entry.{checked, event_answer, made, handled}
use Rattle.recording.specs.Layout.{little}
use Rattle.recording.specs.Reading.{first_of, item_at, read_from, most_records}
use Rattle.recording.specs.Replay.{accrued, runs, replayed}
use Rattle.recording.specs.Cases.{FirstCase, firsts, ReadingCase, readings, spans, Night, nights, look, replayed_on, as_expected}

pub all_firsts : map (λ (k : FirstCase). first_of k.bytes) firsts ≡ map (λ (k : FirstCase). k.expected) firsts
unfolding little size_fits first_of
all_firsts = refl

pub all_readings : map (λ (k : ReadingCase). read_from k.room 2 k.bytes) readings ≡ map (λ (k : ReadingCase). k.expected) readings
unfolding little item_at read_from
all_readings = refl

-- "At most 65,536 records, the first included."
pub limit : most_records ≡ 65536
limit = refl

pub all_spans : spans ≡ 7 ∷ 0 ∷ 5 ∷ 4294967295 ∷ 4294967295 ∷ []
all_spans = refl

pub all_nights : map (λ (k : Night). as_expected (look (replayed_on k)) k.expected) nights ≡ replicate 8 true
unfolding bit with_bit without_bit first tally packed level_fits fit_from levels_fit same agrees consistent first_failing size_fits mask_fits table mask_at
    count_at masks_of counts_of words_of record_of from select joined any each best_from best insert_before delete gathered falls next settle evacuated
    outcome log_numbers rows_of padded flat_of stored_row stored_rows checked event_answer made handled little first_of item_at read_from accrued runs replayed as_expected
all_nights = refl

pub all_endings : map (λ (k : Night). (replayed_on k).ending) nights ≡ map (λ (k : Night). k.ending) nights
unfolding little size_fits first_of item_at read_from replayed
all_endings = refl
