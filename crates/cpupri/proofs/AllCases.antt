-- The finder's cases hold, by computation.
-- Assumes nothing.
use mathlib.Core.Path.{◌≡◌, refl}
use mathlib.Core.List.{map}
use Rattle.bits.specs.Bit.{bit, first, count, tally, packed}
use Rattle.levels.specs.Record.{table, mask_at, count_at, masks_of, counts_of, words_of, record_of}
use Rattle.whole.specs.Whole.{same}
use Rattle.consistency.specs.Consistent.{level_fits, fit_from, levels_fit, agrees, consistent}
use Rattle.cpupri.specs.Found.{size_fits, mask_fits, allowed_at, any_at, lowest_level, occupied, occupied_below, lowest_found, find_tests, tested, found}
use Rattle.cpupri.specs.Cases.{FinderCase, asked, finder_cases}

pub all_found : map asked finder_cases ≡ map (λ (k : FinderCase). k.expected) finder_cases
unfolding bit first count tally packed level_fits fit_from levels_fit same agrees consistent size_fits mask_fits table mask_at count_at masks_of
    counts_of words_of record_of allowed_at any_at lowest_level occupied occupied_below lowest_found find_tests tested found
all_found = refl
