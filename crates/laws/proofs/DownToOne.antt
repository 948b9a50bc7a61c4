-- Document 02, L8: 64 CPUs are taken out one after the other, down to one, by computation.
-- Assumes nothing.
use mathlib.Core.Path.{◌≡◌, refl}
use mathlib.Core.List.{map}
use Rattle.bits.specs.Bit.{bit, with_bit, without_bit, first, tally}
use Rattle.cpupri.specs.Found.{first_failing, size_fits, mask_fits}
use Rattle.rules.specs.Lists.{from, select, joined, any, best_from, best, insert_before, delete}
use Rattle.rules.specs.WellFormed.{gathered}
use Rattle.rules.specs.Migration.{next, settle}
use Rattle.rules.specs.Outcome.{outcome, log_numbers}
use Rattle.rules.specs.Events.{evacuated}
use Rattle.rules.specs.Cases.{Case, used, seen, played}
use Rattle.rules.specs.Hotplug.{down_to_one}

pub down_to_one_lem : map seen down_to_one ≡ map (λ (k : Case). k.expected) down_to_one
unfolding bit with_bit without_bit first tally from select joined any best_from best insert_before delete first_failing size_fits mask_fits gathered next
    settle evacuated outcome log_numbers used played
down_to_one_lem = refl
