-- The cases hold of the rules: K1 to K12, the papers' sentences, and those over lent tables and of the finder, each one statement over a list, proved by computation.
-- Assumes nothing.
use mathlib.Core.Path.{◌≡◌, refl}
use mathlib.Core.List.{List, [], ◌∷◌, map}
use Prim.Native.Nat.{ℕ, zero, suc, ◌<◌}
use native.Mathlib.Nat.{not-suc-le-zero, le_of_suc-le-suc}
use native.Mathlib.Omega.{arith}
use lib.ListN.{length, get_or}
use Rattle.bits.specs.Bit.{bit, with_bit, without_bit, first, tally, packed}
use Rattle.cpupri.specs.Consistent.{level_fits, fit_from, levels_fit, same, agrees, consistent}
use Rattle.cpupri.specs.Found.{first_failing, size_fits, mask_fits}
use Rattle.cpupri.specs.Record.{table, mask_at, count_at, masks_of, counts_of, words_of, record_of}
use Rattle.rules.specs.Lists.{from, select, joined, any, each, best_from, best, insert_before, delete}
use Rattle.rules.specs.WellFormed.{gathered, falls}
use Rattle.rules.specs.Migration.{Move, next, settle}
use Rattle.rules.specs.Outcome.{outcome, log_numbers}
use Rattle.rules.specs.Tables.{Tables, lent, rows_of, padded, flat_of, stored_row, stored_rows}
use Rattle.rules.specs.Machine.{default_slice, fresh, without_cpu}
use Rattle.rules.specs.Entry.{checked, event_answer, made, handled, handed_back}
use Rattle.rules.specs.Cases.{Case, cases, log5, used, seen, played}
use Rattle.rules.specs.Sentences.{sentences}
use Rattle.rules.specs.Hotplug.{hotplug}
use Rattle.rules.specs.Events.{evacuated}
use Rattle.rules.specs.Demand3.{most_moves, online_cpus, movers, origins, receivers, displacements}
use Rattle.rules.specs.LentDemand3.{Entries, mover_at, origin_at, receiver_at, displaced_at}
use Rattle.rules.specs.LentCases.{LentCase, lent_cases, returned}

pub all_cases : map seen cases ≡ map (λ (k : Case). k.expected) cases
unfolding bit first tally from select joined any best_from best insert_before delete first_failing size_fits mask_fits gathered next settle outcome
    log_numbers used played
all_cases = refl

pub all_sentences : map seen sentences ≡ map (λ (k : Case). k.expected) sentences
unfolding bit first tally from select joined any best_from best insert_before delete first_failing size_fits mask_fits gathered next settle outcome
    log_numbers used played
all_sentences = refl

-- document 02, L8
pub all_hotplug : map seen hotplug ≡ map (λ (k : Case). k.expected) hotplug
unfolding bit with_bit without_bit first tally from select joined any best_from best insert_before delete first_failing size_fits mask_fits gathered next
    settle evacuated outcome log_numbers used played
all_hotplug = refl

pub all_lent : map returned lent_cases ≡ map (λ (k : LentCase). k.expected) lent_cases
unfolding bit with_bit without_bit first tally packed level_fits fit_from levels_fit same agrees consistent first_failing size_fits mask_fits table mask_at
    count_at masks_of counts_of words_of record_of from select joined any each best_from best insert_before delete gathered falls next settle evacuated
    outcome log_numbers
    rows_of padded flat_of stored_row stored_rows checked event_answer made handled
all_lent = refl

-- K5 takes 2 moves on 3 CPUs: the bound of demand 3 is reached
pub bound_reached : most_moves 3 ≡ 2
bound_reached = refl

-- L8: "online CPUs less one": one of three is offline
pub bound_online : most_moves (length (online_cpus (without_cpu 1 (fresh 3 100)))) ≡ 1
unfolding bit without_bit from select
bound_online = refl

-- L7: "handed back by it (25 by a second maker told none, 0 on a refusal)"
pub all_handed : handed_back 0 1000 ∷ handed_back 0 default_slice ∷ handed_back 1 1000 ∷ handed_back 1 default_slice ∷ [] ≡ 1000 ∷ 25 ∷ 0 ∷ 0 ∷ []
all_handed = refl

-- ---- what demand 3 says of the lent log: K5's two moves and their numbers

abbrev moves5 : List Move
moves5 = record { task = 0; origin = 0; target = 1; displaced = 22 } ∷ record { task = 1; origin = 1; target = 2; displaced = 12 } ∷ []

-- tables of which only the log counts
abbrev log_only : List ℕ → Tables
log_only log = lent 0 [] [] [] [] [] [] [] [] [] 0 log

-- these are entries of the log
pub entries_told : Entries (log_only log5) moves5
entries_told =
    record {
      mover = two (λ i. mover_at (log_only log5) i ≡ get_or (movers moves5) i 0) refl refl;
      origin = two (λ i. origin_at (log_only log5) i ≡ get_or (origins moves5) i 0) refl refl;
      receiver = two (λ i. receiver_at (log_only log5) i ≡ get_or (receivers moves5) i 0) refl refl;
      displaced = two (λ i. displaced_at (log_only log5) i ≡ get_or (displacements moves5) i 0) refl refl;
    }
  where
    two : (P : ℕ → Type 0) → P 0 → P 1 → (i : ℕ) → i < 2 → P i
    two P a b zero h = a
    two P a b (suc zero) h = b
    two P a b (suc (suc i)) h = absurd (not-suc-le-zero (le_of_suc-le-suc (le_of_suc-le-suc h)))

-- and a log of which they are has these numbers, none of them made up
pub entries_pinned : (log : List ℕ) → Entries (log_only log) moves5
    → get_or log 0 0 ∷ get_or log 1 0 ∷ get_or log 2 0 ∷ get_or log 3 0 ∷ get_or log 4 0 ∷ get_or log 5 0 ∷ get_or log 6 0 ∷ get_or log 7 0 ∷ [] ≡ log5
entries_pinned log e =
    let first : 0 < 2 = omega arith in
    let second : 1 < 2 = omega arith in
    λ i. e.mover 0 first i ∷ e.origin 0 first i ∷ e.receiver 0 first i ∷ e.displaced 0 first i
    ∷ e.mover 1 second i ∷ e.origin 1 second i ∷ e.receiver 1 second i ∷ e.displaced 1 second i ∷ []
