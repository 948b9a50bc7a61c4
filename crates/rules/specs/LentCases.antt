-- Cases over what the caller lends, through the three public entries. The paper's words stand above each; tables, record and what comes back
-- are written out number by number.
-- Assumes nothing.
use mathlib.Core.List.{List, [], ◌∷◌, ◌++◌, tail}
use Rattle.std.specs.Prelude.{ℕ, ◌+◌, ◌*◌, ◌^◌, set, replicate}
use Rattle.cpupri.specs.Record.{record_of, lent_record}
use Rattle.levels.specs.declared.record.Record.{Record}
use Rattle.rules.specs.Machine.{Column}
use Rattle.rules.specs.Events.{Event, event}
use Rattle.rules.specs.Cases.{tick, offline, online}
use Rattle.rules.specs.Tables.{Tables, lent}
use Rattle.rules.specs.Entry.{Result, result_of, checked, made, handled}

-- ---- calls

pub data Call : Type 0 where
  make : Call
  check : Call
  handle : Event → Call

-- what a call hands back; the checker changes nothing
abbrev pub called : Call → ℕ → Record → Tables → Result
called make n r s = made n r s
called check n r s = result_of (checked n r s) 0 r s
called (handle e) n r s = handled n r s e

pub record LentCase : Type 0 where
  pub call : Call
  pub n : ℕ
  pub cpupri : Record
  pub tables : Tables
  pub expected : Result

abbrev pub returned : LentCase → Result
returned k = called k.call k.n k.cpupri k.tables

-- refused, or checked: the answer, no moves, and all as it was lent
abbrev pub answers : ℕ → Call → ℕ → Record → Tables → LentCase
answers a f n r s = record { call = f; n = n; cpupri = r; tables = s; expected = result_of a 0 r s }

-- ---- tables

abbrev pub in_column : Column → (List ℕ → List ℕ) → Tables → Tables
in_column Column.state f s = lent s.full (f s.state) s.policy s.prio s.cpu s.slice s.mask s.rows s.counts s.flags s.online s.log
in_column Column.policy f s = lent s.full s.state (f s.policy) s.prio s.cpu s.slice s.mask s.rows s.counts s.flags s.online s.log
in_column Column.prio f s = lent s.full s.state s.policy (f s.prio) s.cpu s.slice s.mask s.rows s.counts s.flags s.online s.log
in_column Column.cpu f s = lent s.full s.state s.policy s.prio (f s.cpu) s.slice s.mask s.rows s.counts s.flags s.online s.log
in_column Column.slice f s = lent s.full s.state s.policy s.prio s.cpu (f s.slice) s.mask s.rows s.counts s.flags s.online s.log
in_column Column.mask f s = lent s.full s.state s.policy s.prio s.cpu s.slice (f s.mask) s.rows s.counts s.flags s.online s.log

abbrev pub with_entry : Column → ℕ → ℕ → Tables → Tables
with_entry k t v s = in_column k (λ xs. set xs t v) s

abbrev pub with_full : ℕ → Tables → Tables
with_full full s = lent full s.state s.policy s.prio s.cpu s.slice s.mask s.rows s.counts s.flags s.online s.log

abbrev pub with_rows : List ℕ → List ℕ → Tables → Tables
with_rows rs ns s = lent s.full s.state s.policy s.prio s.cpu s.slice s.mask rs ns s.flags s.online s.log

abbrev pub with_flags : List ℕ → Tables → Tables
with_flags fs s = lent s.full s.state s.policy s.prio s.cpu s.slice s.mask s.rows s.counts fs s.online s.log

abbrev pub with_log : List ℕ → Tables → Tables
with_log log s = lent s.full s.state s.policy s.prio s.cpu s.slice s.mask s.rows s.counts s.flags s.online log

abbrev pub with_up : ℕ → Tables → Tables
with_up up s = lent s.full s.state s.policy s.prio s.cpu s.slice s.mask s.rows s.counts s.flags up s.log

-- ---- a well-formed machine of two CPUs
-- Task 0 runs on CPU 0 and task 1, its equal, waits there; CPU 1 has ordinary work, and task 1 could use it: "A machine need not be settled (no
-- task movable) to be well-formed". Task 2 sleeps on CPU 1, which its mask does not allow: "A sleeper's CPU need not be allowed." The columns
-- hold the bounds of W2: policies 1 and 2, priorities 1 and 99, slices 1 and 100, the full slice.

abbrev pub lent2 : Tables
lent2 =
    lent 100 (2 ∷ 2 ∷ 1 ∷ replicate 509 0) (1 ∷ 2 ∷ 1 ∷ replicate 509 0) (99 ∷ 99 ∷ 1 ∷ replicate 509 0) (0 ∷ 0 ∷ 1 ∷ replicate 509 0)
    (100 ∷ 1 ∷ 50 ∷ replicate 509 0) (1 ∷ 3 ∷ 1 ∷ replicate 509 0) (0 ∷ 1 ∷ replicate 1022 65535) (2 ∷ 0 ∷ []) (0 ∷ 1 ∷ []) 3 (replicate 252 4)

-- CPU 0 is at level 101, bit 37 of word 1, and CPU 1 at level 1
abbrev pub record2 : Record
record2 =
    lent_record (0 ∷ 2 ∷ replicate 99 0 ++ 1 ∷ []) (0 ∷ 1 ∷ replicate 99 0 ++ 1 ∷ []) (2 ∷ 2 ^ 37 ∷ []) (101 ∷ 1 ∷ replicate 62 255)

-- the record of two CPUs at other levels
abbrev pub at_levels : ℕ → ℕ → Record
at_levels a b = record_of (a ∷ b ∷ replicate 62 255)

-- the check of that machine with other tables
abbrev pub checking : ℕ → Tables → LentCase
checking a s = answers a check 2 record2 s

-- it is refused with 2 if one entry of a column is another, or the rows and their counts, or the record
abbrev pub bad_entry : Column → ℕ → ℕ → LentCase
bad_entry k t v = checking 2 (with_entry k t v lent2)

abbrev pub bad_rows : List ℕ → List ℕ → LentCase
bad_rows rs ns = checking 2 (with_rows rs ns lent2)

abbrev pub bad_record : Record → LentCase
bad_record r = answers 2 check 2 r lent2

-- ---- well-formed

-- "W1. State is 0, 1 or 2. A free place holds 0 in all its columns."
abbrev pub w1 : List LentCase
w1 =
    bad_entry Column.state 2 3 ∷ bad_entry Column.policy 3 1 ∷ bad_entry Column.prio 3 1 ∷ bad_entry Column.cpu 3 1 ∷ bad_entry Column.slice 3 1
    ∷ bad_entry Column.mask 3 1 ∷ []

-- "W2. Otherwise policy 1 or 2, priority 1 to 99, CPU below N, slice 1 to 100, mask not 0 and without bits at N or above."
abbrev pub w2 : List LentCase
w2 =
    bad_entry Column.policy 2 0 ∷ bad_entry Column.policy 2 3 ∷ bad_entry Column.prio 2 0 ∷ bad_entry Column.prio 2 100
    ∷ bad_entry Column.cpu 2 2 ∷ bad_entry Column.slice 2 0 ∷ bad_entry Column.slice 2 101 ∷ bad_entry Column.mask 2 0 ∷ bad_entry Column.mask 2 5 ∷ []

-- L7: "W2 [..] use that number": a slice of 60, checked with full slices about it
abbrev pub w2_full : List LentCase
w2_full =
    let holds60 : Tables = with_entry Column.slice 0 60 lent2 in
    checking 0 (with_full 100 holds60) ∷ checking 2 (with_full 50 holds60) ∷ checking 0 (with_full 60 holds60) ∷ checking 2 (with_full 59 holds60)
    ∷ checking 0 (with_full 1000 (with_entry Column.slice 0 1000 lent2)) ∷ []

-- "W3. Row counts are at most 512; places before the count hold numbers below 512, the rest 65535. Flags are 0 or 1."
abbrev pub w3 : List LentCase
w3 =
    bad_rows (0 ∷ 1 ∷ replicate 1022 65535) (513 ∷ 0 ∷ []) ∷ bad_rows (0 ∷ 1 ∷ 512 ∷ replicate 1021 65535) (3 ∷ 0 ∷ [])
    ∷ bad_rows (0 ∷ 1 ∷ 65534 ∷ replicate 1021 65535) (2 ∷ 0 ∷ []) ∷ bad_rows (0 ∷ 1 ∷ replicate 1021 65535 ++ 0 ∷ []) (2 ∷ 0 ∷ [])
    ∷ checking 2 (with_flags (2 ∷ 1 ∷ []) lent2) ∷ []

-- "W4. Each runnable task stands in exactly one place of all rows, in the row of its CPU, and that CPU is allowed. No other task stands in a
-- row.": task 1 not at all, twice, in two rows, in the row of another CPU; task 0 on a CPU that is not allowed; a sleeper, and a free place
abbrev pub w4 : List LentCase
w4 =
    bad_rows (0 ∷ replicate 1023 65535) (1 ∷ 0 ∷ []) ∷ bad_rows (0 ∷ 1 ∷ 1 ∷ replicate 1021 65535) (3 ∷ 0 ∷ [])
    ∷ answers 2 check 2 (at_levels 101 101) (with_rows (0 ∷ 1 ∷ replicate 510 65535 ++ 1 ∷ replicate 511 65535) (2 ∷ 1 ∷ []) lent2)
    ∷ answers 2 check 2 (at_levels 101 101) (with_rows (0 ∷ replicate 511 65535 ++ 1 ∷ replicate 511 65535) (1 ∷ 1 ∷ []) lent2)
    ∷ bad_entry Column.mask 0 2
    ∷ bad_rows (0 ∷ 1 ∷ 2 ∷ replicate 1021 65535) (3 ∷ 0 ∷ []) ∷ bad_rows (0 ∷ 1 ∷ 3 ∷ replicate 1021 65535) (3 ∷ 0 ∷ []) ∷ []

-- "W5. Along a row, priorities never rise."
abbrev pub w5 : List LentCase
w5 = answers 2 check 2 (at_levels 100 1) (with_entry Column.prio 0 98 lent2) ∷ []

-- "W6. The record is consistent in itself for N (masks, counts, words and levels say the same; levels of CPUs below N are 0 to 101 but never 2;
-- word bits 102 to 127 are clear), and each CPU's level is its first task's priority plus 2 or, for an empty row, its flag."; "INVALID is 255,
-- held by CPU places N and up, in no mask"
abbrev pub w6 : List LentCase
w6 =
    bad_record (lent_record (0 ∷ 3 ∷ replicate 99 0 ++ 1 ∷ []) record2.counts record2.words record2.levels)
    ∷ bad_record (lent_record record2.masks record2.counts (2 ∷ (2 ^ 37 + 2 ^ 63) ∷ []) record2.levels)
    ∷ bad_record (lent_record (0 ∷ 0 ∷ 2 ∷ replicate 98 0 ++ 1 ∷ []) (0 ∷ 0 ∷ 1 ∷ replicate 98 0 ++ 1 ∷ []) (4 ∷ 2 ^ 37 ∷ []) (101 ∷ 2 ∷ replicate 62 255))
    ∷ bad_record (lent_record (4 ∷ 2 ∷ replicate 99 0 ++ 1 ∷ []) (1 ∷ 1 ∷ replicate 99 0 ++ 1 ∷ []) (3 ∷ 2 ^ 37 ∷ []) (101 ∷ 1 ∷ 0 ∷ replicate 61 255))
    ∷ checking 2 (with_entry Column.prio 0 98 (with_entry Column.prio 1 98 lent2)) ∷ checking 2 (with_flags (0 ∷ 0 ∷ []) lent2) ∷ []

-- all tasks of it asleep
abbrev pub quiet2 : Tables
quiet2 = with_rows (replicate 1024 65535) (0 ∷ 0 ∷ []) (with_entry Column.state 0 1 (with_entry Column.state 1 1 lent2))

-- L8: "Refusal 2 also covers an online mask of 0 or with bits at N or above"
abbrev pub online_masks : List LentCase
online_masks =
    checking 2 (with_up 0 lent2) ∷ checking 2 (with_up 4 lent2) ∷ checking 2 (with_up 7 lent2)
    ∷ answers 0 check 2 (at_levels 255 1) (with_up 2 quiet2) ∷ answers 2 check 2 (at_levels 255 255) (with_up 0 quiet2) ∷ []

-- "An offline CPU has an empty row and level INVALID": CPU 1 may be offline, at INVALID and at no other level, with its flag; CPU 0 has tasks, whatever
-- its level says; and INVALID is held "for offline CPUs only"
abbrev pub offline_cpus : List LentCase
offline_cpus =
    answers 0 check 2 (at_levels 101 255) (with_up 1 lent2) ∷ checking 2 (with_up 1 lent2) ∷ answers 2 check 2 (at_levels 101 0) (with_up 1 lent2)
    ∷ checking 2 (with_up 2 lent2) ∷ answers 2 check 2 (at_levels 255 1) (with_up 2 lent2) ∷ answers 2 check 2 (at_levels 101 255) lent2 ∷ []

-- ---- refusal 1

-- tables of the right lengths for n CPUs, and nothing right in them
abbrev pub dirty : ℕ → Tables
dirty n =
    let column : List ℕ = replicate 512 7 in
    lent 100 column column column column column column (replicate (512 * n) 3) (replicate n 9) (replicate n 5) 4 (replicate 252 4)

abbrev pub no_record : Record
no_record = lent_record [] [] [] []

-- "N is 0 or over 64"
abbrev pub sizes : List LentCase
sizes =
    answers 1 make 0 no_record (dirty 0) ∷ answers 1 make 65 no_record (dirty 65) ∷ answers 1 (handle (tick 0)) 0 no_record (dirty 0)
    ∷ answers 1 (handle (tick 0)) 65 no_record (dirty 65) ∷ answers 1 check 0 no_record (dirty 0) ∷ answers 1 check 65 no_record (dirty 65) ∷ []

-- L7: "1 to 1,000 [..] one out of range is refused with 1", also where all else is right
abbrev pub slices : List LentCase
slices =
    answers 1 make 2 record2 (with_full 0 lent2) ∷ answers 1 make 2 record2 (with_full 1001 lent2) ∷ answers 1 check 2 record2 (with_full 0 lent2)
    ∷ answers 1 check 2 record2 (with_full 1001 lent2) ∷ answers 1 (handle (tick 0)) 2 record2 (with_full 0 lent2)
    ∷ answers 1 (handle (tick 0)) 2 record2 (with_full 1001 lent2) ∷ []

-- a column is one entry short
abbrev pub short_column : Column → LentCase
short_column k = checking 1 (in_column k (λ (xs : List ℕ). tail xs) lent2)

-- "or a lent table has another length than above", before all that is wrong in them; "Making a fresh machine refuses only with 1, and then hands
-- back the record it was given"
abbrev pub lengths : List LentCase
lengths =
    short_column Column.state ∷ short_column Column.policy ∷ short_column Column.prio ∷ short_column Column.cpu ∷ short_column Column.slice
    ∷ short_column Column.mask
    ∷ checking 1 (with_rows (0 ∷ 1 ∷ replicate 1021 65535) (2 ∷ 0 ∷ []) lent2) ∷ checking 1 (with_rows (0 ∷ 1 ∷ replicate 1022 65535) (2 ∷ []) lent2)
    ∷ checking 1 (with_flags (0 ∷ 1 ∷ 0 ∷ []) lent2) ∷ checking 1 (with_log (replicate 251 4) lent2) ∷ checking 1 (with_log (replicate 256 4) lent2)
    ∷ checking 1 (with_log (replicate 189 4) lent2)
    ∷ answers 1 make 2 record2 (with_log (replicate 256 4) lent2) ∷ answers 1 (handle (event 0 0 0 0 0)) 2 no_record (with_log (replicate 253 4) (dirty 2)) ∷ []

-- ---- the entries

-- "A fresh machine has all places free, rows empty, flags 0; every log number is set to 65535."; "Old table contents don't
-- matter to the fresh maker."
abbrev pub made_with : ℕ → LentCase
made_with full =
    let zeros : List ℕ = replicate 512 0 in
    record {
      call = make;
      n = 2;
      cpupri = no_record;
      tables = with_full full (dirty 2);
      expected = result_of 0 0 (lent_record (3 ∷ replicate 101 0) (2 ∷ replicate 101 0) (1 ∷ 0 ∷ []) (0 ∷ 0 ∷ replicate 62 255))
          (lent full zeros zeros zeros zeros zeros zeros (replicate 1024 65535) (0 ∷ 0 ∷ []) (0 ∷ 0 ∷ []) 3 (replicate 252 65535));
    }

abbrev pub fresh_made : List LentCase
fresh_made = made_with 100 ∷ made_with 1 ∷ made_with 1000 ∷ []

-- 2, "W1 to W6 fail anywhere", before 3, "kinds not 1 to 11"; "A refusal reports 0 moves and changes nothing."
abbrev pub ill_formed_first : List LentCase
ill_formed_first = checking 2 (dirty 2) ∷ answers 2 (handle (event 0 0 0 0 0)) 2 record2 (with_entry Column.state 2 3 lent2) ∷ []

-- "Accepted is 0 with the number of moves; log entries from that number on stay as they were.": the machine above passes the check, a tick of its
-- empty row does nothing, then task 1 migrates to CPU 1, which had ordinary work
abbrev pub handled_move : List LentCase
handled_move =
    record {
      call = handle (tick 1);
      n = 2;
      cpupri = record2;
      tables = lent2;
      expected = result_of 0 1 (lent_record (replicate 101 0 ++ 3 ∷ []) (replicate 101 0 ++ 2 ∷ []) (0 ∷ 2 ^ 37 ∷ []) (101 ∷ 101 ∷ replicate 62 255))
          (lent 100 lent2.state lent2.policy lent2.prio (0 ∷ 1 ∷ 1 ∷ replicate 509 0) lent2.slice lent2.mask
          (0 ∷ replicate 511 65535 ++ 1 ∷ replicate 511 65535) (1 ∷ 1 ∷ []) (0 ∷ 1 ∷ []) 3 (1 ∷ 0 ∷ 1 ∷ 1 ∷ replicate 248 4));
    }
    ∷ []

-- L7: "kinds 1 and 7 use that number": the last tick of a slice, on a machine of 1000: task 0, RR, goes behind task 1
abbrev pub handled_tick : List LentCase
handled_tick =
    let ticking : Tables = with_full 1000 (with_entry Column.policy 0 2 (with_entry Column.slice 0 1 lent2)) in
    record {
      call = handle (tick 0);
      n = 2;
      cpupri = record2;
      tables = ticking;
      expected = result_of 0 0 record2 (with_rows (1 ∷ 0 ∷ replicate 1022 65535) (2 ∷ 0 ∷ []) (with_entry Column.slice 0 1000 ticking));
    }
    ∷ []

-- L8: "the machine gains an online mask, carried like the record": CPU 1 goes offline, and comes back with its flag as its level; task 1 waits on
-- CPU 0 and migrates to it
abbrev pub handled_online : List LentCase
handled_online =
    record {
      call = handle (offline 1);
      n = 2;
      cpupri = record2;
      tables = lent2;
      expected = result_of 0 0 (lent_record (replicate 101 0 ++ 1 ∷ []) (replicate 101 0 ++ 1 ∷ []) (0 ∷ 2 ^ 37 ∷ []) (101 ∷ replicate 63 255)) (with_up 1 lent2);
    }
    ∷ record {
      call = handle (online 1);
      n = 2;
      cpupri = at_levels 101 255;
      tables = with_up 1 lent2;
      expected = result_of 0 1 (lent_record (replicate 101 0 ++ 3 ∷ []) (replicate 101 0 ++ 2 ∷ []) (0 ∷ 2 ^ 37 ∷ []) (101 ∷ 101 ∷ replicate 62 255))
          (lent 100 lent2.state lent2.policy lent2.prio (0 ∷ 1 ∷ 1 ∷ replicate 509 0) lent2.slice lent2.mask
          (0 ∷ replicate 511 65535 ++ 1 ∷ replicate 511 65535) (1 ∷ 1 ∷ []) (0 ∷ 1 ∷ []) 3 (1 ∷ 0 ∷ 1 ∷ 1 ∷ replicate 248 4));
    }
    ∷ answers 10 (handle (offline 0)) 2 record2 lent2 ∷ answers 11 (handle (online 0)) 2 record2 lent2 ∷ []

abbrev pub lent_cases : List LentCase
lent_cases = w1 ++ w2 ++ w2_full ++ w3 ++ w4 ++ w5 ++ w6 ++ sizes ++ slices ++ lengths ++ fresh_made ++ ill_formed_first ++ handled_move ++ handled_tick
    ++ online_masks ++ offline_cpus ++ handled_online
