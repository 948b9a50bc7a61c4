-- Recordings worked out by hand, for each sentence of the paper: first records, what is read, and nights through the public entry.
-- Assumes nothing.
use Rattle.std.specs.Prelude.{Bool, true, false, ◌&&◌, Err, List, [], ◌∷◌, ◌++◌, ℕ, ◌+◌, ◌*◌, ◌^◌, take, drop, replicate}
use Rattle.cpupri.specs.Consistent.{same}
use Rattle.levels.specs.declared.record.Record.{Record}
use Rattle.rules.specs.Machine.{task_places, cpu_places}
use Rattle.rules.specs.Tables.{Tables, nothing, log_places, lent}
use Rattle.recording.specs.declared.Event.{Event}
use Rattle.recording.specs.declared.Ending.{Ending}
use Rattle.recording.specs.declared.Ending.TheVariants.{Whole, Cut, Stopped}
use Rattle.recording.specs.Layout.{recorded}
use Rattle.recording.specs.Reading.{First, opens, Reading}
use Rattle.recording.specs.Replay.{Replayed, elapsed, replayed}

-- ---- the first record

pub record FirstCase : Type 0 where
  pub bytes : List ℕ
  pub expected : First

abbrev first : List ℕ → First → FirstCase
first bs f = record { bytes = bs; expected = f }

abbrev cut : List ℕ → FirstCase
cut bs = first bs (Err Cut)

abbrev stopped : List ℕ → FirstCase
stopped bs = first bs (Err Stopped)

abbrev pub firsts : List FirstCase
firsts =
    -- "empty is cut", and so is a first record whose N is missing, or whose N is good and slice cut
    cut [] ∷ cut (0 ∷ []) ∷ cut (12 ∷ []) ∷ cut (12 ∷ 4 ∷ []) ∷ cut (12 ∷ 4 ∷ 25 ∷ [])
    -- "a first kind not 0", or 12
    ∷ stopped (3 ∷ []) ∷ stopped (1 ∷ 4 ∷ []) ∷ stopped (13 ∷ 4 ∷ 25 ∷ 0 ∷ [])
    -- "an N out of range", "its slice cut or not"
    ∷ stopped (0 ∷ 0 ∷ []) ∷ stopped (0 ∷ 65 ∷ []) ∷ stopped (12 ∷ 65 ∷ []) ∷ stopped (12 ∷ 0 ∷ 25 ∷ []) ∷ stopped (12 ∷ 65 ∷ 25 ∷ 0 ∷ [])
    -- "a slice out of range"
    ∷ stopped (12 ∷ 4 ∷ 0 ∷ 0 ∷ []) ∷ stopped (12 ∷ 4 ∷ 233 ∷ 3 ∷ [])
    -- "kind 0 still means 100"; 1000 is 232 + 3 * 256
    ∷ first (0 ∷ 1 ∷ []) (opens 1 100 2) ∷ first (0 ∷ 64 ∷ 1 ∷ []) (opens 64 100 2)
    ∷ first (12 ∷ 64 ∷ 1 ∷ 0 ∷ []) (opens 64 1 4) ∷ first (12 ∷ 4 ∷ 232 ∷ 3 ∷ 7 ∷ []) (opens 4 1000 4)
    ∷ []

-- ---- event records, at places from 2 on

pub record ReadingCase : Type 0 where
  -- so many records may come
  pub room : ℕ
  pub bytes : List ℕ
  pub expected : Reading

abbrev reads : ℕ → List ℕ → List Event → Ending → ℕ → ReadingCase
reads room bs es x p = record { room = room; bytes = 0 ∷ 2 ∷ bs; expected = record { events = es; ending = x; place = p } }

-- add task 258, policy 1, priority 50 and a mask of eight bytes, at stamp 67305985; wake it at stamp 2
abbrev added : List ℕ
added = 1 ∷ 1 ∷ 2 ∷ 3 ∷ 4 ∷ 2 ∷ 1 ∷ 1 ∷ 50 ∷ 3 ∷ 0 ∷ 0 ∷ 0 ∷ 0 ∷ 0 ∷ 0 ∷ 128 ∷ []

abbrev add : Event
add = recorded 1 258 1 50 (3 + 2 ^ 63) 67305985

abbrev woken : List ℕ
woken = 3 ∷ 2 ∷ 0 ∷ 0 ∷ 0 ∷ 2 ∷ 1 ∷ []

abbrev wake : Event
wake = recorded 3 258 0 0 0 2

-- one record of each other kind, with stamp 1: lengths 6, 6, 7, 14, 5, 5, 6, 5, 5
abbrev others : List ℕ
others =
    2 ∷ 1 ∷ 0 ∷ 0 ∷ 0 ∷ 5 ∷ 0 ∷ 4 ∷ 1 ∷ 0 ∷ 0 ∷ 0 ∷ 5 ∷ 0 ∷ 5 ∷ 1 ∷ 0 ∷ 0 ∷ 0 ∷ 5 ∷ 0 ∷ 99 ∷ 6 ∷ 1 ∷ 0 ∷ 0 ∷ 0 ∷ 5 ∷ 0 ∷ 0 ∷ 1 ∷ 0 ∷ 0 ∷ 0 ∷ 0 ∷ 0 ∷ 0
    ∷ 7 ∷ 1 ∷ 0 ∷ 0 ∷ 0 ∷ 9 ∷ 8 ∷ 1 ∷ 0 ∷ 0 ∷ 0 ∷ 9 ∷ 9 ∷ 1 ∷ 0 ∷ 0 ∷ 0 ∷ 9 ∷ 1 ∷ 10 ∷ 1 ∷ 0 ∷ 0 ∷ 0 ∷ 9 ∷ 11 ∷ 1 ∷ 0 ∷ 0 ∷ 0 ∷ 9 ∷ []

abbrev other_events : List Event
other_events =
    recorded 2 5 0 0 0 1 ∷ recorded 4 5 0 0 0 1 ∷ recorded 5 5 0 99 0 1 ∷ recorded 6 5 0 0 256 1 ∷ recorded 7 9 0 0 0 1 ∷ recorded 8 9 0 0 0 1
    ∷ recorded 9 9 0 1 0 1 ∷ recorded 10 9 0 0 0 1 ∷ recorded 11 9 0 0 0 1 ∷ []

abbrev pub readings : List ReadingCase
readings =
    reads 65535 [] [] Whole 2 ∷ reads 65535 (added ++ woken) (add ∷ wake ∷ []) Whole 26 ∷ reads 65535 others other_events Whole 70
    -- "says 'cut' unless the cut falls between records": a byte less, a kind alone
    ∷ reads 65535 (added ++ 3 ∷ 2 ∷ 0 ∷ 0 ∷ 0 ∷ 2 ∷ []) (add ∷ []) Cut 19 ∷ reads 65535 (added ++ 3 ∷ []) (add ∷ []) Cut 19
    -- "an unknown kind (a later 0 is one)", "a later 12", and those above 11 stop, and that "goes before 'cut'"
    ∷ reads 65535 (added ++ 0 ∷ []) (add ∷ []) Stopped 19 ∷ reads 65535 (0 ∷ 2 ∷ []) [] Stopped 2 ∷ reads 65535 (added ++ 12 ∷ []) (add ∷ []) Stopped 19
    ∷ reads 65535 (13 ∷ woken) [] Stopped 2 ∷ reads 65535 (woken ++ 255 ∷ []) (wake ∷ []) Stopped 9
    -- "any byte after record 65,536 (the start of one too many)"
    ∷ reads 1 woken (wake ∷ []) Whole 9 ∷ reads 1 (woken ++ woken) (wake ∷ []) Stopped 9 ∷ reads 1 (woken ++ 3 ∷ []) (wake ∷ []) Stopped 9
    ∷ reads 0 [] [] Whole 2 ∷ []

-- ---- the time between two stamps: their difference modulo 2^32

abbrev pub spans : List ℕ
spans = elapsed 3 10 ∷ elapsed 7 7 ∷ elapsed 4294967295 4 ∷ elapsed 103 102 ∷ elapsed 0 4294967295 ∷ []

-- ---- nights, on tables for 64 CPUs that held something else before

pub record Night : Type 0 where
  pub bytes : List ℕ
  pub tables : Tables
  pub ending : Ending
  pub expected : List (List ℕ)

-- rows, counts and flags have these lengths
abbrev used : ℕ → ℕ → ℕ → Tables
used rows counts flags =
    let column : List ℕ = replicate task_places 7 in
    lent 0 column column column column column column (replicate rows 3) (replicate counts 9) (replicate flags 5) 6 (replicate log_places 4)

abbrev old : Tables
old = used (task_places * cpu_places) cpu_places cpu_places

abbrev old_record : Record
old_record = record { masks = []; counts = []; words = []; levels = 8 ∷ [] }

abbrev pub replayed_on : Night → Replayed
replayed_on k = replayed k.bytes old_record k.tables

-- answer, place, N, full slice, moves, refused events, online mask; three CPUs' times, levels, counts and flags; the first numbers of the log; the
-- first two places of three rows; the slice column's first
abbrev pub look : Replayed → List (List ℕ)
look o =
    let s : Tables = o.tables in
    (o.answer ∷ o.place ∷ o.n ∷ s.full ∷ o.moves ∷ o.refused ∷ s.online ∷ []) ∷ take 3 o.times ∷ take 3 o.cpupri.levels ∷ take 3 s.counts
    ∷ take 3 s.flags ∷ take 5 s.log ∷ take 2 s.rows ∷ take 2 (drop task_places s.rows) ∷ take 2 (drop (task_places * 2) s.rows) ∷ take 1 s.slice
    ∷ []

-- "N and all totals are 0 and tables and record stay as they were"
abbrev untouched : ℕ → List (List ℕ)
untouched a =
    (a ∷ 0 ∷ 0 ∷ 0 ∷ 0 ∷ 0 ∷ 6 ∷ []) ∷ (0 ∷ 0 ∷ 0 ∷ []) ∷ (8 ∷ []) ∷ (9 ∷ 9 ∷ 9 ∷ []) ∷ (5 ∷ 5 ∷ 5 ∷ []) ∷ (4 ∷ 4 ∷ 4 ∷ 4 ∷ 4 ∷ [])
    ∷ (3 ∷ 3 ∷ []) ∷ (3 ∷ 3 ∷ []) ∷ (3 ∷ 3 ∷ []) ∷ (7 ∷ []) ∷ []

-- all these numbers are as expected
unfoldable pub as_expected : List (List ℕ) → List (List ℕ) → Bool
as_expected [] [] = true
as_expected [] (y ∷ ys) = false
as_expected (x ∷ xs) [] = false
as_expected (x ∷ xs) (y ∷ ys) = same x y && as_expected xs ys

abbrev night : List ℕ → Ending → List (List ℕ) → Night
night bs x e = record { bytes = bs; tables = old; ending = x; expected = e }

-- lent otherwise
abbrev misfit : Tables → Night
misfit s = record { bytes = 0 ∷ 2 ∷ []; tables = s; ending = Stopped; expected = untouched 1 }

-- K2. At 4294967290 add 0 (50, mask 3) and 1 (40, mask 3); wake 1 at 4294967295, wake 0 at 4, five later, and again, which is refused, at 10: its
-- stamp counts
abbrev second : List ℕ
second =
    0 ∷ 2 ∷ 1 ∷ 250 ∷ 255 ∷ 255 ∷ 255 ∷ 0 ∷ 0 ∷ 1 ∷ 50 ∷ 3 ∷ 0 ∷ 0 ∷ 0 ∷ 0 ∷ 0 ∷ 0 ∷ 0 ∷ 1 ∷ 250 ∷ 255 ∷ 255 ∷ 255 ∷ 1 ∷ 0 ∷ 1 ∷ 40 ∷ 3 ∷ 0 ∷ 0 ∷ 0 ∷ 0 ∷ 0 ∷ 0
    ∷ 0 ∷ 3 ∷ 255 ∷ 255 ∷ 255 ∷ 255 ∷ 1 ∷ 0 ∷ 3 ∷ 4 ∷ 0 ∷ 0 ∷ 0 ∷ 0 ∷ 0 ∷ 3 ∷ 10 ∷ 0 ∷ 0 ∷ 0 ∷ 0 ∷ 0 ∷ []

-- One CPU and a slice of 3. Add 0 (RR, 10) at 100 and wake it at 100; a tick at 103 and one at 102, one step back; ordinary work at 102; sleep at 110;
-- wake at 120: the ten before are no real-time task's. Then a sleep that is cut.
abbrev backwards : List ℕ
backwards =
    12 ∷ 1 ∷ 3 ∷ 0 ∷ 1 ∷ 100 ∷ 0 ∷ 0 ∷ 0 ∷ 0 ∷ 0 ∷ 2 ∷ 10 ∷ 1 ∷ 0 ∷ 0 ∷ 0 ∷ 0 ∷ 0 ∷ 0 ∷ 0 ∷ 3 ∷ 100 ∷ 0 ∷ 0 ∷ 0 ∷ 0 ∷ 0 ∷ 7 ∷ 103 ∷ 0 ∷ 0 ∷ 0 ∷ 0 ∷ 7 ∷ 102 ∷ 0 ∷ 0 ∷ 0
    ∷ 0 ∷ 9 ∷ 102 ∷ 0 ∷ 0 ∷ 0 ∷ 0 ∷ 1 ∷ 4 ∷ 110 ∷ 0 ∷ 0 ∷ 0 ∷ 0 ∷ 0 ∷ 3 ∷ 120 ∷ 0 ∷ 0 ∷ 0 ∷ 0 ∷ 0 ∷ 4 ∷ 130 ∷ 0 ∷ 0 ∷ 0 ∷ 0 ∷ []

-- Add 0 (50, mask 3) and wake it at 0; CPU 0 is taken out at 5 and is back at 7; a tick on CPU 9 at 9 is refused; then a record of kind 12
abbrev service : List ℕ
service =
    0 ∷ 2 ∷ 1 ∷ 0 ∷ 0 ∷ 0 ∷ 0 ∷ 0 ∷ 0 ∷ 1 ∷ 50 ∷ 3 ∷ 0 ∷ 0 ∷ 0 ∷ 0 ∷ 0 ∷ 0 ∷ 0 ∷ 3 ∷ 0 ∷ 0 ∷ 0 ∷ 0 ∷ 0 ∷ 0 ∷ 10 ∷ 5 ∷ 0 ∷ 0 ∷ 0 ∷ 0 ∷ 11 ∷ 7 ∷ 0 ∷ 0 ∷ 0 ∷ 0
    ∷ 7 ∷ 9 ∷ 0 ∷ 0 ∷ 0 ∷ 9 ∷ 12 ∷ 2 ∷ 25 ∷ 0 ∷ []

abbrev pub nights : List Night
nights =
    night second Whole ((0 ∷ 57 ∷ 2 ∷ 100 ∷ 1 ∷ 1 ∷ 3 ∷ []) ∷ (11 ∷ 6 ∷ 0 ∷ []) ∷ (52 ∷ 42 ∷ 255 ∷ []) ∷ (1 ∷ 1 ∷ 9 ∷ []) ∷ (0 ∷ 0 ∷ 5 ∷ [])
    ∷ (1 ∷ 0 ∷ 1 ∷ 0 ∷ nothing ∷ []) ∷ (0 ∷ nothing ∷ []) ∷ (1 ∷ nothing ∷ []) ∷ (3 ∷ 3 ∷ []) ∷ (100 ∷ []) ∷ [])
    ∷ night backwards Cut ((0 ∷ 61 ∷ 1 ∷ 3 ∷ 0 ∷ 0 ∷ 1 ∷ []) ∷ (4294967306 ∷ 0 ∷ 0 ∷ []) ∷ (12 ∷ 255 ∷ 255 ∷ []) ∷ (1 ∷ 9 ∷ 9 ∷ []) ∷ (1 ∷ 5 ∷ 5 ∷ [])
    ∷ (nothing ∷ nothing ∷ nothing ∷ nothing ∷ nothing ∷ []) ∷ (0 ∷ nothing ∷ []) ∷ (3 ∷ 3 ∷ []) ∷ (3 ∷ 3 ∷ []) ∷ (1 ∷ []) ∷ [])
    ∷ night service Stopped ((0 ∷ 44 ∷ 2 ∷ 100 ∷ 0 ∷ 1 ∷ 3 ∷ []) ∷ (5 ∷ 4 ∷ 0 ∷ []) ∷ (0 ∷ 52 ∷ 255 ∷ []) ∷ (0 ∷ 1 ∷ 9 ∷ []) ∷ (0 ∷ 0 ∷ 5 ∷ [])
    ∷ (nothing ∷ nothing ∷ nothing ∷ nothing ∷ nothing ∷ []) ∷ (nothing ∷ nothing ∷ []) ∷ (0 ∷ nothing ∷ []) ∷ (3 ∷ 3 ∷ []) ∷ (100 ∷ []) ∷ [])
    ∷ night [] Cut (untouched 0) ∷ night (0 ∷ 65 ∷ []) Stopped (untouched 0)
    ∷ misfit (used (task_places * cpu_places + 1) cpu_places cpu_places) ∷ misfit (used (task_places * cpu_places) 63 cpu_places)
    ∷ misfit (used (task_places * cpu_places) cpu_places 65) ∷ []
