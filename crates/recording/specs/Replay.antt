-- Replaying a recording: what its events do to a fresh machine, the totals, and the time that each CPU had a real-time task.
-- Assumes nothing.
use Rattle.std.specs.Prelude.{Bool, cond, not, Ok, Err, List, [], ◌∷◌, ◌++◌, ℕ, ◌+◌, ◌-◌, ◌*◌, ◌%◌, ◌^◌, eqb, take, drop, replicate}
use Rattle.bits.specs.Bit.{digit}
use Rattle.levels.specs.declared.record.Record.{Record}
use Rattle.rules.specs.Machine.{task_places, cpu_places}
use Rattle.rules.specs.Events.{event as numbers}
use Rattle.rules.specs.Events as events
use Rattle.rules.specs.Refusals.{bad_size}
use Rattle.rules.specs.Tables.{Tables, lent, lengths_fit}
use Rattle.rules.specs.Entry.{Result, made, handled}
use Rattle.recording.specs.declared.Event.{Event}
use Rattle.recording.specs.declared.Ending.{Ending}
use Rattle.recording.specs.declared.Ending.TheVariants.{Stopped}
use Rattle.recording.specs.Reading.{First, first_of, Reading, reading, recorded_slice}

-- ---- time

-- from stamp s to stamp t, in microseconds; stamps are 32 bits and run past the end to zero
abbrev pub elapsed : ℕ → ℕ → ℕ
elapsed s t = (t + 2 ^ 32 - s) % 2 ^ 32

-- d more for each CPU that has a real-time task, which is one whose row is not empty
unfoldable pub accrued : ℕ → List ℕ → List ℕ → List ℕ
accrued d [] ts = ts
accrued d (k ∷ ks) [] = []
accrued d (k ∷ ks) (t ∷ ts) = (t + cond (eqb k 0) 0 d) ∷ accrued d ks ts

-- ---- a run of events

-- the record and tables of N CPUs, the time of each of the 64 CPU places, the moves and the refused events so far, and the last event's stamp
pub record Run : Type 0 where
  pub cpupri : Record
  pub tables : Tables
  pub times : List ℕ
  pub moves : ℕ
  pub refused : ℕ
  pub last : ℕ

abbrev pub run : Record → Tables → List ℕ → ℕ → ℕ → ℕ → Run
run r s ts k f t = record { cpupri = r; tables = s; times = ts; moves = k; refused = f; last = t }

-- what an event record asks of the machine, by its five numbers
abbrev pub asked : Event → events.Event
asked e = numbers e.kind e.who e.a e.b e.mask

-- what the machine answers
abbrev pub answered : ℕ → Event → Run → Result
answered n e u = handled n u.cpupri u.tables (asked e)

-- One event more. The time since the event before goes to the CPUs that had a task until now: an event takes effect at its stamp. A refused
-- event is counted and changes nothing, and its stamp counts.
abbrev pub next : ℕ → Event → Run → Run
next n e u =
    let o : Result = answered n e u in
    run o.cpupri o.tables (accrued (elapsed u.last e.stamp) u.tables.counts u.times) (u.moves + o.moves)
    (u.refused + digit (not (eqb o.answer 0))) e.stamp

unfoldable pub runs : ℕ → List Event → Run → Run
runs n [] u = u
runs n (e ∷ es) u = runs n es (next n e u)

-- The same in batches, one after the other: where they are divided changes nothing (`divided`, proofs/Batches.antt).
unfoldable pub all_of : List (List Event) → List Event
all_of [] = []
all_of (es ∷ ess) = es ++ all_of ess

unfoldable pub batches : ℕ → List (List Event) → Run → Run
batches n [] u = u
batches n (es ∷ ess) u = batches n ess (runs n es u)

-- time begins at the first event's stamp
abbrev pub first_stamp : List Event → ℕ
first_stamp [] = 0
first_stamp (e ∷ es) = e.stamp

-- on a machine just made
abbrev pub begun : Result → ℕ → Run
begun o stamp = run o.cpupri o.tables (replicate cpu_places 0) 0 0 stamp

-- ---- tables lent for 64 CPUs, of which the first N are used

-- with a full slice of so many ticks
abbrev pub with_slice : ℕ → Tables → Tables
with_slice full s =
    lent full s.state s.policy s.prio s.cpu s.slice s.mask s.rows s.counts s.flags s.online s.log

abbrev pub part_of : ℕ → ℕ → Tables → Tables
part_of n full s =
    lent full s.state s.policy s.prio s.cpu s.slice s.mask (take (task_places * n) s.rows) (take n s.counts) (take n s.flags)
    s.online s.log

-- rows, counts and flags beyond N stay as they were
abbrev pub around : ℕ → Tables → Tables → Tables
around n old s =
    lent s.full s.state s.policy s.prio s.cpu s.slice s.mask (s.rows ++ drop (task_places * n) old.rows)
    (s.counts ++ drop n old.counts) (s.flags ++ drop n old.flags) s.online s.log

-- the lengths are those for 64 CPUs, whatever full slice a recording names
abbrev pub lent_for64 : Tables → Bool
lent_for64 s = lengths_fit cpu_places (with_slice recorded_slice s)

-- ---- the public entry

-- the answer, and all that is reported and handed back; the tables' full slice is the one reported
pub record Replayed : Type 0 where
  pub answer : ℕ
  pub ending : Ending
  pub place : ℕ
  pub n : ℕ
  pub times : List ℕ
  pub moves : ℕ
  pub refused : ℕ
  pub cpupri : Record
  pub tables : Tables

abbrev pub replay : ℕ → Ending → ℕ → ℕ → List ℕ → ℕ → ℕ → Record → Tables → Replayed
replay a x p n ts k f r s = record { answer = a; ending = x; place = p; n = n; times = ts; moves = k; refused = f; cpupri = r; tables = s }

-- refused, or no good first record: N, slice and all totals 0, and all as it was lent
abbrev pub unplayed : ℕ → Ending → Record → Tables → Replayed
unplayed a x r s = replay a x 0 0 (replicate cpu_places 0) 0 0 r (with_slice 0 s)

abbrev pub reported : ℕ → Reading → Tables → Run → Replayed
reported n x old u =
    replay 0 x.ending x.place n u.times u.moves u.refused u.cpupri (around n old u.tables)

-- the events of a reading, on a fresh machine of n CPUs
abbrev pub played_on : ℕ → ℕ → Reading → Record → Tables → Run
played_on n full x r s = runs n x.events (begun (made n r (part_of n full s)) (first_stamp x.events))

abbrev pub played : List ℕ → Record → Tables → First → Replayed
played bs r s (Err x) = unplayed 0 x r s
played bs r s (Ok o) = reported o.n (reading o.end bs) s (played_on o.n o.full (reading o.end bs) r s)

-- a recording, on tables lent for 64 CPUs
unfoldable pub replayed : List ℕ → Record → Tables → Replayed
replayed bs r s = cond (lent_for64 s) (played bs r s (first_of bs)) (unplayed bad_size Stopped r s)
