-- The tables as the caller lends them: how they are read as a machine and written back, and W3 and W6 of what is stored.
-- Assumes nothing.
use Rattle.std.specs.Prelude.{◌≡◌, Bool, true, ◌&&◌, List, [], ◌∷◌, ◌++◌, map, ℕ, zero, suc, ◌+◌, ◌-◌, ◌*◌, ◌≤◌, ◌<◌, eqb, ltb, length, get_or, take, drop, replicate}
use Rattle.cpupri.specs.Consistent.{consistent, same}
use Rattle.cpupri.specs.Found.{size_fits}
use Rattle.levels.specs.declared.record.Record.{Record}
use Rattle.rules.specs.Lists.{joined}
use Rattle.rules.specs.Machine.{Machine, task_places, levels}
use Rattle.rules.specs.WellFormed.{slice_fits, well_formed}
use Rattle.rules.specs.Outcome.{entry_width, log_entries}

-- what an unused place of a row holds, and each number of a fresh log
abbrev pub nothing : ℕ
nothing = 65535

abbrev pub log_places : ℕ
log_places = log_entries * entry_width

-- the full slice, a number; task columns; rows as one list, row c from place 512 * c on; a count and a flag for each CPU; the online mask, a
-- number; the move log
pub record Tables : Type 0 where
  pub full : ℕ
  pub state : List ℕ
  pub policy : List ℕ
  pub prio : List ℕ
  pub cpu : List ℕ
  pub slice : List ℕ
  pub mask : List ℕ
  pub rows : List ℕ
  pub counts : List ℕ
  pub flags : List ℕ
  pub online : ℕ
  pub log : List ℕ

-- put together, in that order
abbrev pub lent : ℕ → List ℕ → List ℕ → List ℕ → List ℕ → List ℕ → List ℕ → List ℕ → List ℕ → List ℕ → ℕ → List ℕ → Tables
lent full ss ps qs cs ls ks rs ns fs up log =
    record { full = full; state = ss; policy = ps; prio = qs; cpu = cs; slice = ls; mask = ks; rows = rs; counts = ns; flags = fs; online = up; log = log }

-- ---- rows

-- the run queues: of the 512 places of each row as many as its count says
unfoldable pub rows_of : List ℕ → List ℕ → List (List ℕ)
rows_of [] flat = []
rows_of (k ∷ ks) flat = take k flat ∷ rows_of ks (drop task_places flat)

-- a run queue in its 512 places
unfoldable pub padded : List ℕ → List ℕ
padded r = r ++ replicate (task_places - length r) nothing

unfoldable pub flat_of : List (List ℕ) → List ℕ
flat_of rows = joined (map padded rows)

abbrev pub row_counts : List (List ℕ) → List ℕ
row_counts rows = map (λ (r : List ℕ). length r) rows

-- ---- reading and writing a machine

abbrev pub machine_of : ℕ → Tables → Machine
machine_of n s =
    record {
      n = n;
      full = s.full;
      state = s.state;
      policy = s.policy;
      prio = s.prio;
      cpu = s.cpu;
      slice = s.slice;
      mask = s.mask;
      rows = rows_of s.counts s.rows;
      flags = s.flags;
      online = s.online;
    }

abbrev pub tables_of : Machine → List ℕ → Tables
tables_of m log =
    record {
      full = m.full;
      state = m.state;
      policy = m.policy;
      prio = m.prio;
      cpu = m.cpu;
      slice = m.slice;
      mask = m.mask;
      rows = flat_of m.rows;
      counts = row_counts m.rows;
      flags = m.flags;
      online = m.online;
      log = log;
    }

-- ---- W3 of the stored rows

-- what `storedRows` below tests, in the paper's words: proofs/Tables.antt
pub record Stored (counts flat : List ℕ) : Type 0 where
  pub counted : (c : ℕ) → c < length counts → get_or counts c 0 ≤ task_places
  pub used : (c i : ℕ) → c < length counts → i < get_or counts c 0 → get_or flat (task_places * c + i) 0 < task_places
  pub unused : (c i : ℕ) → c < length counts → get_or counts c 0 ≤ i → i < task_places → get_or flat (task_places * c + i) 0 ≡ nothing

-- as a test: of one row's places the first k hold task numbers, and the rest hold nothing
unfoldable pub stored_row : ℕ → List ℕ → Bool
stored_row k [] = eqb k 0
stored_row zero (x ∷ xs) = eqb x nothing && stored_row zero xs
stored_row (suc k) (x ∷ xs) = ltb x task_places && stored_row k xs

unfoldable pub stored_rows : List ℕ → List ℕ → Bool
stored_rows [] flat = true
stored_rows (k ∷ ks) flat = stored_row k (take task_places flat) && stored_rows ks (drop task_places flat)

-- ---- W6: the record is consistent in itself for N, and each CPU's level is the machine's

abbrev pub record_fits : Machine → Record → Bool
record_fits m r = consistent m.n r && same r.levels (levels m)

-- ---- all of it

-- N, the full slice, and every table has its length
abbrev pub lengths_fit : ℕ → Tables → Bool
lengths_fit n s =
    size_fits n && slice_fits s.full && eqb (length s.state) task_places && eqb (length s.policy) task_places && eqb (length s.prio) task_places
    && eqb (length s.cpu) task_places && eqb (length s.slice) task_places && eqb (length s.mask) task_places
    && eqb (length s.rows) (task_places * n) && eqb (length s.counts) n && eqb (length s.flags) n && eqb (length s.log) log_places

-- W1 to W6 of tables that have their lengths
abbrev pub tables_fit : ℕ → Record → Tables → Bool
tables_fit n r s = stored_rows s.counts s.rows && well_formed (machine_of n s) && record_fits (machine_of n s) r
