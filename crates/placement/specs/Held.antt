-- What the lent tables hold of a machine, as far as its run queues and levels go.
-- Assumes nothing.
use Rattle.std.specs.Prelude.{◌≡◌, Bool, true, cond, List, ℕ, ◌≤◌, ◌<◌, length, set}
use Rattle.cpupri.specs.Record.{record_of}
use Rattle.levels.specs.declared.record.Record.{Record}
use Rattle.rules.specs.Lists.{In, Falling}
use Rattle.rules.specs.Machine.{Machine, prio_of, row, flag, is_online, level, levels, task_places, cpu_places, highest_priority}
use Rattle.rules.specs.Tables.{flat_of, row_counts}

-- a machine whose run queues are in order: what holds of a well-formed one, and of one from whose rows a task has been taken
pub record InOrder (m : Machine) : Type 0 where
  pub cpus : m.n ≤ cpu_places
  pub rows : length m.rows ≡ m.n
  pub prios : length m.prio ≡ task_places
  pub fits : (c : ℕ) → length (row m c) ≤ task_places
  pub tasks : (c u : ℕ) → In u (row m c) → u < task_places
  pub high : (c u : ℕ) → In u (row m c) → prio_of m u ≤ highest_priority
  pub flags : (c : ℕ) → c < m.n → flag m c ≤ 1
  pub falling : (c : ℕ) → Falling (prio_of m) (row m c)

-- the lists ps (priorities), ks (counts) and flat (rows) hold the machine's run queues, and the record r its levels
pub record Held (m : Machine) (ps ks flat : List ℕ) (r : Record) : Type 0 where
  pub order : InOrder m
  pub prio : ps ≡ m.prio
  pub counts : ks ≡ row_counts m.rows
  pub rows : flat ≡ flat_of m.rows
  pub levels : r ≡ record_of (levels m)

-- task t can enter row c
pub record Entering (m : Machine) (ps ks flat : List ℕ) (r : Record) (t c : ℕ) : Type 0 where
  pub held : Held m ps ks flat r
  pub cpu : c < m.n
  pub task : t < task_places
  pub high : prio_of m t ≤ highest_priority
  pub room : length (row m c) < task_places

-- the lists ks (counts) and flat (rows) hold the machine's run queues, whatever the record holds
abbrev pub Queues : Machine → List ℕ → List ℕ → Type 0
Queues m ks flat = Held m m.prio ks flat (record_of (levels m))

-- the level of CPU c, which is online, can be read off the lists; fs holds the flags
pub record Following (m : Machine) (ps fs ks flat : List ℕ) (c : ℕ) : Type 0 where
  pub queues : Queues m ks flat
  pub prio : ps ≡ m.prio
  pub flags : fs ≡ m.flags
  pub flag_count : length m.flags ≡ m.n
  pub cpu : c < m.n
  pub online : is_online m c ≡ true

-- the levels xs with that of CPU c as it is in m, if it is to follow
abbrev pub followed : Bool → ℕ → Machine → List ℕ → List ℕ
followed b c m xs = cond b (set xs c (level m c)) xs
