-- Demand 3 once more, of what the caller holds after an accepted event: over the numbers of the log and the tables.
-- Assumes nothing.
use Rattle.std.specs.Prelude.{◌≡◌, true, List, ◌≢◌, ℕ, ◌+◌, ◌*◌, ◌≤◌, ◌<◌, length, get_or}
use Rattle.bits.specs.Bit.{bit}
use Rattle.rules.specs.Machine.{Machine, prio_of, task_places, runnable}
use Rattle.rules.specs.Outcome.{entry_width}
use Rattle.rules.specs.Migration.{Move}
use Rattle.rules.specs.Demand3.{most_moves, online_cpus, Steps, movers, origins, receivers, displacements}
use Rattle.rules.specs.Tables.{Tables, machine_of}

-- number j of the log's entry i
abbrev pub entry_at : Tables → ℕ → ℕ → ℕ
entry_at s i j = get_or s.log (entry_width * i + j) 0

-- its mover, the CPU it waited on, its destination, and the level that the destination had before
abbrev pub mover_at : Tables → ℕ → ℕ
mover_at s i = entry_at s i 0

abbrev pub origin_at : Tables → ℕ → ℕ
origin_at s i = entry_at s i 1

abbrev pub receiver_at : Tables → ℕ → ℕ
receiver_at s i = entry_at s i 2

abbrev pub displaced_at : Tables → ℕ → ℕ
displaced_at s i = entry_at s i 3

-- place p of row c
abbrev pub task_at : Tables → ℕ → ℕ → ℕ
task_at s c p = get_or s.rows (task_places * c + p) 0

-- a task runs on CPU c
abbrev pub Busy : Tables → ℕ → Type 0
Busy s c = 0 < get_or s.counts c 0

-- the steps vs are the log's first entries
pub record Entries (s : Tables) (vs : List Move) : Type 0 where
  pub mover : (i : ℕ) → i < length vs → mover_at s i ≡ get_or (movers vs) i 0
  pub origin : (i : ℕ) → i < length vs → origin_at s i ≡ get_or (origins vs) i 0
  pub receiver : (i : ℕ) → i < length vs → receiver_at s i ≡ get_or (receivers vs) i 0
  pub displaced : (i : ℕ) → i < length vs → displaced_at s i ≡ get_or (displacements vs) i 0

-- `start` is the machine as the event's own effect leaves it, `moves` the number reported, and s the tables with which the event ends
pub record LentDemand3 (n moves : ℕ) (start : Machine) (s : Tables) : Type 0 where
  -- at most as many migrations as CPUs are online, less one
  pub few : moves ≤ most_moves (length (online_cpus start))
  -- no CPU receives two
  pub no_cpu_twice : (i j : ℕ) → i < j → j < moves → receiver_at s i ≢ receiver_at s j
  -- no task moves twice
  pub no_task_twice : (i j : ℕ) → i < j → j < moves → mover_at s i ≢ mover_at s j
  -- the movers' priorities never rise
  pub falling : (i j : ℕ) → i ≤ j → j < moves → prio_of start (mover_at s j) ≤ prio_of start (mover_at s i)
  -- the count is the number of steps and of log entries, in order
  pub counted : (vs : List Move) × Steps start vs (machine_of n s) × (moves ≡ length vs) × Entries s vs
  -- afterwards no waiting task outranks what runs on any online CPU d it is allowed, and something runs there
  pub closing : (c p d : ℕ) → c < n → 0 < p → p < get_or s.counts c 0 → d < n → bit (get_or s.mask (task_at s c p) 0) d ≡ true
      → bit s.online d ≡ true → Busy s d × (get_or s.prio (task_at s c p) 0 ≤ get_or s.prio (task_at s d 0) 0)
  -- every runnable task stands in exactly one row, once: at one place, and at no other
  pub stands : (t : ℕ) → get_or s.state t 0 ≡ runnable
      → (c : ℕ) × (p : ℕ) × (c < n) × (p < get_or s.counts c 0) × (task_at s c p ≡ t)
      × ((d q : ℕ) → d < n → q < get_or s.counts d 0 → task_at s d q ≡ t → (d ≡ c) × (q ≡ p))
