-- The machine: N CPUs, 512 task places, a run queue for each CPU, and the level that each CPU has by what it runs.
-- Assumes nothing.
use Rattle.std.specs.Prelude.{Bool, false, cond, ◌&&◌, List, [], ◌∷◌, ◌++◌, map, ℕ, suc, ◌-◌, ◌^◌, eqb, ltb, get_or, set, replicate}
use Rattle.std.proofs.Math.Option.{Option, none, some}
use Rattle.std.specs.Int.Bits.{bit_and}
use Rattle.bits.specs.Bit.{bit, first, with_bit, without_bit}
pub use Rattle.cpupri.specs.Level.{cpu_places, level_of, invalid}
use Rattle.rules.specs.Lists.{below, insert_before, delete}

-- ---- sizes

-- task places, and places of one row
abbrev pub task_places : ℕ
task_places = 512

-- ---- a task's columns

-- states
abbrev pub free : ℕ
free = 0

abbrev pub asleep : ℕ
asleep = 1

abbrev pub runnable : ℕ
runnable = 2

-- policies
abbrev pub fifo : ℕ
fifo = 1

abbrev pub rr : ℕ
rr = 2

-- priorities are 1 to 99, larger is higher
abbrev pub lowest_priority : ℕ
lowest_priority = 1

abbrev pub highest_priority : ℕ
highest_priority = 99

-- a full time slice has 1 to 1000 ticks, and 25 if its maker is told none
abbrev pub longest_slice : ℕ
longest_slice = 1000

abbrev pub default_slice : ℕ
default_slice = 25

-- one task place: its entry in each column; `slice` is what is left, bit c of the affinity `mask` is CPU c
pub record Task : Type 0 where
  pub state : ℕ
  pub policy : ℕ
  pub prio : ℕ
  pub cpu : ℕ
  pub slice : ℕ
  pub mask : ℕ

-- a free place holds 0 in all its columns
abbrev pub free_task : Task
free_task = record { state = free; policy = 0; prio = 0; cpu = 0; slice = 0; mask = 0 }

-- ---- the machine

-- The columns stay columns. `rows` are the run queues: row c lists the tasks of CPU c in run order, the first runs, the others wait.
-- `flags` says which CPUs have ordinary work, bit c of `online` whether CPU c is online. `full` is a full time slice, in ticks.
pub record Machine : Type 0 where
  pub n : ℕ
  pub full : ℕ
  pub state : List ℕ
  pub policy : List ℕ
  pub prio : List ℕ
  pub cpu : List ℕ
  pub slice : List ℕ
  pub mask : List ℕ
  pub rows : List (List ℕ)
  pub flags : List ℕ
  pub online : ℕ

abbrev pub task_of : Machine → ℕ → Task
task_of m t =
    record {
      state = get_or m.state t 0;
      policy = get_or m.policy t 0;
      prio = get_or m.prio t 0;
      cpu = get_or m.cpu t 0;
      slice = get_or m.slice t 0;
      mask = get_or m.mask t 0;
    }

abbrev pub prio_of : Machine → ℕ → ℕ
prio_of m t = (task_of m t).prio

-- the run queue of CPU c
abbrev pub row : Machine → ℕ → List ℕ
row m c = get_or m.rows c []

abbrev pub flag : Machine → ℕ → ℕ
flag m c = get_or m.flags c 0

-- CPU c is online
abbrev pub is_online : Machine → ℕ → Bool
is_online m c = bit m.online c

-- the first of a row
abbrev pub head : List ℕ → Option ℕ
head [] = none
head (t ∷ ts) = some t

-- the task that runs on CPU c
abbrev pub running : Machine → ℕ → Option ℕ
running m c = head (row m c)

-- all places free, rows empty, flags 0, all N online
abbrev pub fresh : ℕ → ℕ → Machine
fresh n full =
    let zeros : List ℕ = replicate task_places 0 in
    record {
      n = n;
      full = full;
      state = zeros;
      policy = zeros;
      prio = zeros;
      cpu = zeros;
      slice = zeros;
      mask = zeros;
      rows = replicate n [];
      flags = replicate n 0;
      online = 2 ^ n - 1;
    }

-- ---- levels, as the CPU-priority record has them: 0 idle, 1 ordinary work only, priority p at p + 2; INVALID for no CPU

-- A row's level is its first task's; f is that of an empty one. It takes the priorities as a function.
abbrev pub row_level : (ℕ → ℕ) → ℕ → List ℕ → ℕ
row_level p f [] = f
row_level p f (t ∷ ts) = level_of (p t)

-- without a task a CPU has its flag as its level, or INVALID if it is offline
abbrev pub idle_level : Machine → ℕ → ℕ
idle_level m c = cond (is_online m c) (flag m c) invalid

abbrev pub level : Machine → ℕ → ℕ
level m c = row_level (prio_of m) (idle_level m c) (row m c)

-- the levels as the CPU-priority record holds them, one for each of its CPU places
abbrev pub levels : Machine → List ℕ
levels m = map (level m) (below m.n) ++ replicate (cpu_places - m.n) invalid

-- ---- affinity

-- a task with the affinity mask k may use CPU c, and it is online
abbrev pub allows : Machine → ℕ → ℕ → Bool
allows m k c = bit k c && is_online m c

abbrev pub allowed : Machine → ℕ → ℕ → Bool
allowed m t c = allows m (task_of m t).mask c

-- the lowest-numbered online CPU that the mask k allows
abbrev pub lowest_allowed : Machine → ℕ → ℕ
lowest_allowed m k = first (allows m k) m.n

-- it allows no CPU that is online
abbrev pub stranded : Machine → ℕ → Bool
stranded m k = eqb (bit_and k m.online) 0

-- ---- changing a machine

-- all parts of a machine, in their order
abbrev pub build : ℕ → ℕ → List ℕ → List ℕ → List ℕ → List ℕ → List ℕ → List ℕ → List (List ℕ) → List ℕ → ℕ → Machine
build n full ss ps qs cs ls ks rs fs up =
    record { n = n; full = full; state = ss; policy = ps; prio = qs; cpu = cs; slice = ls; mask = ks; rows = rs; flags = fs; online = up }

pub data Column : Type 0 where
  state policy prio cpu slice mask : Column

-- task t's entry in one column becomes v
abbrev pub store : Column → ℕ → ℕ → Machine → Machine
store state t v m = build m.n m.full (set m.state t v) m.policy m.prio m.cpu m.slice m.mask m.rows m.flags m.online
store policy t v m = build m.n m.full m.state (set m.policy t v) m.prio m.cpu m.slice m.mask m.rows m.flags m.online
store prio t v m = build m.n m.full m.state m.policy (set m.prio t v) m.cpu m.slice m.mask m.rows m.flags m.online
store cpu t v m = build m.n m.full m.state m.policy m.prio (set m.cpu t v) m.slice m.mask m.rows m.flags m.online
store slice t v m = build m.n m.full m.state m.policy m.prio m.cpu (set m.slice t v) m.mask m.rows m.flags m.online
store mask t v m = build m.n m.full m.state m.policy m.prio m.cpu m.slice (set m.mask t v) m.rows m.flags m.online

-- task t's entry in every column
abbrev pub write : ℕ → Task → Machine → Machine
write t τ m =
    build m.n m.full (set m.state t τ.state) (set m.policy t τ.policy) (set m.prio t τ.prio) (set m.cpu t τ.cpu)
    (set m.slice t τ.slice) (set m.mask t τ.mask) m.rows m.flags m.online

abbrev pub with_row : ℕ → List ℕ → Machine → Machine
with_row c r m = build m.n m.full m.state m.policy m.prio m.cpu m.slice m.mask (set m.rows c r) m.flags m.online

abbrev pub with_flag : ℕ → ℕ → Machine → Machine
with_flag c b m = build m.n m.full m.state m.policy m.prio m.cpu m.slice m.mask m.rows (set m.flags c b) m.online

-- the CPUs of the word `up` are online
abbrev pub with_online : ℕ → Machine → Machine
with_online up m = build m.n m.full m.state m.policy m.prio m.cpu m.slice m.mask m.rows m.flags up

-- CPU c is offline, or online, and all else as it was
abbrev pub without_cpu : ℕ → Machine → Machine
without_cpu c m = with_online (without_bit m.online c) m

abbrev pub with_cpu : ℕ → Machine → Machine
with_cpu c m = with_online (with_bit m.online c) m

-- ---- entering and leaving a row

-- before the first task whose priority is below k, and so behind every one of k or more
abbrev pub queued : ℕ → (ℕ → ℕ) → ℕ → List ℕ → List ℕ
queued k p t r = insert_before (λ u. ltb (p u) k) t r

-- the number by which a task of priority p is queued: in front of its equals, or behind them
abbrev pub entry_key : Bool → ℕ → ℕ
entry_key front p = cond front (suc p) p

-- task t stands in row c, in front of its equals or behind them, and c is then its CPU
abbrev pub enqueue_at : Bool → ℕ → ℕ → Machine → Machine
enqueue_at front t c m = store cpu t c (with_row c (queued (entry_key front (prio_of m t)) (prio_of m) t (row m c)) m)

-- task t enters row c: behind every task of the same or a higher priority and before all lower ones
abbrev pub enqueue : ℕ → ℕ → Machine → Machine
enqueue t c m = enqueue_at false t c m

-- task t leaves row c
abbrev pub dequeue : ℕ → ℕ → Machine → Machine
dequeue t c m = with_row c (delete t (row m c)) m

-- task t leaves row c and enters it again
abbrev pub requeue : ℕ → ℕ → Machine → Machine
requeue t c m = enqueue t c (dequeue t c m)
