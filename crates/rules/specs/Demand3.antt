-- Demand 3: one statement about an event with all its steps.
-- Assumes nothing.
use Rattle.std.specs.Prelude.{◌≡◌, true, List, [], ◌∷◌, map, ◌≢◌, ℕ, ◌-◌, ◌≤◌, ◌<◌, length}
use Rattle.std.proofs.Math.Option.{some, none}
use Rattle.rules.specs.Lists.{occ, In, Falling, below, select}
use Rattle.rules.specs.Machine.{Machine, task_of, prio_of, row, running, is_online, allowed, runnable}
use Rattle.rules.specs.Migration.{Move, waiting, next, migrate}

abbrev pub movers : List Move → List ℕ
movers log = map (λ (v : Move). v.task) log

abbrev pub origins : List Move → List ℕ
origins log = map (λ (v : Move). v.origin) log

-- a CPU receives a task when it is a step's destination
abbrev pub receivers : List Move → List ℕ
receivers log = map (λ (v : Move). v.target) log

-- the levels that the destinations had before
abbrev pub displacements : List Move → List ℕ
displacements log = map (λ (v : Move). v.displaced) log

-- some task runs on CPU c, and task t is not higher; a CPU without a real-time task counts below all
abbrev pub Outdone : Machine → ℕ → ℕ → Type 0
Outdone m t c = (u : ℕ) × (running m c ≡ some u) × (prio_of m t ≤ prio_of m u)

-- the moves are steps, one after the other, that lead from the first machine to the last, in which no task is movable
pub data Steps : Machine → List Move → Machine → Type 0 where
  none_left : {m : Machine} → next m ≡ none → Steps m [] m
  step : {m : Machine} {v : Move} {log : List Move} {end : Machine} → next m ≡ some v → Steps (migrate v m) log end → Steps m (v ∷ log) end

abbrev pub online_cpus : Machine → List ℕ
online_cpus m = select (is_online m) (below m.n)

-- the most migrations that an event takes with n CPUs online; K5 takes so many
abbrev pub most_moves : ℕ → ℕ
most_moves n = n - 1

-- `start` is the machine as the event's own effect leaves it, `count` the number reported, `log` the log's entries up to it, and `end` the
-- machine with which the event ends
pub record Demand3 (start : Machine) (count : ℕ) (log : List Move) (end : Machine) : Type 0 where
  -- at most as many migrations as CPUs are online, less one
  pub few : count ≤ most_moves (length (online_cpus start))
  -- no CPU receives two
  pub no_cpu_twice : (c : ℕ) → occ c (receivers log) ≤ 1
  -- no task moves twice
  pub no_task_twice : (t : ℕ) → occ t (movers log) ≤ 1
  -- the movers' priorities never rise
  pub falling : Falling (prio_of start) (movers log)
  -- the count is the number of log entries, and they are the steps, in order
  pub counted : (count ≡ length log) × Steps start log end
  -- afterwards no waiting task outranks what runs on any online CPU it is allowed
  pub closing : (t c : ℕ) → In t (waiting end) → c < end.n → allowed end t c ≡ true → Outdone end t c
  -- every runnable task stands in exactly one row, once
  pub stands : (t : ℕ) → (task_of end t).state ≡ runnable → (c : ℕ) × (c < end.n) × (occ t (row end c) ≡ 1) × ((d : ℕ) → d ≢ c → occ t (row end d) ≡ 0)
