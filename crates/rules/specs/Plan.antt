-- An event's own effect in parts that every stored form shares: a task leaves a row or not, its columns are written, and it enters a row or
-- not. The table of events stands in Events; that each kind is such a plan is proved where it is decided.
-- Assumes nothing.
use Rattle.std.specs.Prelude.{◌≡◌, Bool, true, false, cond, not, ◌≢◌, ◌⊎◌, ℕ, ◌≤◌, ◌<◌}
use Rattle.rules.specs.Lists.{In}
use Rattle.rules.specs.Machine.{Machine, Task, task_of, row, is_online, runnable, task_places, highest_priority, write, enqueue_at, dequeue}

pub record Plan : Type 0 where
  pub task : ℕ
  -- it leaves row `origin`
  pub leaves : Bool
  pub origin : ℕ
  -- its columns; entering sets its CPU besides
  pub becomes : Task
  -- it enters, in front of its equals or behind them, row `target`
  pub enters : Bool
  pub front : Bool
  pub target : ℕ

-- without the task, if it leaves
abbrev pub left : Plan → Machine → Machine
left p m = cond p.leaves (dequeue p.task p.origin m) m

-- and with its columns written
abbrev pub wrote : Plan → Machine → Machine
wrote p m = write p.task p.becomes (left p m)

-- and with the task in the row that it enters, if it does
abbrev pub carried : Plan → Machine → Machine
carried p m = cond p.enters (enqueue_at p.front p.task p.target (wrote p m)) (wrote p m)

-- ---- plans

-- only the columns
abbrev pub rewrite : ℕ → Task → Plan
rewrite t τ = record { task = t; leaves = false; origin = 0; becomes = τ; enters = false; front = false; target = 0 }

-- into row d, behind its equals
abbrev pub enter : ℕ → Task → ℕ → Plan
enter t τ d = record { task = t; leaves = false; origin = 0; becomes = τ; enters = true; front = false; target = d }

-- out of row c
abbrev pub leave : ℕ → ℕ → Task → Plan
leave t c τ = record { task = t; leaves = true; origin = c; becomes = τ; enters = false; front = false; target = 0 }

-- from row c to row d, behind its equals
abbrev pub shift : ℕ → ℕ → Task → ℕ → Plan
shift t c τ d = record { task = t; leaves = true; origin = c; becomes = τ; enters = true; front = false; target = d }

-- to another place in row c, in front of its equals or behind them
abbrev pub reorder : Bool → ℕ → ℕ → Task → Plan
reorder b t c τ = record { task = t; leaves = true; origin = c; becomes = τ; enters = true; front = b; target = c }

-- a task with one column that is new
abbrev pub with_state : ℕ → Task → Task
with_state v τ = record { state = v; policy = τ.policy; prio = τ.prio; cpu = τ.cpu; slice = τ.slice; mask = τ.mask }

abbrev pub with_prio : ℕ → Task → Task
with_prio v τ = record { state = τ.state; policy = τ.policy; prio = v; cpu = τ.cpu; slice = τ.slice; mask = τ.mask }

abbrev pub with_slice : ℕ → Task → Task
with_slice v τ = record { state = τ.state; policy = τ.policy; prio = τ.prio; cpu = τ.cpu; slice = v; mask = τ.mask }

abbrev pub with_mask : ℕ → Task → Task
with_mask v τ = record { state = τ.state; policy = τ.policy; prio = τ.prio; cpu = τ.cpu; slice = τ.slice; mask = v }

-- ---- a plan that can be carried out

abbrev pub When : Bool → Type 0 → Type 0
When true A = A
When false A = Unit {0}

pub record Doable (m : Machine) (p : Plan) : Type 0 where
  pub task : p.task < task_places
  -- it stands where it leaves
  pub leaves : When p.leaves ((p.origin < m.n) × In p.task (row m p.origin))
  -- it stands in no row, or stays there with its priority
  pub stays : When (not p.leaves) (((task_of m p.task).state ≢ runnable) ⊎ ((p.becomes.prio ≡ (task_of m p.task).prio) × (p.enters ≡ false)))
  pub enters : When p.enters ((p.target < m.n) × (is_online m p.target ≡ true) × (p.becomes.prio ≤ highest_priority))

-- the plan p leaves the machine `done`
pub record Carries (done m : Machine) (p : Plan) : Type 0 where
  pub effect : done ≡ carried p m
  pub doable : Doable m p
