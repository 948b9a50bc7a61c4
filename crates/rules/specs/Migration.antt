-- The migration step, and the steps until none applies.
-- Assumes nothing.
use Rattle.std.specs.Prelude.{◌≡◌, Bool, true, ℕ, zero, suc, ◌≤◌, ◌<◌, ltb}
use mathlib.Core.List.{List, [], ◌∷◌, map, tail}
use Rattle.std.proofs.Math.Option.{Option, none, some}
use Rattle.rules.specs.Lists.{In, place, below, select, joined, any, best}
use Rattle.rules.specs.Machine.{Machine, task_of, prio_of, row, level, level_of, allowed, runnable, enqueue, dequeue}

-- ---- who moves

-- the tasks that wait, by CPU and then by place in the row
abbrev pub waiting : Machine → List ℕ
waiting m = joined (map tail m.rows)

-- the CPUs that a task may use, lowest-numbered first
abbrev pub allowed_cpus : Machine → ℕ → List ℕ
allowed_cpus m t = select (allowed m t) (below m.n)

-- CPU c has a level below task t's
abbrev pub lower : Machine → ℕ → ℕ → Bool
lower m t c = ltb (level m c) (level_of (prio_of m t))

-- of a task that waits: some allowed CPU has a level below the task's
abbrev pub movable : Machine → ℕ → Bool
movable m t = any (lower m t) (allowed_cpus m t)

abbrev pub movables : Machine → List ℕ
movables m = select (movable m) (waiting m)

-- task t has a higher priority than task u
abbrev pub outranks : Machine → ℕ → ℕ → Bool
outranks m t u = ltb (prio_of m u) (prio_of m t)

-- the movable task of highest priority; among equals the one on the lowest-numbered CPU; among those the earliest in the row
abbrev pub mover : Machine → Option ℕ
mover m = best (outranks m) (movables m)

-- ---- where to

abbrev pub or_zero : Option ℕ → ℕ
or_zero none = 0
or_zero (some c) = c

-- CPU c has a lower level than CPU d
abbrev pub idler : Machine → ℕ → ℕ → Bool
idler m c d = ltb (level m c) (level m d)

-- of its allowed CPUs, one of the lowest level; among equals the lowest-numbered
abbrev pub destination : Machine → ℕ → ℕ
destination m t = or_zero (best (idler m) (allowed_cpus m t))

-- ---- the step

-- a migration, and an entry of the log: the mover, the CPU it waited on, its destination, and the level that the destination had before the move
pub record Move : Type 0 where
  pub task : ℕ
  pub origin : ℕ
  pub target : ℕ
  pub displaced : ℕ

abbrev pub move_of : Machine → ℕ → Move
move_of m t = record { task = t; origin = (task_of m t).cpu; target = destination m t; displaced = level m (destination m t) }

abbrev pub next_of : Machine → Option ℕ → Option Move
next_of m none = none
next_of m (some t) = some (move_of m t)

-- the step that applies, if one does
unfoldable pub next : Machine → Option Move
next m = next_of m (mover m)

-- what the step that applies is, in the paper's words: a fact about `next` that is proved of every well-formed machine
pub record Chosen (m : Machine) (v : Move) : Type 0 where
  -- the mover waits on its CPU, which is the step's origin, and is movable
  pub runs : (task_of m v.task).state ≡ runnable
  pub origin : (task_of m v.task).cpu ≡ v.origin
  pub waits : In v.task (tail (row m v.origin))
  pub moves : movable m v.task ≡ true
  -- no movable task is higher
  pub highest : (u : ℕ) → In u (waiting m) → movable m u ≡ true → prio_of m u ≤ prio_of m v.task
  -- among equals none waits on a lower-numbered CPU, and among those none stands earlier in the row
  pub lowest_cpu : (u : ℕ) → In u (waiting m) → movable m u ≡ true → prio_of m v.task ≤ prio_of m u → v.origin ≤ (task_of m u).cpu
  pub earliest : (u : ℕ) → In u (waiting m) → movable m u ≡ true → prio_of m v.task ≤ prio_of m u → (task_of m u).cpu ≡ v.origin
      → place v.task (row m v.origin) ≤ place u (row m v.origin)
  -- the destination is allowed, and its level is below the mover's
  pub small : v.target < m.n
  pub may : allowed m v.task v.target ≡ true
  pub below : level m v.target < level_of (prio_of m v.task)
  -- the level displaced is the destination's, before the move
  pub displaced : v.displaced ≡ level m v.target
  -- none of the allowed has a lower level, and among equals none has a lower number
  pub lowest : (c : ℕ) → c < m.n → allowed m v.task c ≡ true → level m v.target ≤ level m c
  pub nearest : (c : ℕ) → c < m.n → allowed m v.task c ≡ true → level m c ≤ level m v.target → v.target ≤ c

-- the mover leaves its row and enters the destination's
abbrev pub migrate : Move → Machine → Machine
migrate v m = enqueue v.task v.target (dequeue v.task v.origin m)

-- ---- all steps

-- the log, and the machine in which the steps end
pub record Settled : Type 0 where
  pub log : List Move
  pub machine : Machine

-- no step, or one step and the rest
abbrev pub onward : Machine → (Move → Settled) → Option Move → Settled
onward m rest none = record { log = []; machine = m }
onward m rest (some v) = let r : Settled = rest v in record { log = v ∷ r.log; machine = r.machine }

-- Steps are taken until none applies, at most k. (There are never more than N - 1 to take.)
unfoldable pub settle : ℕ → Machine → Settled
settle zero m = record { log = []; machine = m }
settle (suc k) m = onward m (λ v. settle k (migrate v m)) (next m)

-- until none applies: N is a bound that is never reached
abbrev pub settle_all : Machine → Settled
settle_all m = settle m.n m
