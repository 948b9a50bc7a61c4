-- Who can move, where that is known. If no task was movable before an event, very few can be after its own effect, and after a step only
-- the task that it displaced. `fallen` is the CPU whose level the event lowered, `new` the task that waits since the event or the last step.
-- Assumes nothing.
use Rattle.std.specs.Prelude.{◌≡◌, Bool, true, false, cond, ◌&&◌, ◌||◌, ◌≢◌, ◌⊎◌, ℕ, ◌≤◌, ◌<◌, eqb, ltb}
use mathlib.Core.List.{List, tail}
use Rattle.std.proofs.Math.Option.{Option, none, some}
use Rattle.rules.specs.Lists.{In}
use Rattle.rules.specs.Machine.{Machine, task_of, prio_of, row, head, running, level, level_of, allowed, runnable}
use Rattle.rules.specs.Migration.{Move, waiting, lower, movable}
use Rattle.rules.specs.Tables.{nothing}

-- ---- who is looked at

-- the option holds x
abbrev pub holds : Option ℕ → ℕ → Bool
holds none x = false
holds (some y) x = eqb y x

-- task u may use the fallen CPU, whose level is below its own
abbrev pub drawn : Machine → Option ℕ → ℕ → Bool
drawn m none u = false
drawn m (some c) u = allowed m u c && lower m u c

abbrev pub candidate : Machine → Option ℕ → Option ℕ → ℕ → Bool
candidate m fallen new u = (holds new u && movable m u) || drawn m fallen u

-- the waiting tasks that are movable are among the candidates
pub record Limited (m : Machine) (fallen new : Option ℕ) : Type 0 where
  pub small : (c : ℕ) → fallen ≡ some c → c < m.n
  -- the new task waits
  pub waits : (t : ℕ) → new ≡ some t → In t (waiting m)
  -- a waiting task other than the new one finds no CPU below it but the fallen one
  pub only : (u c : ℕ) → In u (waiting m) → c < m.n → allowed m u c ≡ true → level m c < level_of (prio_of m u) → (new ≡ some u) ⊎ (fallen ≡ some c)
  -- beside a new task, what runs on the fallen CPU finds no other CPU below it
  pub quiet : (x c u d : ℕ) → new ≡ some x → fallen ≡ some c → running m c ≡ some u → d < m.n → d ≢ c → allowed m u d ≡ true
      → level_of (prio_of m u) ≤ level m d

-- ---- from step to step

-- the task that runs where the step leads: it waits after it
abbrev pub displaced : Machine → Move → Option ℕ
displaced m v = running m v.target

-- the new task, unless it is the mover t; else z
abbrev pub or_else : ℕ → Option ℕ → Option ℕ → Option ℕ
or_else t none z = z
or_else t (some x) z = cond (eqb x t) z (some x)

-- a CPU that receives a task is no longer fallen
abbrev pub fallen_after : Option ℕ → Move → Option ℕ
fallen_after fallen v = cond (holds fallen v.target) none fallen

abbrev pub new_after : Machine → Option ℕ → Option ℕ → Move → Option ℕ
new_after m fallen new v = cond (holds fallen v.target) (or_else v.task new (displaced m v)) (displaced m v)

-- ---- after an event's own effect, which leads from m to m' and touches the task t alone

-- the second of a row: the first of those that wait
abbrev pub second : List ℕ → Option ℕ
second r = head (tail r)

-- the CPU that t ran on, if its level fell
abbrev pub fallen_cpu : ℕ → Machine → Machine → Option ℕ
fallen_cpu t m m' =
    cond (holds (running m (task_of m t).cpu) t && ltb (level m' (task_of m t).cpu) (level m (task_of m t).cpu)) (some (task_of m t).cpu) none

-- the task t if it waits; if it runs, and did not run there before, the task behind it, which it displaced
abbrev pub new_task : ℕ → Machine → Machine → Option ℕ
new_task t m m' =
    cond (eqb (task_of m' t).state runnable)
    (cond (holds (running m' (task_of m' t).cpu) t) (cond (holds (running m (task_of m' t).cpu) t) none (second (row m' (task_of m' t).cpu))) (some t))
    none

-- ---- as numbers

-- a task as a number: 65535 for none
abbrev pub or_nothing : Option ℕ → ℕ
or_nothing none = nothing
or_nothing (some t) = t
