-- What is read of a task before an event's own effect on a settled machine, and who can move after it.
-- Assumes nothing.
use Rattle.std.specs.Prelude.{◌≡◌, Bool, cond, ◌&&◌, List, [], ◌∷◌, ℕ, ◌<◌, eqb, ltb}
use Rattle.std.proofs.Math.Option.{Option, none, some}
use Rattle.rules.specs.Machine.{Machine, task_of, row, running, level, levels, runnable, task_places}
use Rattle.rules.specs.Plan.{Doable}
use Rattle.rules.specs.Tables.{flat_of}
use Rattle.rules.specs.WellFormed.{WellFormed}
use Rattle.laws.specs.Limited.{holds, second}
use Rattle.hinting.specs.Hinted.{candidates}
use Rattle.hinting.specs.declared.hint.Candidates.{Candidates}
use Rattle.plans.specs.Decided.{as_plan, Goable}
use Rattle.plans.specs.declared.plan.Decision.{Decision}
use Rattle.plans.specs.declared.plan.Decision.TheVariants.{Nothing, Place, Flag, Offline, Online}
use Rattle.hinting.specs.declared.past.Past.{Past}
use Rattle.hinting.specs.declared.past.Past.TheVariants.{Untouched, Task, Back}

-- the lent tables hold the machine m: cs the CPUs, flat the rows, ls the record's levels
pub record Reading (m : Machine) (cs flat ls : List ℕ) : Type 0 where
  pub well : WellFormed m
  pub cpu : cs ≡ m.cpu
  pub rows : flat ≡ flat_of m.rows
  pub levels : ls ≡ levels m

-- ---- before the effect

-- task t: its CPU, the CPU's level, and whether it runs there
abbrev pub past_of : Machine → ℕ → Past
past_of m t = let c : ℕ = (task_of m t).cpu in Task t c (level m c) (holds (running m c) t)

-- the first of a row
abbrev pub past_of_row : Machine → List ℕ → Past
past_of_row m [] = Untouched
past_of_row m (t ∷ ts) = past_of m t

-- a decision touches the task that it places; where a CPU goes, the task that ran on it counts
abbrev pub past_by : Machine → Decision → Past
past_by m Nothing = Untouched
past_by m (Place p) = past_of m p.task
past_by m (Flag c b) = Untouched
past_by m (Offline c) = past_of_row m (row m c)
past_by m (Online c) = Back c

-- what a decision places can be placed, and a CPU can go or come
abbrev pub Able : Machine → Decision → Type 0
Able m Nothing = Unit {0}
Able m (Place p) = Doable m (as_plan p)
Able m (Flag c b) = Unit {0}
Able m (Offline c) = Goable m c
Able m (Online c) = c < m.n

-- ---- after it

-- the CPU that task t ran on, if its level fell
abbrev pub fallen_since : ℕ → ℕ → Bool → Machine → Option ℕ
fallen_since c l ran m = cond (ran && ltb (level m c) l) (some c) none

-- task t if it waits; if it runs, and did not run there before, the task behind it
abbrev pub new_since : ℕ → ℕ → Bool → Machine → Option ℕ
new_since t c ran m =
    let d : ℕ = (task_of m t).cpu in
    cond (eqb (task_of m t).state runnable) (cond (holds (running m d) t) (cond (ran && eqb c d) none (second (row m d))) (some t)) none

abbrev pub candidates_since : Past → Machine → Candidates
candidates_since Untouched m = candidates none none
candidates_since (Task t c l ran) m = candidates (fallen_since c l ran m) (new_since t c ran m)
candidates_since (Back c) m = candidates (some c) none

-- what was read is of a task, and of one of the machine's CPUs
abbrev pub Standing : Machine → Past → Type 0
Standing m Untouched = Unit {0}
Standing m (Task t c l ran) = (t < task_places) × (c < m.n)
Standing m (Back c) = Unit {0}
