-- Which waiting task of a row is looked for, in terms of the lent columns and the CPUs below each level.
-- Assumes nothing.
use Rattle.std.specs.Prelude.{◌≡◌, Bool, false, not, Option, Some, None, ◌&&◌, ◌||◌, List, ℕ, ◌-◌, ◌≤◌, ◌<◌, eqb, ltb, length, get_or}
use Rattle.std.specs.Int.Bits.{bit_and}
use Rattle.bits.specs.Bit.{bit}
use Rattle.cpupri.specs.Level.{level_of}
use Rattle.under.specs.Under.{under_of}
use Rattle.rules.specs.Lists.{Falling}
use Rattle.rules.specs.Machine.{Machine, task_of, prio_of, level, levels, task_places, highest_priority, cpu_places}
use Rattle.rules.specs.Migration.{movable}
use Rattle.waiting.specs.declared.scan.Test.{Test}
use Rattle.waiting.specs.declared.scan.Test.TheVariants.{Movable, Drawn}

-- ---- the test

-- a test that can be asked names one of the CPU places
abbrev pub Asked : Test → Type 0
Asked (Movable low) = Unit {0}
Asked (Drawn c l new) = c < cpu_places

-- the option holds the task u
abbrev pub names : Option ℕ → ℕ → Bool
names None u = false
names (Some t) u = eqb t u

-- the new task of a test, if it has one
abbrev pub newly : Test → Option ℕ
newly (Movable low) = None
newly (Drawn c l new) = new

-- in the rules' words; a CPU at a level is online
abbrev pub meant : Machine → Test → ℕ → Bool
meant m (Movable low) u = movable m u
meant m (Drawn c l new) u = names new u || (bit (task_of m u).mask c && ltb l (level_of (prio_of m u)))

-- what goes with the test: the CPUs below each level, and a level that no CPU is below
abbrev pub Told : Machine → Test → List ℕ → Type 0
Told m (Movable low) under = (under ≡ under_of (levels m)) × ((c : ℕ) → c < m.n → low ≤ level m c)
Told m (Drawn c l new) under = Unit {0}

-- of a task with this priority and mask: some CPU that it may use is below its level
unfoldable pub passing : Test → List ℕ → ℕ → ℕ → ℕ → Bool
passing (Movable low) under u p k = not (eqb (bit_and (get_or under (level_of p) 0) k) 0)
passing (Drawn c l new) under u p k = names new u || (bit k c && ltb l (level_of p))

-- who passes is above this priority
abbrev pub least : Test → ℕ
least (Movable low) = low - level_of 0
least (Drawn c l None) = l - level_of 0
least (Drawn c l (Some t)) = 0

-- ---- the walk along a row

-- task u passes and is above the priority `floor`; ps are the priorities, ms the affinity masks
unfoldable pub wanted : Test → List ℕ → List ℕ → List ℕ → ℕ → ℕ → Bool
wanted test under ps ms floor u = ltb floor (get_or ps u 0) && passing test under u (get_or ps u 0) (get_or ms u 0)

-- a row that can be searched: tasks with priorities, which fall
pub record Searchable (ps ms row : List ℕ) : Type 0 where
  pub some : 1 ≤ length row
  pub prios : length ps ≡ task_places
  pub masks : length ms ≡ task_places
  pub tasks : (i : ℕ) → i < length row → get_or row i 0 < task_places
  pub high : (i : ℕ) → i < length row → get_or ps (get_or row i 0) 0 ≤ highest_priority
  pub falling : Falling (λ u. get_or ps u 0) row
