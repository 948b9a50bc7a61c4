-- What the lent tables hold of a machine, and what is needed to carry a decision out. Lists are named after the columns: ss states, ps policies,
-- qs priorities, cs CPUs, ls slices, ks masks, flat rows, ns counts, fs flags; `on` is the online mask and r the CPU-priority record.
-- Assumes nothing.
use Rattle.std.specs.Prelude.{◌≡◌, List, ℕ, ◌≤◌, ◌<◌}
use Rattle.cpupri.specs.Record.{record_of}
use Rattle.levels.specs.declared.record.Record.{Record}
use Rattle.rules.specs.Machine.{Machine, levels}
use Rattle.rules.specs.Plan.{Plan, Doable}
use Rattle.rules.specs.Tables.{flat_of, row_counts}
use Rattle.rules.specs.WellFormed.{WellFormed}
use Rattle.plans.specs.Decided.{as_plan, Goable}
use Rattle.plans.specs.declared.plan.Decision.{Decision}
use Rattle.plans.specs.declared.plan.Decision.TheVariants.{Nothing, Place, Flag, Offline, Online}

-- all tables but the log
pub record Holds (m : Machine) (ss ps qs cs ls ks flat ns fs : List ℕ) (on : ℕ) (r : Record) : Type 0 where
  pub state : ss ≡ m.state
  pub policy : ps ≡ m.policy
  pub prio : qs ≡ m.prio
  pub cpu : cs ≡ m.cpu
  pub slice : ls ≡ m.slice
  pub mask : ks ≡ m.mask
  pub rows : flat ≡ flat_of m.rows
  pub counts : ns ≡ row_counts m.rows
  pub flags : fs ≡ m.flags
  pub online : on ≡ m.online
  pub levels : r ≡ record_of (levels m)

-- ---- what can be carried out

abbrev pub Ready : Machine → Decision → Type 0
Ready m Nothing = Unit {0}
Ready m (Place p) = Doable m (as_plan p)
Ready m (Flag c b) = (c < m.n) × (b ≤ 1)
Ready m (Offline c) = Goable m c
Ready m (Online c) = c < m.n

pub record Carriable (m : Machine) (ss ps qs cs ls ks flat ns fs : List ℕ) (on : ℕ) (r : Record) (d : Decision) : Type 0 where
  pub formed : WellFormed m
  pub holds : Holds m ss ps qs cs ls ks flat ns fs on r
  pub ready : Ready m d

pub record Placeable (m : Machine) (ss ps qs cs ls ks flat ns fs : List ℕ) (r : Record) (p : Plan) : Type 0 where
  pub formed : WellFormed m
  pub holds : Holds m ss ps qs cs ls ks flat ns fs m.online r
  pub ready : Doable m p
