-- What leaving a row, entering one, following and setting a flag need of the lent tables. Lists are named after the columns: qs priorities, flat rows,
-- ns counts, fs flags; `on` is the online mask and r the CPU-priority record.
-- Assumes nothing.
use Rattle.std.specs.Prelude.{◌≡◌, Bool, List, ℕ, ◌≤◌, ◌<◌, length}
use Rattle.cpupri.specs.Record.{record_of}
use Rattle.levels.specs.declared.record.Record.{Record}
use Rattle.rules.specs.Lists.{In}
use Rattle.rules.specs.Machine.{Machine, prio_of, row, levels, task_places, highest_priority}
use Rattle.rules.specs.Plan.{When}
use Rattle.rules.specs.Tables.{flat_of, row_counts}
use Rattle.rules.specs.WellFormed.{WellFormed}
use Rattle.placement.specs.Held.{Queues, Following}

-- if it is to
pub record LeavingIf (b : Bool) (m : Machine) (ns flat : List ℕ) (t c : ℕ) : Type 0 where
  pub queues : Queues m ns flat
  pub may : When b ((c < m.n) × In t (row m c))

pub record EnteringIf (b : Bool) (m : Machine) (qs ns flat : List ℕ) (t c : ℕ) : Type 0 where
  pub queues : Queues m ns flat
  pub prio : qs ≡ m.prio
  pub task : t < task_places
  pub may : When b ((c < m.n) × (prio_of m t ≤ highest_priority) × (length (row m c) < task_places))

pub record FollowingIf (b : Bool) (m : Machine) (qs fs ns flat : List ℕ) (c : ℕ) : Type 0 where
  pub may : When b (Following m qs fs ns flat c)

-- CPU c is to have ordinary work (b is 1) or none
pub record Flagging (m : Machine) (qs flat ns fs : List ℕ) (on : ℕ) (r : Record) (c b : ℕ) : Type 0 where
  pub formed : WellFormed m
  pub prio : qs ≡ m.prio
  pub rows : flat ≡ flat_of m.rows
  pub counts : ns ≡ row_counts m.rows
  pub flags : fs ≡ m.flags
  pub online : on ≡ m.online
  pub levels : r ≡ record_of (levels m)
  pub cpu : c < m.n
  pub work : b ≤ 1
