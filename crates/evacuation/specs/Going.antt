-- A CPU goes offline or comes back: what the lent tables hold before, while its tasks leave, and after. Lists are named after the columns: qs
-- priorities, cs CPUs, ks masks, flat rows, ns counts, fs flags; `on` is the online mask and r the CPU-priority record.
-- Assumes nothing.
use Rattle.std.specs.Prelude.{◌≡◌, List, ℕ, ◌<◌}
use Rattle.cpupri.specs.Record.{record_of}
use Rattle.levels.specs.declared.record.Record.{Record}
use Rattle.rules.specs.Machine.{Machine, levels}
use Rattle.rules.specs.Tables.{flat_of, row_counts}
use Rattle.rules.specs.WellFormed.{WellFormed}
use Rattle.laws.specs.Leaving.{Leaving, Left}
use Rattle.placement.specs.Held.{Held}

-- the tables hold the machine m, and tasks of CPU c have yet to leave for the CPUs `up`
pub record Emptying (m : Machine) (qs cs ks flat ns fs : List ℕ) (r : Record) (c up : ℕ) : Type 0 where
  pub leaving : Leaving up c m
  pub held : Held m qs ns flat r
  pub cpus : cs ≡ m.cpu
  pub masks : ks ≡ m.mask
  pub flags : fs ≡ m.flags

-- all of them have left m
pub record Emptied (m : Machine) (qs cs ks flat ns fs : List ℕ) (r : Record) (c up : ℕ) : Type 0 where
  pub after : Machine
  pub left : Left up c m after
  pub empty : Emptying after qs cs ks flat ns fs r c up

-- the machine as far as a CPU that goes changes it
pub record Shifted (m : Machine) (cs flat ns : List ℕ) (on : ℕ) (r : Record) : Type 0 where
  pub cpu : cs ≡ m.cpu
  pub rows : flat ≡ flat_of m.rows
  pub counts : ns ≡ row_counts m.rows
  pub online : on ≡ m.online
  pub levels : r ≡ record_of (levels m)

-- CPU c comes back
pub record Coming (m : Machine) (qs flat ns fs : List ℕ) (on : ℕ) (r : Record) (c : ℕ) : Type 0 where
  pub formed : WellFormed m
  pub prio : qs ≡ m.prio
  pub rows : flat ≡ flat_of m.rows
  pub counts : ns ≡ row_counts m.rows
  pub flags : fs ≡ m.flags
  pub online : on ≡ m.online
  pub levels : r ≡ record_of (levels m)
  pub cpu : c < m.n
