-- Whether a CPU that goes leaves a task nowhere to go, read from lent tables.
-- Assumes nothing.
use Rattle.std.specs.Prelude.{◌≡◌, Bool, false, cond, List, ℕ, ◌<◌, eqb, length, get_or}
use Rattle.std.specs.Int.Bits.{bit_and}
use Rattle.rules.specs.Lists.{any}
use Rattle.rules.specs.Machine.{Machine, task_places}
use Rattle.rules.specs.Tables.{flat_of, row_counts}
use Rattle.rules.specs.WellFormed.{WellFormed}
use Rattle.plans.specs.Decided.{strands}

-- the number of the kind that takes a CPU offline
abbrev pub offline_kind : ℕ
offline_kind = 10

abbrev pub strands_by : Machine → ℕ → ℕ → Bool
strands_by m kind who = cond (eqb kind offline_kind) (strands m who) false

-- one of these tasks has no CPU of the word `up` in its mask
abbrev pub any_stranded : List ℕ → ℕ → List ℕ → Bool
any_stranded masks up tasks = any (λ t. eqb (bit_and (get_or masks t 0) up) 0) tasks

-- the tables that are read: ks masks, flat rows, ns counts
pub record LentMasks (m : Machine) (n on : ℕ) (ks flat ns : List ℕ) : Type 0 where
  pub formed : WellFormed m
  pub cpus : n ≡ m.n
  pub online : on ≡ m.online
  pub mask : ks ≡ m.mask
  pub rows : flat ≡ flat_of m.rows
  pub counts : ns ≡ row_counts m.rows

-- tasks that can be looked up
pub record Listed (ks tasks : List ℕ) : Type 0 where
  pub numbers : (i : ℕ) → i < length tasks → get_or tasks i 0 < task_places
  pub masks : length ks ≡ task_places
