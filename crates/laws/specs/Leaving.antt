-- CPU c goes offline and its tasks leave it, one after the other. Until its row is empty the machine is taken with CPU c online, so that it is
-- well-formed after each task; the word `up` has the CPUs that are online then.
-- Assumes nothing.
use Rattle.std.specs.Prelude.{◌≡◌, false, ◌≢◌, [], ℕ, ◌<◌}
use Rattle.bits.specs.Bit.{bit}
use Rattle.rules.specs.Lists.{In}
use Rattle.rules.specs.Machine.{Machine, task_of, row, is_online, stranded, lowest_allowed, with_online, enqueue, dequeue}
use Rattle.rules.specs.WellFormed.{WellFormed}
use Rattle.rules.specs.Events.{evacuated}

pub record Leaving (up c : ℕ) (m : Machine) : Type 0 where
  pub well : WellFormed m
  pub cpu : c < m.n
  pub down : bit up c ≡ false
  pub others : (d : ℕ) → d ≢ c → bit up d ≡ is_online m d
  -- each task has where to go
  pub placed : (t : ℕ) → In t (row m c) → stranded (with_online up m) (task_of m t).mask ≡ false

-- where task t goes, and the machine when it has
abbrev pub toward : ℕ → Machine → ℕ → ℕ
toward up m t = lowest_allowed (with_online up m) (task_of m t).mask

abbrev pub one_less : ℕ → ℕ → Machine → ℕ → Machine
one_less up c m t = enqueue t (toward up m t) (dequeue t c m)

-- some have left m, and m' is what remains: the rule takes both to the same end
pub record Way (up c : ℕ) (m m' : Machine) : Type 0 where
  pub leaving : Leaving up c m'
  pub cpus : m'.n ≡ m.n
  pub online : m'.online ≡ m.online
  pub rule : evacuated c (row m c) (with_online up m) ≡ evacuated c (row m' c) (with_online up m')

-- all have left
pub record Left (up c : ℕ) (m m' : Machine) : Type 0 where
  pub way : Way up c m m'
  pub empty : row m' c ≡ []
