-- What the steps are taken on, and what they leave.
-- Assumes nothing.
use Rattle.std.specs.Prelude.{◌≡◌, List, ℕ, length}
use Rattle.std.proofs.Math.Option.{some}
use Rattle.levels.specs.declared.record.Record.{Record}
use Rattle.rules.specs.Machine.{Machine}
use Rattle.rules.specs.Migration.{Move, Settled, next}
use Rattle.rules.specs.Outcome.{logged}
use Rattle.rules.specs.WellFormed.{WellFormed}
use Rattle.placement.specs.Held.{Held}

-- the lent tables hold the machine m: ps the priorities, cs the CPUs, ms the affinity masks, ks the counts and flat the rows; and the record
-- r its levels
pub record Settling (m : Machine) (ps cs ms ks flat : List ℕ) (r : Record) : Type 0 where
  pub well : WellFormed m
  pub held : Held m ps ks flat r
  pub cpus : cs ≡ m.cpu
  pub masks : ms ≡ m.mask

-- the step that applies is v, and the tables hold the machine
pub record Stepping (m : Machine) (ps ks flat : List ℕ) (r : Record) (v : Move) : Type 0 where
  pub well : WellFormed m
  pub held : Held m ps ks flat r
  pub applies : next m ≡ some v

-- the steps s have been taken: the tables hold the machine in which they end, and the log has its entries, k of them
pub record Ended (s : Settled) (ps cs ks flat old log : List ℕ) (k : ℕ) (r : Record) : Type 0 where
  pub held : Held s.machine ps ks flat r
  pub cpus : cs ≡ s.machine.cpu
  pub moves : k ≡ length s.log
  pub logs : log ≡ logged s.log old
