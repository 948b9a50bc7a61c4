-- Lent tables that are settled: no step applies to the machine that they hold.
-- Assumes nothing.
use Rattle.std.specs.Prelude.{◌≡◌, ℕ}
use Rattle.std.proofs.Math.Option.{none}
use Rattle.rules.specs.Migration.{next}
use Rattle.rules.specs.Tables.{Tables, machine_of}

abbrev pub Still : ℕ → Tables → Type 0
Still n s = next (machine_of n s) ≡ none
