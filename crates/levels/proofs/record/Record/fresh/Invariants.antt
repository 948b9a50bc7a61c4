-- `levels::record::Record::fresh` meets its contract. The loop's invariant: the record is that of a machine of as many CPUs as were entered.
-- Assumes nothing.
use mathlib.Core.Path.{◌≡◌}
use Rattle.levels.specs.Record.{record_of, fresh_levels}
use Rattle.levels.proofs.record.Record.fresh.Given as goal

abbrev pub invariant-loop-cpu : goal.invariant-loop-cpu
invariant-loop-cpu l = l.r ≡ record_of (fresh_levels l.cpu)
