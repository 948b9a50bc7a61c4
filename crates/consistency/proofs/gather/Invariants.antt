-- `consistency::gather` meets its contract. The loop's invariant: the pass has come to `cpu`.
-- Assumes nothing.
use Rattle.std.proofs.Common.{◌≡◌, ◌%◌, ◌≤◌, true}
use Rattle.consistency.specs.Gathered.{cpu_bit, Gathers}
use Rattle.consistency.proofs.gather.Given as goal

abbrev pub invariant-loop-cpu : goal.invariant-loop-cpu
invariant-loop-cpu l =
    (l.cpu % 8 ≡ 0) × (l.cpu ≤ l.rest) × (l.cpus ≡ cpu_bit l.cpu) × Gathers l.from 0 l.cpu true l.initial.left l.left l.counts l.words
