-- `finder::all_cpus`: the record stays whole from level to level.
use Rattle.levels.specs.Record.{Whole}
use Rattle.finder.proofs.all_cpus.Given as goal

abbrev pub invariant-loop-cpu : goal.invariant-loop-cpu
invariant-loop-cpu g l = Whole l.r
