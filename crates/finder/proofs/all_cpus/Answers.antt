-- `finder::all_cpus`: each level that is set is known, and a record stays whole when one is set.
use Rattle.std.proofs.Common.{arith}
use mathlib.Core.Path.{subst⁻¹}
use Rattle.levels.specs.Record.{Whole}
use Rattle.levels.proofs.Fresh.{fresh_whole}
use Rattle.levels.proofs.Whole.{whole_set, level_known}
use Rattle.finder.proofs.all_cpus.Goals as goal

pub loop-cpu-init : goal.loop-cpu-init
loop-cpu-init g c = subst⁻¹ Whole c.fresh-r.ensures (fresh_whole 64 (omega arith))

pub set_level-r-requires-clause-number_value : goal.set_level-r-requires-clause-number_value
set_level-r-requires-clause-number_value g c = level_known c.of_priority.result.number (omega (arith, c.of_priority.ensures))

pub loop-cpu-preserved : goal.loop-cpu-preserved
loop-cpu-preserved g c =
    let l = c.of_priority.result.number in
    subst⁻¹ Whole c.set_level-r.ensures
    (whole_set c.loop-cpu.r c.loop-cpu.invariant c.loop-cpu.cpu l (level_known l (omega (arith, c.of_priority.ensures))))
