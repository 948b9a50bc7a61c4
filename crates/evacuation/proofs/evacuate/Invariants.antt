-- `evacuation::evacuate` meets its contract. The loop's invariant: the tables hold a machine that some of the tasks have left.
-- Assumes nothing.
use lib.ListN.{get_or}
use Rattle.levels.specs.Record.{lent_record}
use Rattle.rules.specs.Machine.{Machine}
use Rattle.evacuation.specs.Going.{Emptying}
use Rattle.evacuation.proofs.Leaves.{Under}
use Rattle.evacuation.proofs.evacuate.Given as goal

abbrev pub invariant-loop-counts : goal.invariant-loop-counts
invariant-loop-counts l =
    (m : Machine) → Emptying m l.prio l.initial.cpus l.mask l.initial.rows l.initial.counts l.flags (lent_record l.initial.masks l.initial.tallies l.initial.words l.initial.levels) l.cpu l.up
    → Under m l.prio l.cpus l.mask l.rows l.counts l.flags (lent_record l.masks l.tallies l.words l.levels) l.cpu l.up

abbrev pub decreases-loop-counts : goal.decreases-loop-counts
decreases-loop-counts l = get_or l.counts l.cpu 0
