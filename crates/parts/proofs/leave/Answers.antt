-- `parts::leave` meets its contract.
-- Assumes nothing.
use Rattle.placement.proofs.Joining.{can_leave, has_left}
use Rattle.parts.proofs.leave.Goals as goal

pub dequeue-requires : goal.dequeue-requires
dequeue-requires c =
    let l = c.requires.1 in let all = can_leave c.requires.0 c.args.task l.queues l.may.0 l.may.1 in record {
      holds_rows = all.0;
      cpu_in_bounds = all.1.0;
      stands = all.1.1;
    }

pub returns : goal.returns
returns c = λ m l. has_left m c.args.task l.queues l.may.0 l.may.1 c.dequeue.ensures.rows_are c.dequeue.ensures.counts_are
