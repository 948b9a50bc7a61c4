-- `parts::enter` meets its contract.
-- Assumes nothing.
use mathlib.Core.Path.{refl}
use Rattle.placement.proofs.Joining.{can_enter, has_entered}
use Rattle.parts.proofs.Optional.{may_enter}
use Rattle.parts.proofs.enter.Goals as goal

pub enqueue-requires : goal.enqueue-requires
enqueue-requires c = let all = can_enter c.requires.entering.0 (may_enter c.requires.entering.1) in record {
  holds_rows = all.0;
  cpu_in_bounds = all.1.0;
  task_lt_task_places = all.1.1.0;
  prio_len = all.1.1.1.0;
  task_bound = all.1.1.1.1.0;
  joinable = all.1.1.1.1.1;
}

pub returns : goal.returns
returns c =
    record {
      queues = λ m l.
          let h = has_entered m (may_enter l) c.args.front c.enqueue.ensures.rows_are c.enqueue.ensures.counts_are in
          record { order = h.order; prio = refl; counts = h.counts; rows = h.rows; levels = h.levels };
      cpus_set = refl;
    }
