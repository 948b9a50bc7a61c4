-- `evacuation::leave_first` meets its contract.
-- Assumes nothing.
use Prim.Native.Nat.{◌*◌}
use native.Mathlib.Omega.{arith}
use lib.ListN.{get_or}
use Rattle.rules.specs.Machine.{dequeue}
use Rattle.evacuation.proofs.Leaves.{whole, cpus_long, masks_long, a_task, in_place, target_is, may_leave, follows, enters, one_gone}
use Rattle.evacuation.proofs.leave_first.Goals as goal

pub dequeue-requires : goal.dequeue-requires
dequeue-requires c = let all = may_leave c.requires.1.0 c.requires.1.1 in record {
  holds_rows = all.0;
  cpu_in_bounds = all.1.0;
  stands = all.1.1;
}

pub follow-requires : goal.follow-requires
follow-requires c =
    let l = c.requires.1.0 in
    let some = c.requires.1.1 in
    let t = get_or c.args.rows.now (c.args.cpu * 512) 0 in record {
      following = (dequeue t c.args.cpu c.requires.0, follows l some c.dequeue.ensures.rows_are c.dequeue.ensures.counts_are);
      whole = whole l;
    }

pub enter-requires : goal.enter-requires
enter-requires c =
    let l = c.requires.1.0 in
    let some = c.requires.1.1 in
    let gone = dequeue (get_or c.args.rows.now (c.args.cpu * 512) 0) c.args.cpu c.requires.0 in
    let levels = c.follow.ensures gone (follows l some c.dequeue.ensures.rows_are c.dequeue.ensures.counts_are) in record {
      entering = (gone, enters l some c.dequeue.ensures.rows_are c.dequeue.ensures.counts_are levels (target_is l some c.lowest_bit-target.ensures));
      cpus_len = cpus_long l;
    }

pub returns : goal.returns
returns c =
    λ m l some.
    let gone = dequeue (get_or c.args.rows.now (c.args.cpu * 512) 0) c.args.cpu m in
    let levels = c.follow.ensures gone (follows l some c.dequeue.ensures.rows_are c.dequeue.ensures.counts_are) in
    let to = target_is l some c.lowest_bit-target.ensures in
    one_gone l some to (c.enter.ensures.held gone (enters l some c.dequeue.ensures.rows_are c.dequeue.ensures.counts_are levels to)) c.enter.ensures.cpus_set

pub bounds-rows-cpu : goal.bounds-rows-cpu
bounds-rows-cpu c = in_place c.requires.1.0 c.requires.1.1

pub bounds-mask-task : goal.bounds-mask-task
bounds-mask-task c =
    omega (arith, a_task c.requires.1.0 c.requires.1.1, masks_long c.requires.1.0)
