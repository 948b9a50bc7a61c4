-- `carrying::place` meets its contract.
-- Assumes nothing.
use mathlib.Core.Path.{◌≡◌, sym, subst}
use Rattle.levels.specs.Record.{lent_record}
use Rattle.cpupri.specs.Record.{record_of, Whole}
use Rattle.placement.specs.Held.{followed}
use Rattle.parts.specs.Optional.{FollowingIf}
use Rattle.rules.specs.Plan.{wrote, carried}
use Rattle.plans.specs.Decided.{as_plan}
use Rattle.carrying.proofs.Placing.{leaves, sized, still_sized, whole, enters, follows_origin, follows_target, placed, given, taken}
use Rattle.parts.proofs.Optional.{still_whole_if}
use Rattle.carrying.proofs.place.Goals as goal

pub leave_if-requires : goal.leave_if-requires
leave_if-requires c = (c.requires.0, leaves c.requires.1)

pub write-requires : goal.write-requires
write-requires c = let l = c.requires.1 in record {
  at_lt_task_places = l.ready.task;
  sized = sized l;
}

pub enter_if-requires : goal.enter_if-requires
enter_if-requires c =
    let l = c.requires.1 in
    let o = c.leave_if.ensures c.requires.0 (leaves l) in record {
      entering = (wrote (as_plan c.args.plan) c.requires.0, enters l o c.write.ensures.prio_value);
      cpus_len = still_sized l c.write.ensures.cpu_value;
    }

pub follow_if-requires : goal.follow_if-requires
follow_if-requires c =
    let m = c.requires.0 in
    let l = c.requires.1 in
    let o = c.leave_if.ensures m (leaves l) in
    let e = c.enter_if.ensures.queues _ (enters l o c.write.ensures.prio_value) in record {
      following = (carried (as_plan c.args.plan) m, follows_origin l o c.write.ensures.prio_value e);
      whole = whole l;
    }

pub follow_if-requires-2 : goal.follow_if-requires-2
follow_if-requires-2 c =
    let m = c.requires.0 in
    let l = c.requires.1 in
    let o = c.leave_if.ensures m (leaves l) in
    let e = c.enter_if.ensures.queues _ (enters l o c.write.ensures.prio_value) in
    let f = follows_origin l o c.write.ensures.prio_value e in record {
      following = (carried (as_plan c.args.plan) m, given c.args.plan.enters c.target_of.ensures (λ b d. FollowingIf b (carried (as_plan c.args.plan) m) c.write.new.prio c.args.flags.now c.enter_if.new.counts c.enter_if.new.rows d) (follows_target l o c.write.ensures.prio_value e));
      whole = subst Whole (sym (c.follow_if.ensures _ f)) (still_whole_if f (whole l));
    }

pub returns : goal.returns
returns c =
    λ m l.
    let o = c.leave_if.ensures m (leaves l) in
    let e = c.enter_if.ensures.queues _ (enters l o c.write.ensures.prio_value) in
    let r = c.follow_if.ensures _ (follows_origin l o c.write.ensures.prio_value e) in
    let n = carried (as_plan c.args.plan) m in
    let is = c.target_of.ensures in
    let q = taken c.args.plan.enters is (λ b d. (lent_record c.follow_if-2.new.masks c.follow_if-2.new.tallies c.follow_if-2.new.words c.follow_if-2.new.levels) ≡ record_of (followed b d n c.follow_if.new.levels))
    (c.follow_if-2.ensures n (given c.args.plan.enters is (λ b d. FollowingIf b n c.write.new.prio c.args.flags.now c.enter_if.new.counts c.enter_if.new.rows d) (follows_target l o c.write.ensures.prio_value e))) in
    placed l o c.write.ensures.prio_value e c.write.ensures.state_value c.write.ensures.policy_value c.write.ensures.cpu_value c.write.ensures.slice_value c.write.ensures.mask_value c.enter_if.ensures.cpus_set r q
