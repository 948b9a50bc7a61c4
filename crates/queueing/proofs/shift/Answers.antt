-- `queueing::shift` meets its contract.
-- Assumes nothing.
use mathlib.Core.Path.{sym, ap, ◌∙◌, subst}
use Rattle.cpupri.specs.Record.{Whole}
use Rattle.rules.specs.Plan.{shift, carried}
use Rattle.parts.proofs.Optional.{still_whole_if}
use Rattle.carrying.proofs.Placing.{leaves, enters, whole, follows_origin, follows_target}
use Rattle.hinting.specs.Past.{Standing, candidates_since}
use Rattle.hinting.specs.declared.past.Past.{Past}
use Rattle.queueing.proofs.Going.{own, cpus_long, reading, state_after, stands, reading_after, moved}
use Rattle.queueing.proofs.shift.Goals as goal

pub standing-past-requires : goal.standing-past-requires
standing-past-requires c = let l = c.requires.1.1 in record {
  task_lt_task_places = l.ready.task;
  reading = (_, reading l);
}

pub leave-requires : goal.leave-requires
leave-requires c = let l = c.requires.1.1 in (_, leaves (own l))

pub enter-requires : goal.enter-requires
enter-requires c =
    let l = c.requires.1.1 in record {
      entering = (_, enters (own l) (c.leave.ensures _ (leaves (own l))) l.prio);
      cpus_len = cpus_long l;
    }

pub follow-requires : goal.follow-requires
follow-requires c =
    let l = c.requires.1.1 in
    let o = c.leave.ensures _ (leaves (own l)) in
    let e = c.enter.ensures.queues _ (enters (own l) o l.prio) in record {
      following = (_, (follows_origin (own l) o l.prio e).may);
      whole = whole (own l);
    }

pub follow-requires-2 : goal.follow-requires-2
follow-requires-2 c =
    let l = c.requires.1.1 in
    let o = c.leave.ensures _ (leaves (own l)) in
    let e = c.enter.ensures.queues _ (enters (own l) o l.prio) in
    let f = follows_origin (own l) o l.prio e in record {
      following = (_, (follows_target (own l) o l.prio e).may);
      whole = subst Whole (sym (c.follow.ensures _ f.may)) (still_whole_if f (whole (own l)));
    }

pub since-requires : goal.since-requires
since-requires c =
    let l = c.requires.1.1 in
    let o = c.leave.ensures _ (leaves (own l)) in
    let e = c.enter.ensures.queues _ (enters (own l) o l.prio) in
    let r = c.follow.ensures _ (follows_origin (own l) o l.prio e).may in
    let q = c.follow-2.ensures _ (follows_target (own l) o l.prio e).may in (
      carried (shift c.args.task c.args.origin c.requires.1.0 c.args.target) c.requires.0,
      (
        reading_after l o e c.enter.ensures.cpus_set r q,
        state_after l,
        subst (Standing (carried (shift c.args.task c.args.origin c.requires.1.0 c.args.target) c.requires.0)) (sym (c.standing-past.ensures _ (reading l))) (stands l),
      ),
    )

pub returns : goal.returns
returns c =
    λ m τ l.
    let x = c.args in
    let o = c.leave.ensures _ (leaves (own l)) in
    let e = c.enter.ensures.queues _ (enters (own l) o l.prio) in
    let r = c.follow.ensures _ (follows_origin (own l) o l.prio e).may in
    let q = c.follow-2.ensures _ (follows_target (own l) o l.prio e).may in
    let is = c.standing-past.ensures m (reading l) in
    moved l o e c.enter.ensures.cpus_set r q
    (c.since.ensures (carried (shift x.task x.origin τ x.target) m) (reading_after l o e c.enter.ensures.cpus_set r q) (state_after l) (subst (Standing (carried (shift x.task x.origin τ x.target) m)) (sym is) (stands l))
    ∙ ap (λ (s : Past). candidates_since s (carried (shift x.task x.origin τ x.target) m)) is)
