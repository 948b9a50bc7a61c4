-- `queueing::stay` meets its contract.
-- Assumes nothing.
use mathlib.Core.Path.{refl, sym, ap, ◌∙◌, subst}
use Rattle.rules.specs.Plan.{rewrite, carried}
use Rattle.carrying.proofs.Placing.{leaves, enters}
use Rattle.hinting.specs.Past.{Standing, candidates_since}
use Rattle.hinting.specs.declared.past.Past.{Past}
use Rattle.queueing.proofs.Going.{own, reading, unfollowed, state_after, stands, reading_after, moved}
use Rattle.queueing.proofs.stay.Goals as goal

pub standing-past-requires : goal.standing-past-requires
standing-past-requires c = let l = c.requires.1.1 in record {
  task_lt_task_places = l.ready.task;
  reading = (_, reading l);
}

pub since-requires : goal.since-requires
since-requires c =
    let l = c.requires.1.1 in
    let o = (leaves (own l)).queues in
    let e = (enters (own l) o l.prio).queues in
    (carried (rewrite c.args.task c.requires.1.0) c.requires.0, (reading_after l o e refl (unfollowed l) (unfollowed l), state_after l, subst (Standing (carried (rewrite c.args.task c.requires.1.0) c.requires.0)) (sym (c.standing-past.ensures _ (reading l))) (stands l)))

pub returns : goal.returns
returns c =
    λ m τ l.
    let o = (leaves (own l)).queues in
    let e = (enters (own l) o l.prio).queues in
    let is = c.standing-past.ensures m (reading l) in
    moved l o e refl (unfollowed l) (unfollowed l)
    (c.since.ensures (carried (rewrite c.args.task τ) m) (reading_after l o e refl (unfollowed l) (unfollowed l)) (state_after l) (subst (Standing (carried (rewrite c.args.task τ) m)) (sym is) (stands l))
    ∙ ap (λ (s : Past). candidates_since s (carried (rewrite c.args.task τ) m)) is)
