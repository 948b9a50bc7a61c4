-- `queueing::reorder` meets its contract.
-- Assumes nothing.
use mathlib.Core.Path.{refl, sym, ap, ◌∙◌, subst}
use Rattle.rules.specs.Plan.{reorder, carried}
use Rattle.carrying.proofs.Placing.{whole, follows_origin}
use Rattle.hinting.specs.Past.{Standing, candidates_since}
use Rattle.hinting.specs.declared.past.Past.{Past}
use Rattle.queueing.proofs.Going.{own, reading, twice, state_after, stands, reading_after, moved, left_out, reorderable, reordered, cpu_kept}
use Rattle.queueing.proofs.reorder.Goals as goal

pub standing-past-requires : goal.standing-past-requires
standing-past-requires c = let l = c.requires.1.1 in record {
  task_lt_task_places = l.ready.task;
  reading = (_, reading l);
}

pub reorder-requires : goal.reorder-requires
reorder-requires c = let all = reorderable c.requires.1.1 in record {
  holds_rows = all.0;
  cpu_in_bounds = all.1.0;
  prio_len = all.1.1.0;
  task_bound = all.1.1.1.0;
  reorderable = all.1.1.1.1;
}

pub follow-requires : goal.follow-requires
follow-requires c =
    let l = c.requires.1.1 in record {
      following = (_, (follows_origin (own l) (left_out l) l.prio (reordered l c.reorder.ensures.rows_are c.reorder.ensures.counts_are)).may);
      whole = whole (own l);
    }

pub since-requires : goal.since-requires
since-requires c =
    let l = c.requires.1.1 in
    let o = left_out l in
    let e = reordered l c.reorder.ensures.rows_are c.reorder.ensures.counts_are in
    let q = twice l (c.follow.ensures _ (follows_origin (own l) o l.prio e).may) in (
      carried (reorder c.args.front c.args.task c.args.home c.requires.1.0) c.requires.0,
      (
        reading_after l o e (cpu_kept l) refl q,
        state_after l,
        subst (Standing (carried (reorder c.args.front c.args.task c.args.home c.requires.1.0) c.requires.0)) (sym (c.standing-past.ensures _ (reading l))) (stands l),
      ),
    )

pub returns : goal.returns
returns c =
    λ m τ l.
    let x = c.args in
    let o = left_out l in
    let e = reordered l c.reorder.ensures.rows_are c.reorder.ensures.counts_are in
    let q = twice l (c.follow.ensures _ (follows_origin (own l) o l.prio e).may) in
    let is = c.standing-past.ensures m (reading l) in
    moved l o e (cpu_kept l) refl q
    (c.since.ensures (carried (reorder x.front x.task x.home τ) m) (reading_after l o e (cpu_kept l) refl q) (state_after l) (subst (Standing (carried (reorder x.front x.task x.home τ) m)) (sym is) (stands l))
    ∙ ap (λ (s : Past). candidates_since s (carried (reorder x.front x.task x.home τ) m)) is)
