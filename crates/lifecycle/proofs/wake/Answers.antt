-- `lifecycle::wake` meets its contract.
-- Assumes nothing.
use mathlib.Core.Path.{ap, ◌∙◌}
use mathlib.Core.Bool.{not}
use native.Mathlib.Omega.{arith}
use borrow.Author.Tests.{le-leb, lt-leb}
use Rattle.rules.specs.Machine.{Task, asleep, runnable, task_places}
use Rattle.rules.specs.Events.{wake_cpu}
use Rattle.rules.specs.Plan.{enter, with_state}
use Rattle.plans.specs.Decided.{as_task}
use Rattle.plans.proofs.Answers.{fails_here, passes_here, none_left, tested_up, tested_some}
use Rattle.plans.proofs.Plans.{replaced, is_in, not_in, used_fit, wake_is, wakes}
use Rattle.lifecycle.proofs.wake.Goals as goal

pub returns-then-who-ge-PLACES : goal.returns-then-who-ge-PLACES
returns-then-who-ge-PLACES c = record {
  decided = λ m kind a b j on l. fails_here _ _ _ (le-leb task_places c.args.who c.if-who-ge-PLACES.true);
  shaped = tt;
}

pub returns-then-named-ne-ASLEEP : goal.returns-then-named-ne-ASLEEP
returns-then-named-ne-ASLEEP c = record {
  decided = λ m kind a b j on l.
      passes_here _ _ _ 5 (lt-leb task_places c.args.who c.if-who-ge-PLACES.false) (fails_here _ _ _ (ap not (not_in l asleep c.if-named-ne-ASLEEP.true)));
  shaped = tt;
}

pub returns-then-up-eq0 : goal.returns-then-up-eq0
returns-then-up-eq0 c = record {
  decided = λ m kind a b j on l. passes_here _ _ _ 10 (lt-leb task_places c.args.who c.if-who-ge-PLACES.false)
      (passes_here _ _ _ 10 (ap not (is_in l asleep c.if-named-ne-ASLEEP.false))
      (fails_here _ _ _ (tested_up m (ap (λ (x : Task). x.mask) l.columns) on c.if-up-eq0.true)));
  shaped = tt;
}

pub wake_cpu-target-requires : goal.wake_cpu-target-requires
wake_cpu-target-requires c =
    let l = c.requires.1 in
    let fit = used_fit l c.if-who-ge-PLACES.false (λ z. omega (arith, c.if-named-ne-ASLEEP.false)) in
    omega (arith, fit.cpu, l.formed.shape.cpus, ap (λ (x : Task). x.cpu) l.columns)

pub returns : goal.returns
returns c = record {
  decided = λ m kind a b j on l.
      let t = c.args.who in
      let s = c.if-named-ne-ASLEEP.false in
      let some = tested_some m (ap (λ (x : Task). x.mask) l.columns) on c.if-up-eq0.false in (
        passes_here _ _ _ 0 (lt-leb task_places t c.if-who-ge-PLACES.false) (passes_here _ _ _ 0 (ap not (is_in l asleep s)) (passes_here _ _ _ 0 some none_left)),
        replaced
            (c.enter.ensures ∙ ap (enter t (with_state runnable (as_task c.args.named))) (c.wake_cpu-target.ensures ∙ wake_is l c.if-who-ge-PLACES.false s some on)
            ∙ ap (λ (σ : Task). enter t (with_state runnable σ) (wake_cpu m t)) l.columns)
            (wakes l c.if-who-ge-PLACES.false s some),
      );
  shaped = (_, c.enter.ensures);
}
