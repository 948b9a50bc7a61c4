-- `lifecycle::sleep` meets its contract.
-- Assumes nothing.
use mathlib.Core.Path.{ap, ◌∙◌}
use mathlib.Core.Bool.{not}
use borrow.Author.Tests.{le-leb, lt-leb}
use Rattle.rules.specs.Machine.{Task, asleep, runnable, task_places}
use Rattle.rules.specs.Plan.{leave, with_state}
use Rattle.plans.proofs.Answers.{fails_here, passes_here, none_left}
use Rattle.plans.proofs.Plans.{replaced, is_in, not_in, sleeps}
use Rattle.lifecycle.proofs.sleep.Goals as goal

pub returns-then-who-ge-PLACES : goal.returns-then-who-ge-PLACES
returns-then-who-ge-PLACES c = record {
  decided = λ m kind a b j l. fails_here _ _ _ (le-leb task_places c.args.who c.if-who-ge-PLACES.true);
  shaped = tt;
}

pub returns-then-named-ne-RUNNABLE : goal.returns-then-named-ne-RUNNABLE
returns-then-named-ne-RUNNABLE c = record {
  decided = λ m kind a b j l.
      passes_here _ _ _ 5 (lt-leb task_places c.args.who c.if-who-ge-PLACES.false) (fails_here _ _ _ (ap not (not_in l runnable c.if-named-ne-RUNNABLE.true)));
  shaped = tt;
}

pub returns : goal.returns
returns c = record {
  decided = λ m kind a b j l.
      let t = c.args.who in
      let s = c.if-named-ne-RUNNABLE.false in (
        passes_here _ _ _ 0 (lt-leb task_places t c.if-who-ge-PLACES.false) (passes_here _ _ _ 0 (ap not (is_in l runnable s)) none_left),
        replaced (c.leave.ensures ∙ ap (λ (σ : Task). leave t σ.cpu (with_state asleep σ)) l.columns) (sleeps l c.if-who-ge-PLACES.false s),
      );
  shaped = c.leave.ensures;
}
