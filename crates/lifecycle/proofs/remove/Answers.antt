-- `lifecycle::remove` meets its contract.
-- Assumes nothing.
use mathlib.Core.Path.{ap}
use mathlib.Core.Bool.{not}
use native.Mathlib.Omega.{arith}
use borrow.Author.Tests.{le-leb, lt-leb}
use Rattle.rules.specs.Machine.{free_task, asleep, task_places}
use Rattle.plans.proofs.Answers.{fails_here, passes_here, none_left}
use Rattle.plans.proofs.Plans.{replaced, is_in, not_in, state_other, rewritten}
use Rattle.lifecycle.proofs.remove.Goals as goal

pub returns-then-who-ge-PLACES : goal.returns-then-who-ge-PLACES
returns-then-who-ge-PLACES c = λ m kind a b j l. fails_here _ _ _ (le-leb task_places c.args.who c.if-who-ge-PLACES.true)

pub returns-then-named-ne-ASLEEP : goal.returns-then-named-ne-ASLEEP
returns-then-named-ne-ASLEEP c =
    λ m kind a b j l.
    passes_here _ _ _ 5 (lt-leb task_places c.args.who c.if-who-ge-PLACES.false) (fails_here _ _ _ (ap not (not_in l asleep c.if-named-ne-ASLEEP.true)))

pub returns : goal.returns
returns c =
    λ m kind a b j l.
    let s = c.if-named-ne-ASLEEP.false in (
      passes_here _ _ _ 0 (lt-leb task_places c.args.who c.if-who-ge-PLACES.false) (passes_here _ _ _ 0 (ap not (is_in l asleep s)) none_left),
      replaced c.rewrite.ensures (rewritten l c.if-who-ge-PLACES.false free_task (state_other l (λ z. omega arith))),
    )
