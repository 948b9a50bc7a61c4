-- `change::set_priority` meets its contract.
-- Assumes nothing.
use mathlib.Core.Path.{◌≡◌, ap, ◌∙◌}
use mathlib.Core.Bool.{Bool, false, not, ◌&&◌}
use Prim.Native.Nat.{ℕ, ◌≤◌}
use mathlib.Core.Logic.{inl, inr}
use lib.Dec.{leb, ltb}
use borrow.Author.Tests.{le-leb, lt-leb}
use Rattle.rules.specs.Machine.{Task, free, task_places, lowest_priority, highest_priority}
use Rattle.rules.specs.Plan.{rewrite, reorder, with_prio}
use Rattle.laws.proofs.Checks.{between}
use Rattle.plans.proofs.Answers.{fails_here, passes_here, none_left, tested}
use Rattle.plans.proofs.Plans.{replaced, is_in, not_in, priority_idle, priority_same, priority_moved}
use Rattle.change.proofs.set_priority.Goals as goal

-- the test that passed
low : (b : ℕ) {r : Bool} → r ≡ (leb lowest_priority b && leb b highest_priority) → not r ≡ false → b ≤ highest_priority
low b e h = (between lowest_priority b highest_priority (tested e h)).1

pub returns-then-who-ge-PLACES : goal.returns-then-who-ge-PLACES
returns-then-who-ge-PLACES c = record {
  decided = λ m kind a j l. fails_here _ _ _ (le-leb task_places c.args.who c.if-who-ge-PLACES.true);
  shaped = tt;
}

pub returns-then-named-eq-FREE : goal.returns-then-named-eq-FREE
returns-then-named-eq-FREE c = record {
  decided = λ m kind a j l.
      passes_here _ _ _ 5 (lt-leb task_places c.args.who c.if-who-ge-PLACES.false) (fails_here _ _ _ (is_in l free c.if-named-eq-FREE.true));
  shaped = tt;
}

pub returns-then-not-in_range : goal.returns-then-not-in_range
returns-then-not-in_range c = record {
  decided = λ m kind a j l. passes_here _ _ _ 7 (lt-leb task_places c.args.who c.if-who-ge-PLACES.false)
      (passes_here _ _ _ 7 (not_in l free c.if-named-eq-FREE.false) (fails_here _ _ _ (tested c.is_priority-in_range.ensures (ap not c.if-not-in_range.true))));
  shaped = tt;
}

pub returns-then-named-ne-RUNNABLE : goal.returns-then-named-ne-RUNNABLE
returns-then-named-ne-RUNNABLE c = record {
  decided = λ m kind a j l.
      let t = c.args.who in
      let p = c.args.b in (
        passes_here _ _ _ 0 (lt-leb task_places t c.if-who-ge-PLACES.false)
            (passes_here _ _ _ 0 (not_in l free c.if-named-eq-FREE.false) (passes_here _ _ _ 0 (tested c.is_priority-in_range.ensures (ap not c.if-not-in_range.false)) none_left)),
        replaced (c.rewrite.ensures ∙ ap (rewrite t) (ap (with_prio p) l.columns)) (priority_idle l c.if-who-ge-PLACES.false p c.if-named-ne-RUNNABLE.true),
      );
  shaped = inl c.rewrite.ensures;
}

pub returns-then-named-becomes : goal.returns-then-named-becomes
returns-then-named-becomes c = record {
  decided = λ m kind a j l. (
    passes_here _ _ _ 0 (lt-leb task_places c.args.who c.if-who-ge-PLACES.false)
        (passes_here _ _ _ 0 (not_in l free c.if-named-eq-FREE.false) (passes_here _ _ _ 0 (tested c.is_priority-in_range.ensures (ap not c.if-not-in_range.false)) none_left)),
    priority_same l c.if-who-ge-PLACES.false c.args.b c.if-named-ne-RUNNABLE.false c.if-named-becomes.true,
  );
  shaped = tt;
}

pub returns : goal.returns
returns c = record {
  decided = λ m kind a j l.
      let t = c.args.who in
      let p = c.args.b in (
        passes_here _ _ _ 0 (lt-leb task_places t c.if-who-ge-PLACES.false)
            (passes_here _ _ _ 0 (not_in l free c.if-named-eq-FREE.false) (passes_here _ _ _ 0 (tested c.is_priority-in_range.ensures (ap not c.if-not-in_range.false)) none_left)),
        replaced (c.reorder.ensures ∙ ap (λ (σ : Task). reorder (ltb p σ.prio) t σ.cpu (with_prio p σ)) l.columns)
            (priority_moved l c.if-who-ge-PLACES.false p c.if-named-ne-RUNNABLE.false c.if-named-becomes.false (low p c.is_priority-in_range.ensures (ap not c.if-not-in_range.false))),
      );
  shaped = inr (_, c.reorder.ensures);
}
