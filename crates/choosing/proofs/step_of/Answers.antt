-- `choosing::step_of` meets its contract.
-- Assumes nothing.
use mathlib.Core.Path.{◌≡◌, sym, ap, ◌∙◌, subst}
use mathlib.Core.Bool.{Bool, cond}
use mathlib.Core.List.{List}
use mathlib.Core.Option.{none, some}
use Prim.Native.Nat.{ℕ, ◌≤◌, ◌<◌}
use native.Mathlib.Omega.{arith}
use lib.Dec.{ltb}
use lib.ListN.{get_or}
use borrow.Author.Tests.{lt-ltb, le-ltb}
use Rattle.std.specs.Prelude.{Option, None, Some, IfSome}
use Rattle.bits.specs.Bit.{lowest}
use Rattle.cpupri.specs.Level.{level_count, level_of}
use Rattle.cpupri.specs.Found.{lowest_level, lowest_below, allowed_at}
use Rattle.cpupri.proofs.Found.{some_below, some_under, none_below}
use Rattle.rules.specs.Machine.{task_places, highest_priority}
use Rattle.rules.specs.Migration.{Move}
use Rattle.choosing.specs.Choosing.{as_move, step_by, step_if}
use Rattle.choosing.proofs.step_of.Goals.{In_ok-level, In_ok-task}
use Rattle.choosing.proofs.step_of.Goals as goal

-- the step of a task, by the level x that it is asked below
module _ (masks ps cs ms : List ℕ) (t x : ℕ) (own : x ≡ level_of (get_or ps t 0)) where
  abbrev below : ℕ
  below = lowest_level masks x (get_or ms t 0)

  abbrev move : ℕ → Move
  move i = record { task = t; origin = get_or cs t 0; target = lowest 64 (allowed_at masks (get_or ms t 0) i); displaced = i }

  by_level : step_by masks ps cs ms t ≡ cond (ltb below x) (some (move below)) none
  unfolding step_by
  by_level = ap (λ (y : ℕ). let i = lowest_level masks y (get_or ms t 0) in cond (ltb i y) (some (move i)) none) (sym own)

  not_found : lowest_below masks x (get_or ms t 0) ≡ None → none ≡ step_by masks ps cs ms t
  not_found e =
      sym (by_level ∙ ap (λ (b : Bool). cond b (some (move below)) none) (le-ltb below x (none_below masks x (get_or ms t 0) e)))

  found_at : (l : ℕ) → lowest_below masks x (get_or ms t 0) ≡ Some l → (d : ℕ) → d ≡ lowest 64 (allowed_at masks (get_or ms t 0) l)
      → some (record { task = t; origin = get_or cs t 0; target = d; displaced = l }) ≡ step_by masks ps cs ms t
  found_at l e d q =
      let is = some_below masks x (get_or ms t 0) e in
      ap (λ (y : ℕ). some (record { task = t; origin = get_or cs t 0; target = y; displaced = l })) q
      ∙ ap (λ (i : ℕ). some (move i)) is.0
      ∙ sym (by_level ∙ ap (λ (b : Bool). cond b (some (move below)) none) (lt-ltb below x is.1))

-- the task that there is can be looked up
stored : (c : In_ok-task) → let k = c in (k.in_ok-task.task < task_places) × (get_or k.args.prio.now k.in_ok-task.task 0 ≤ highest_priority)
stored c =
    let k = c in
    subst (λ (o : Option ℕ). IfSome o (λ t. (t < task_places) × (get_or k.args.prio.now t 0 ≤ highest_priority))) k.in_ok-task.was k.requires.task

-- a level that is found is one of the levels
is_level : (c : In_ok-level) → c.in_ok-level.level < level_count
is_level c =
    let k = c in
    let x = k.args in
    let under = some_under x.masks.now k.of_priority-below.result.number (get_or x.mask.now k.in_ok-task.task 0) (sym k.in_ok-level.ensures) in
    omega (arith, k.of_priority-below.ensures, stored (goal.at.In_ok-level k).In_ok-task)

pub returns-in_err-level : goal.returns-in_err-level
returns-in_err-level c =
    let x = c.args in
    ap as_move c.from_residual-in_err-level.ensures
    ∙ not_found x.masks.now x.prio.now x.cpu.now x.mask.now c.in_ok-task.task c.of_priority-below.result.number c.of_priority-below.ensures (sym c.in_err-level.ensures)
    ∙ ap (step_if x.masks.now x.prio.now x.cpu.now x.mask.now) (sym c.in_ok-task.was)

pub offset_bounds-masks-level : goal.offset_bounds-masks-level
offset_bounds-masks-level c = let small = is_level (goal.at.offset_bounds-masks-level c).In_ok-level in omega arith

pub bounds-masks-level : goal.bounds-masks-level
bounds-masks-level c = is_level (goal.at.bounds-masks-level c).In_ok-level

pub overflow_cast-result-3 : goal.overflow_cast-result-3
overflow_cast-result-3 c = let small = is_level (goal.at.overflow_cast-result-3 c).In_ok-level in omega arith

pub returns : goal.returns
unfolding allowed_at
returns c =
    let x = c.args in
    found_at x.masks.now x.prio.now x.cpu.now x.mask.now c.in_ok-task.task c.of_priority-below.result.number c.of_priority-below.ensures
    c.in_ok-level.level (sym c.in_ok-level.ensures) c.lowest_bit.result c.lowest_bit.ensures
    ∙ ap (step_if x.masks.now x.prio.now x.cpu.now x.mask.now) (sym c.in_ok-task.was)
