-- `wellformed::columns::columns_fit` meets its contract. The loop's invariant: each task passed has passed its test.
-- Assumes nothing.
use mathlib.Core.Path.{◌≡◌, sym, ap, ◌∙◌}
use mathlib.Core.Bool.{Bool, false≢true}
use Prim.Native.Nat.{ℕ, ◌<◌}
use native.Mathlib.Omega.{arith}
use borrow.Author.Count.{below_more}
use Rattle.rowcheck.specs.Placed.{marked}
use Rattle.wellformed.specs.Passes.{task_at, sound_when}
use Rattle.wellformed.proofs.columns.columns_fit.Goals.{After-task_fits}
use Rattle.wellformed.proofs.columns.columns_fit.Goals as goal

none : {k : ℕ} → k < 0 → ⊥
none h = omega arith

-- ---- the task that is looked at

module _ (c : After-task_fits) where
  abbrev sound : Bool → Bool
  sound placed =
      let k = c in
      let a = k.args in
      sound_when placed a.n a.full a.online (task_at a.state.now a.policy.now a.prio.now a.cpu.now a.slice.now a.mask.now k.loop-t.t)

  tested : let k = c in sound (marked k.args.marks.now k.loop-t.t) ≡ k.task_fits.result
  tested = let k = c in ap sound (sym k.has-placed.ensures) ∙ sym k.task_fits.ensures

-- ---- the needs
pub loop-t-init : goal.loop-t-init
loop-t-init c = λ k h. absurd (none h)

pub task_fits-requires : goal.task_fits-requires
task_fits-requires c = c.requires.n_le_cpu_places

pub returns-then-not-task_fits : goal.returns-then-not-task_fits
returns-then-not-task_fits c = λ p.
    let failed = c.if-not-task_fits.true in
    false≢true (sym failed ∙ sym (tested (goal.at.returns-then-not-task_fits c).After-task_fits) ∙ p c.loop-t.t (omega arith))

pub loop-t-preserved : goal.loop-t-preserved
loop-t-preserved c =
    let passed = c.if-not-task_fits.false in
    below_more _ _ c.loop-t.invariant (tested (goal.at.loop-t-preserved c).After-task_fits ∙ passed)

pub returns : goal.returns
returns c = λ k h. c.loop-t.invariant k (omega arith)
