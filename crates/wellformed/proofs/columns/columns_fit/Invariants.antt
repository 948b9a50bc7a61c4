-- `wellformed::columns::columns_fit` meets its contract. The loop's invariant: each task passed has passed its test.
-- Assumes nothing.
use mathlib.Core.Path.{◌≡◌}
use mathlib.Core.Bool.{true}
use Prim.Native.Nat.{ℕ, ◌<◌}
use Rattle.rowcheck.specs.Placed.{marked}
use Rattle.wellformed.specs.Passes.{task_at, sound_when}
use Rattle.wellformed.proofs.columns.columns_fit.Given as goal

abbrev pub invariant-loop-t : goal.invariant-loop-t
invariant-loop-t l =
    (k : ℕ) → k < l.t → sound_when (marked l.marks k) l.n l.full l.online (task_at l.state l.policy l.prio l.cpu l.slice l.mask k) ≡ true
