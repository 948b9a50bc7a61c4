-- `rowcheck::row::unused` meets its contract. The loop's invariant: the test says whether the places passed hold nothing.
-- Assumes nothing.
use mathlib.Core.Path.{◌≡◌}
use Prim.Native.Nat.{ℕ, ◌<◌}
use lib.ListN.{get_or}
use Rattle.rules.specs.Tables.{nothing}
use Rattle.rowcheck.specs.Says.{Says}
use Rattle.rowcheck.proofs.row.unused.Given as goal

abbrev pub invariant-loop-place : goal.invariant-loop-place
invariant-loop-place l = Says l.all ((k : ℕ) → k < l.place-index → get_or l.place-items k 0 ≡ nothing)
