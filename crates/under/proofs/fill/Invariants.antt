-- `under::fill` meets its contract. The loop's invariant: the levels passed have the CPUs below them.
-- Assumes nothing.
use mathlib.Core.Path.{◌≡◌}
use mathlib.Core.List.{List}
use Prim.Native.Nat.{ℕ, ◌<◌}
use lib.ListN.{length, get_or}
use Rattle.levels.specs.Level.{level_count}
use Rattle.levels.specs.Record.{masks_of}
use Rattle.under.specs.Under.{under_at}
use Rattle.under.proofs.fill.Given as goal

abbrev pub Filled : List ℕ → List ℕ → ℕ → Type 0
Filled masks under level = (levels : List ℕ) → masks ≡ masks_of levels → (j : ℕ) → j < level → get_or under j 0 ≡ under_at levels j

abbrev pub invariant-loop-level : goal.invariant-loop-level
invariant-loop-level l = (length l.under ≡ level_count) × Filled l.masks l.under l.level
