-- The CPUs below a level, as a word, and those below each level.
-- Assumes nothing.
use Rattle.std.specs.Prelude.{List, ℕ, ltb}
use Rattle.bits.specs.Bit.{packed}
use Rattle.levels.specs.Level.{level_count}
use Rattle.levels.specs.Record.{table}

unfoldable pub under_at : List ℕ → ℕ → ℕ
under_at levels l = packed (λ x. ltb x l) levels

unfoldable pub under_of : List ℕ → List ℕ
under_of levels = table (under_at levels) level_count
