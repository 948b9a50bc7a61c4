-- The number of moves that an event's answer tells.
-- Assumes nothing.
use Rattle.std.specs.Prelude.{Result, Ok, Err, ℕ}
use Rattle.rules.specs.declared.answer.Refusal.{Refusal}

-- a refused event has none
abbrev pub moves_of : Result ℕ Refusal → ℕ
moves_of (Ok k) = k
moves_of (Err e) = 0
