-- `under::rise` meets its contract. The loop's invariant: the words passed have lost the CPU, and the others are as they were.
-- Assumes nothing.
use mathlib.Core.Path.{◌≡◌}
use Prim.Native.Nat.{ℕ, ◌≤◌, ◌<◌}
use lib.ListN.{get_or}
use Rattle.bits.specs.Bit.{without_bit}
use Rattle.under.proofs.rise.Given as goal

abbrev pub invariant-loop-word : goal.invariant-loop-word
invariant-loop-word l = record {
  passed : (k : ℕ) → k < l.word-index → get_or l.word-items k 0 ≡ without_bit (get_or l.initial.word-items k 0) l.cpu;
  ahead : (k : ℕ) → l.word-index ≤ k → get_or l.word-items k 0 ≡ get_or l.initial.word-items k 0;
}
