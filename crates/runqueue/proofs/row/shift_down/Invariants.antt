-- `runqueue::row::shift_down` meets its contract. The loop's invariant: the places before i have moved. Assumes nothing.
use mathlib.Core.Path.{◌≡◌}
use Prim.Native.Nat.{ℕ, suc, ◌≤◌, ◌<◌}
use lib.ListN.{length, get_or}
use Rattle.runqueue.proofs.row.shift_down.Given as goal

abbrev pub invariant-loop-i : goal.invariant-loop-i
invariant-loop-i l = record {
  size : length l.row ≡ length l.initial.row;
  before : (k : ℕ) → k < l.at → get_or l.row k 0 ≡ get_or l.initial.row k 0;
  moved : (k : ℕ) → l.at ≤ k → suc k < l.i → get_or l.row k 0 ≡ get_or l.initial.row (suc k) 0;
  after : (k : ℕ) → l.i ≤ suc k → get_or l.row k 0 ≡ get_or l.initial.row k 0;
}
