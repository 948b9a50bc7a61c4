-- `waiting::scan::scan` meets its contract. The loop's invariant: no task passed is wanted. Assumes nothing.
use mathlib.Core.Path.{◌≡◌}
use mathlib.Core.Bool.{false}
use Prim.Native.Nat.{ℕ, ◌≤◌, ◌<◌}
use lib.ListN.{get_or}
use Rattle.waiting.specs.Wanted.{wanted}
use Rattle.waiting.proofs.scan.scan.Given as goal

abbrev pub invariant-loop-at : goal.invariant-loop-at
invariant-loop-at l = (k : ℕ) → 1 ≤ k → k < l.at → wanted l.test l.under l.prio l.mask l.floor (get_or l.row k 0) ≡ false
