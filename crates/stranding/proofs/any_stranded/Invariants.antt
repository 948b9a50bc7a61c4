-- `stranding::any_stranded` meets its contract. The loop's invariant: the tasks passed have somewhere to go.
-- Assumes nothing.
use mathlib.Core.Logic.{◌≢◌}
use Prim.Native.Nat.{ℕ, ◌<◌}
use lib.Bits.{bit_and}
use lib.ListN.{get_or}
use Rattle.stranding.proofs.any_stranded.Given as goal

abbrev pub invariant-loop-task : goal.invariant-loop-task
invariant-loop-task l = (k : ℕ) → k < l.task-index → bit_and (get_or l.mask (get_or l.tasks k 0) 0) l.up ≢ 0
