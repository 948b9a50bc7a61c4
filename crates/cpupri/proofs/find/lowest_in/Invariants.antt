-- `cpupri::find::lowest_in` meets its contract. The loop's invariant: a level below `below` of which no bit is left has no allowed CPU.
-- Assumes nothing.
use Prim.Native.Nat.{◌^◌, ◌<◌}
use Rattle.cpupri.proofs.Search.{Going}
use Rattle.cpupri.proofs.find.lowest_in.Given as goal

abbrev pub invariant-loop-active : goal.invariant-loop-active
invariant-loop-active l = (l.active < 2 ^ 64) × Going l.masks l.mask l.base l.below l.active

abbrev pub decreases-loop-active : goal.decreases-loop-active
decreases-loop-active l = l.active
