-- `waiting::cpus::first_block` meets its contract. The loop's invariant: nobody waits on the CPUs of the blocks passed. Assumes nothing.
use Prim.Native.Nat.{◌*◌}
use Rattle.waiting.specs.Waiting.{NobodyWaits}
use Rattle.waiting.proofs.cpus.first_block.Given as goal

abbrev pub invariant-loop-block : goal.invariant-loop-block
invariant-loop-block l = NobodyWaits l.counts 0 (l.block * 16)
