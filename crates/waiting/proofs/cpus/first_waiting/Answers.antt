-- `waiting::cpus::first_waiting` meets its contract. Assumes nothing.
use native.Mathlib.Omega.{arith}
use Rattle.waiting.proofs.Waiting.{next_further}
use Rattle.waiting.proofs.cpus.first_waiting.Goals as goal

pub returns : goal.returns
returns c = next_further c.args.counts.now 0 c.first_block-from.result c.args.n c.next_waiting.result (omega arith) c.first_block-from.ensures.1 c.next_waiting.ensures
