-- `consistency::block` meets its contract.
-- Assumes nothing.
use Rattle.std.proofs.Common.{arith}
use Rattle.consistency.proofs.CpuBits.{eight_cpus, eight_fit}
use Rattle.consistency.proofs.block.Goals as goal

pub take-requires : goal.take-requires
take-requires c =
    let x = c.args in record {
      from_len = c.requires.from_len;
      le_more = (omega arith, c.requires.cpu_bound.0, eight_cpus x.cpu x.cpus c.requires.cpu_bound.0 c.requires.cpu_bound.1);
      alike = c.alike.ensures c.if-alike.true;
      gathered = c.requires.gathered;
    }

pub overflow_mul-cpus : goal.overflow_mul-cpus
overflow_mul-cpus c = record { fits = eight_fit c.args.cpu c.args.cpus c.requires.cpu_bound.0 c.requires.cpu_bound.1 }
