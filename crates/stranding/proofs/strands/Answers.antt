-- `stranding::strands` meets its contract.
-- Assumes nothing.
use native.Mathlib.Omega.{arith}
use Rattle.stranding.proofs.Looking.{other_kind, few, no_cpu_lem, fits, most, listed, looked}
use Rattle.stranding.proofs.strands.Goals as goal

pub returns-then-kind-ne-OFFLINE_KIND : goal.returns-then-kind-ne-OFFLINE_KIND
returns-then-kind-ne-OFFLINE_KIND c = λ m l. other_kind m c.args.kind c.args.who c.if-kind-ne-OFFLINE_KIND.true

pub returns-then-n-cpu : goal.returns-then-n-cpu
returns-then-n-cpu c = λ m l. no_cpu_lem l c.args.kind c.args.who c.if-kind-ne-OFFLINE_KIND.false c.if-n-cpu.true

pub clear_bit-requires : goal.clear_bit-requires
clear_bit-requires c = omega (arith, few c.requires.1, c.if-n-cpu.false)

pub any_stranded-requires : goal.any_stranded-requires
any_stranded-requires c = listed c.requires.1 c.args.who c.if-n-cpu.false

pub returns : goal.returns
returns c =
    λ m l.
    looked l c.args.who (omega (arith, c.if-n-cpu.false)) c.args.kind c.if-kind-ne-OFFLINE_KIND.false c.clear_bit.ensures c.any_stranded.ensures

pub slice_bounds-any_stranded-end : goal.slice_bounds-any_stranded-end
slice_bounds-any_stranded-end c = omega (arith, fits c.requires.1 c.args.who c.if-n-cpu.false, most c.requires.1 c.args.who c.if-n-cpu.false)
