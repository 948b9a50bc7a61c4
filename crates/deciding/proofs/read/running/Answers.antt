-- `deciding::read::running` meets its contract.
-- Assumes nothing.
use Rattle.deciding.proofs.Running.{none_runs, one_runs, place_in, no_cpu_lem}
use Rattle.deciding.proofs.read.running.Goals as goal

pub returns-then-n-cpu : goal.returns-then-n-cpu
returns-then-n-cpu c = λ m l. no_cpu_lem l c.args.cpu c.if-n-cpu.true

pub returns-then-counts-cpu-eq0 : goal.returns-then-counts-cpu-eq0
returns-then-counts-cpu-eq0 c = λ m l. none_runs l c.args.cpu c.if-n-cpu.false c.if-counts-cpu-eq0.true

pub returns : goal.returns
returns c = λ m l. one_runs l c.args.cpu c.if-n-cpu.false c.if-counts-cpu-eq0.false

pub bounds-rows-cpu : goal.bounds-rows-cpu
bounds-rows-cpu c = place_in c.requires.1 c.args.cpu c.if-n-cpu.false
