-- `stranding::any_stranded` meets its contract. The loop's invariant: the tasks passed have somewhere to go.
-- Assumes nothing.
use borrow.Author.Count.{below_more}
use native.Mathlib.Nat.{not-suc-le-zero}
use native.Mathlib.Omega.{arith}
use Rattle.stranding.proofs.Looking.{found, none_found}
use Rattle.stranding.proofs.any_stranded.Goals as goal

pub loop-task-init : goal.loop-task-init
loop-task-init c = λ k h. absurd (not-suc-le-zero h)

pub returns-then-mask-task-eq0 : goal.returns-then-mask-task-eq0
returns-then-mask-task-eq0 c = found c.args.up c.args.mask.now c.args.tasks.now c.loop-task.task-index (omega arith) c.if-mask-task-eq0.true

pub loop-task-preserved : goal.loop-task-preserved
loop-task-preserved c = below_more _ _ c.loop-task.invariant c.if-mask-task-eq0.false

pub returns : goal.returns
returns c = none_found c.args.up c.args.mask.now c.args.tasks.now (λ i h. c.loop-task.invariant i (omega arith))
