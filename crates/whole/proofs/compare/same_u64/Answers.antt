-- `whole::compare::same_u64` meets its contract. The loop's invariant: the word is 0 exactly if the places passed are the same.
-- Assumes nothing.
use mathlib.Core.Path.{refl, ◌∙◌}
use native.Mathlib.Omega.{arith}
use Rattle.whole.specs.Whole.{same}
use Rattle.whole.proofs.Compared.{compare_more, compare_all}
use Rattle.whole.proofs.compare.same_u64.Goals as goal

pub loop-i-init : goal.loop-i-init
unfolding same
loop-i-init c = refl

pub loop-i-preserved : goal.loop-i-preserved
loop-i-preserved c =
    let l = c.loop-i in
    compare_more c.args.a.now c.args.b.now c.requires l.word l.i l.invariant (omega arith)

pub returns : goal.returns
returns c =
    let l = c.loop-i in
    compare_all c.args.a.now c.args.b.now c.requires l.word l.i l.invariant (omega arith)
