-- `lifecycle::wake_cpu` meets its contract. Assumes nothing.
use mathlib.Core.Path.{sym, ap, ◌∙◌}
use mathlib.Core.Bool.{Bool, cond}
use Rattle.bits.specs.Bit.{lowest}
use Rattle.cpupri.specs.Level.{cpu_places}
use Rattle.lifecycle.proofs.wake_cpu.Goals as goal

pub returns-then-test_bit : goal.returns-then-test_bit
returns-then-test_bit c = let a = c.args in sym (ap (λ (b : Bool). cond b a.cpu (lowest cpu_places a.up)) (sym c.test_bit.ensures ∙ c.if-test_bit.true))

pub returns : goal.returns
returns c = let a = c.args in c.lowest_bit.ensures ∙ sym (ap (λ (b : Bool). cond b a.cpu (lowest cpu_places a.up)) (sym c.test_bit.ensures ∙ c.if-test_bit.false))
