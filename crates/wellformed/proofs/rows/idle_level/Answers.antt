-- `wellformed::rows::idle_level` meets its contract.
-- Assumes nothing.
use mathlib.Core.Path.{sym, ap, ◌∙◌}
use mathlib.Core.Bool.{Bool, cond}
use Rattle.rules.specs.Machine.{invalid}
use Rattle.wellformed.proofs.rows.idle_level.Goals as goal

pub returns-then-test_bit : goal.returns-then-test_bit
returns-then-test_bit c = sym (ap (λ (b : Bool). cond b c.args.flag invalid) (sym c.test_bit.ensures ∙ c.if-test_bit.true))

pub returns : goal.returns
returns c = sym (ap (λ (b : Bool). cond b c.args.flag invalid) (sym c.test_bit.ensures ∙ c.if-test_bit.false))
