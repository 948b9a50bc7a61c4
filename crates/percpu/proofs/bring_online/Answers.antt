-- `percpu::bring_online` meets its contract.
-- Assumes nothing.
use mathlib.Core.Path.{refl, sym, ap, ◌∙◌, subst}
use Prim.Native.Nat.{ℕ, ◌<◌}
use native.Mathlib.Omega.{arith}
use Rattle.bits.specs.Bit.{bit}
use Rattle.plans.proofs.Answers.{fails_here, passes_here, none_left}
use Rattle.plans.proofs.Plans.{a_cpu, no_cpu_lem}
use Rattle.percpu.proofs.bring_online.Goals as goal

pub returns-then-n-cpu : goal.returns-then-n-cpu
returns-then-n-cpu c = λ m kind a b j n on. fails_here _ _ _ (no_cpu_lem n c.if-n-cpu.true)

pub test_bit-requires : goal.test_bit-requires
test_bit-requires c = omega (arith, c.requires, c.if-n-cpu.false)

pub returns-then-test_bit : goal.returns-then-test_bit
returns-then-test_bit c =
    λ m kind a b j n on.
    let up = ap (λ (o : ℕ). bit o c.args.who) (sym on) ∙ sym c.test_bit.ensures ∙ c.if-test_bit.true in
    passes_here _ _ _ 11 (a_cpu n c.if-n-cpu.false) (fails_here _ _ _ up)

pub returns : goal.returns
returns c =
    λ m kind a b j n on.
    let down = ap (λ (o : ℕ). bit o c.args.who) (sym on) ∙ sym c.test_bit.ensures ∙ c.if-test_bit.false in (
      passes_here _ _ _ 0 (a_cpu n c.if-n-cpu.false) (passes_here _ _ _ 0 down none_left),
      (refl, subst (λ (x : ℕ). c.args.who < x) n c.if-n-cpu.false),
    )
