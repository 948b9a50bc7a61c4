-- `percpu::take_offline` meets its contract.
-- Assumes nothing.
use mathlib.Core.Logic.{◌≢◌}
use mathlib.Core.Path.{refl, sym, ap, ◌∙◌, subst}
use Prim.Native.Nat.{ℕ, ◌<◌}
use native.Mathlib.Omega.{arith}
use borrow.Author.Tests.{eq-eqb, ne_eqb}
use Rattle.bits.specs.Bit.{without_bit}
use Rattle.rules.specs.Machine.{row}
use Rattle.laws.proofs.Lists.{any_none}
use Rattle.plans.proofs.Answers.{fails_here, passes_here, none_left, tested_online}
use Rattle.plans.proofs.Plans.{a_cpu, no_cpu_lem}
use mathlib.Core.Bool.{not}
use Rattle.percpu.proofs.take_offline.Goals as goal

pub returns-then-n-cpu : goal.returns-then-n-cpu
returns-then-n-cpu c = λ m kind a b j n on st. fails_here _ _ _ (no_cpu_lem n c.if-n-cpu.true)

pub returns-then-stranding : goal.returns-then-stranding
returns-then-stranding c =
    λ m kind a b j n on st.
    passes_here _ _ _ 10 (a_cpu n c.if-n-cpu.false) (fails_here _ _ _ (sym st ∙ c.if-stranding.true))

pub test_bit-requires : goal.test_bit-requires
test_bit-requires c = omega (arith, c.requires, c.if-n-cpu.false)

pub returns-then-not-test_bit : goal.returns-then-not-test_bit
returns-then-not-test_bit c =
    λ m kind a b j n on st. passes_here _ _ _ 11 (a_cpu n c.if-n-cpu.false)
    (passes_here _ _ _ 11 (sym st ∙ c.if-stranding.false) (fails_here _ _ _ (tested_online m c.args.who on c.test_bit.ensures (ap not c.if-not-test_bit.true))))

pub clear_bit-requires : goal.clear_bit-requires
clear_bit-requires c = omega (arith, c.requires, c.if-n-cpu.false)

pub returns-then-clear_bit-eq0 : goal.returns-then-clear_bit-eq0
returns-then-clear_bit-eq0 c =
    λ m kind a b j n on st.
    let none = ap (λ (o : ℕ). without_bit o c.args.who) (sym on) ∙ sym c.clear_bit.ensures ∙ c.if-clear_bit-eq0.true in passes_here _ _ _ 12 (a_cpu n c.if-n-cpu.false)
    (passes_here _ _ _ 12 (sym st ∙ c.if-stranding.false)
    (passes_here _ _ _ 12 (tested_online m c.args.who on c.test_bit.ensures (ap not c.if-not-test_bit.false)) (fails_here _ _ _ (eq-eqb _ 0 none))))

pub returns : goal.returns
returns c =
    λ m kind a b j n on st.
    let who = c.args.who in
    let some : without_bit m.online who ≢ 0 = λ z. c.if-clear_bit-eq0.false (c.clear_bit.ensures ∙ ap (λ (o : ℕ). without_bit o who) on ∙ z) in (
      passes_here _ _ _ 0 (a_cpu n c.if-n-cpu.false)
          (passes_here _ _ _ 0 (sym st ∙ c.if-stranding.false)
          (passes_here _ _ _ 0 (tested_online m c.args.who on c.test_bit.ensures (ap not c.if-not-test_bit.false)) (passes_here _ _ _ 0 (ne_eqb _ 0 some) none_left))),
      (
        refl,
        record { cpu = subst (λ (x : ℕ). who < x) n c.if-n-cpu.false; placed = any_none _ (row m who) (sym st ∙ c.if-stranding.false) },
      ),
    )
