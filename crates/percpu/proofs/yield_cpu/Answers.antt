-- `percpu::yield_cpu` meets its contract.
-- Assumes nothing.
use mathlib.Core.Path.{◌≡◌, refl, sym, ap, ◌∙◌, subst}
use mathlib.Core.Bool.{false, not}
use native.Mathlib.Omega.{arith}
use borrow.Author.Tests.{not-true, not-false}
use Rattle.std.specs.Prelude.{Option, IsSomeAnd}
use Rattle.rules.specs.Machine.{Task, is_online}
use Rattle.rules.specs.Plan.{shift, reorder}
use Rattle.plans.specs.Decided.{as_task, as_plan}
use Rattle.plans.proofs.Answers.{fails_here, passes_here, none_left, tested_online}
use Rattle.plans.proofs.Plans.{replaced, a_cpu, no_cpu_lem}
use Rattle.percpu.specs.Running.{Runs}
use Rattle.percpu.specs.declared.Runner.{Runner}
use Rattle.percpu.proofs.Running.{empty, runs, yields}
use Rattle.percpu.proofs.yield_cpu.Goals as goal

pub returns-then-n-cpu : goal.returns-then-n-cpu
returns-then-n-cpu c = record {
  decided = λ m kind a b j n on l. fails_here _ _ _ (no_cpu_lem n c.if-n-cpu.true);
  shaped = tt;
}

pub test_bit-requires : goal.test_bit-requires
test_bit-requires c = omega (arith, c.requires, c.if-n-cpu.false)

-- of an offline CPU 11 is said and not 9
pub returns-then-not-test_bit : goal.returns-then-not-test_bit
returns-then-not-test_bit c = record {
  decided = λ m kind a b j n on l.
      let off = tested_online m c.args.who on c.test_bit.ensures (ap not c.if-not-test_bit.true) in passes_here _ _ _ 11 (a_cpu n c.if-n-cpu.false) (passes_here _ _ _ 11 (rw (not-true (is_online m c.args.who) off) refl) (fails_here _ _ _ off));
  shaped = tt;
}

pub returns-in_default : goal.returns-in_default
returns-in_default c = record {
  decided = λ m kind a b j n on l.
      let up = not-false (is_online m c.args.who) (tested_online m c.args.who on c.test_bit.ensures (ap not c.if-not-test_bit.false)) in
      passes_here _ _ _ 9 (a_cpu n c.if-n-cpu.false) (fails_here _ _ _ (rw (up, empty (subst (Runs m c.args.who) c.in_default.is l)) refl));
  shaped = tt;
}

pub returns : goal.returns
returns c = record {
  decided = λ m kind a b j n on l.
      let x = c.args in
      let r = subst (Runs m x.who) c.in-Some.is l in
      let test = tested_online m c.args.who on c.test_bit.ensures (ap not c.if-not-test_bit.false) in (
        passes_here _ _ _ 0 (a_cpu n c.if-n-cpu.false)
            (passes_here _ _ _ 0 (rw (not-false (is_online m x.who) test, (runs r).1) refl) (passes_here _ _ _ 0 test none_left)),
        replaced (c.shift.ensures ∙ ap (λ (σ : Task). shift c.in-Some.runner.task x.who σ x.who) r.columns) (yields r),
      );
  shaped = subst (λ (o : Option Runner). IsSomeAnd o (λ r. as_plan c.shift.result ≡ reorder false r.task c.args.who (as_task r.columns)))
      (sym c.in-Some.is) c.shift.ensures;
}
