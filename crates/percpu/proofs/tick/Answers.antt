-- `percpu::tick` meets its contract.
-- Assumes nothing.
use mathlib.Core.Path.{◌≡◌, sym, ap, ap₂, ◌∙◌, subst}
use mathlib.Core.Bool.{not}
use mathlib.Core.Logic.{inl, inr}
use Prim.Native.Nat.{ℕ, ◌-◌}
use native.Mathlib.Omega.{arith}
use Rattle.std.specs.Prelude.{Option, IsSomeAnd}
use Rattle.rules.specs.Machine.{Machine, Task}
use Rattle.rules.specs.Events.{event, tick}
use Rattle.rules.specs.Refusals.{first_failing, checks}
use Rattle.rules.specs.Plan.{rewrite, shift, with_slice}
use Rattle.plans.specs.Decided.{as_task, as_plan, Requeues}
use Rattle.plans.proofs.Answers.{fails_here, passes_here, none_left, tested_online}
use Rattle.plans.proofs.Plans.{replaced, a_cpu, no_cpu_lem}
use Rattle.percpu.specs.Running.{Runs}
use Rattle.percpu.specs.declared.Runner.{Runner}
use Rattle.percpu.proofs.Running.{ticked_empty, ticked_fifo, ticks_less, ticks_again}
use Rattle.percpu.proofs.tick.Goals.{Else-not-test_bit}
use Rattle.percpu.proofs.tick.Goals as goal

-- an online CPU
ticks : (c : Else-not-test_bit) (m : Machine) (kind a b j : ℕ) → let x = c.args in x.n ≡ m.n → x.online ≡ m.online
    → 0 ≡ first_failing (checks m (event kind x.who a b j) tick)
ticks c m kind a b j n on =
    let k = c in
    passes_here _ _ _ 0 (a_cpu n k.if-n-cpu.false) (passes_here _ _ _ 0 (tested_online m k.args.who on k.test_bit.ensures (ap not k.if-not-test_bit.false)) none_left)

pub returns-then-n-cpu : goal.returns-then-n-cpu
returns-then-n-cpu c = record {
  decided = λ m kind a b j n on f l. fails_here _ _ _ (no_cpu_lem n c.if-n-cpu.true);
  shaped = tt;
}

pub test_bit-requires : goal.test_bit-requires
test_bit-requires c = omega (arith, c.requires, c.if-n-cpu.false)

pub returns-then-not-test_bit : goal.returns-then-not-test_bit
returns-then-not-test_bit c = record {
  decided = λ m kind a b j n on f l.
      passes_here _ _ _ 11 (a_cpu n c.if-n-cpu.false) (fails_here _ _ _ (tested_online m c.args.who on c.test_bit.ensures (ap not c.if-not-test_bit.true)));
  shaped = tt;
}

pub returns-in_default : goal.returns-in_default
returns-in_default c = record {
  decided = λ m kind a b j n on f l. (
    ticks (goal.at.returns-in_default c).Else-not-test_bit m kind a b j n on,
    ticked_empty (subst (Runs m c.args.who) c.in_default.is l),
  );
  shaped = tt;
}

pub returns-then-columns-ne-RR : goal.returns-then-columns-ne-RR
returns-then-columns-ne-RR c = record {
  decided = λ m kind a b j n on f l. (
    ticks (goal.at.returns-then-columns-ne-RR c).Else-not-test_bit m kind a b j n on,
    ticked_fifo (subst (Runs m c.args.who) c.in-Some.is l) c.if-columns-ne-RR.true,
  );
  shaped = tt;
}

pub returns-then-columns-gt1 : goal.returns-then-columns-gt1
returns-then-columns-gt1 c = record {
  decided = λ m kind a b j n on f l.
      let r = subst (Runs m c.args.who) c.in-Some.is l in (
        ticks (goal.at.returns-then-columns-gt1 c).Else-not-test_bit m kind a b j n on,
        replaced (c.rewrite.ensures ∙ ap (rewrite c.in-Some.runner.task) (ap (λ (σ : Task). with_slice (σ.slice - 1) σ) r.columns))
            (ticks_less r c.if-columns-ne-RR.false c.if-columns-gt1.true),
      );
  shaped = subst
      (λ (o : Option Runner). IsSomeAnd o (λ r. ((v : ℕ) × Requeues r.task c.args.who (with_slice v (as_task r.columns)) (as_plan c.rewrite.result))))
      (sym c.in-Some.is) (_, inl c.rewrite.ensures);
}

pub returns : goal.returns
returns c = record {
  decided = λ m kind a b j n on f l.
      let r = subst (Runs m c.args.who) c.in-Some.is l in (
        ticks (goal.at.returns c).Else-not-test_bit m kind a b j n on,
        replaced (c.shift.ensures ∙ ap (λ (σ : Task). shift c.in-Some.runner.task c.args.who σ c.args.who) (ap₂ with_slice f r.columns))
            (ticks_again r c.if-columns-ne-RR.false c.if-columns-gt1.false),
      );
  shaped = subst
      (λ (o : Option Runner). IsSomeAnd o (λ r. ((v : ℕ) × Requeues r.task c.args.who (with_slice v (as_task r.columns)) (as_plan c.shift.result))))
      (sym c.in-Some.is) (_, inr c.shift.ensures);
}
