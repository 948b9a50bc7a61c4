-- `percpu::set_ordinary` meets its contract. Assumes nothing.
use mathlib.Core.Path.{refl, ap, subst}
use mathlib.Core.Bool.{not}
use Prim.Native.Nat.{ℕ, ◌<◌}
use borrow.Author.Tests.{le-leb, lt-leb}
use Rattle.plans.proofs.Answers.{fails_here, passes_here, none_left}
use Rattle.plans.proofs.Plans.{a_cpu, no_cpu_lem}
use Rattle.percpu.proofs.set_ordinary.Goals as goal

pub returns-then-n-cpu : goal.returns-then-n-cpu
returns-then-n-cpu c = λ m kind a k n. fails_here _ _ _ (no_cpu_lem n c.if-n-cpu.true)

pub returns-then-b-gt-WORK : goal.returns-then-b-gt-WORK
returns-then-b-gt-WORK c = λ m kind a k n. passes_here _ _ _ 7 (a_cpu n c.if-n-cpu.false) (fails_here _ _ _ (ap not (lt-leb c.args.b 1 c.if-b-gt-WORK.true)))

pub returns : goal.returns
returns c =
    λ m kind a k n. (
      passes_here _ _ _ 0 (a_cpu n c.if-n-cpu.false) (passes_here _ _ _ 0 (ap not (le-leb c.args.b 1 c.if-b-gt-WORK.false)) none_left),
      (refl, subst (λ (x : ℕ). c.args.who < x) n c.if-n-cpu.false, c.if-b-gt-WORK.false),
    )
