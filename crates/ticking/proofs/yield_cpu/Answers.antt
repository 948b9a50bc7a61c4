-- `ticking::yield_cpu` meets its contract.
-- Assumes nothing.
use mathlib.Core.Path.{◌≡◌, refl, sym, ap, ◌∙◌, subst}
use mathlib.Core.Bool.{false}
use Prim.Native.Nat.{ℕ}
use lib.ListN.{set}
use Rattle.levels.specs.Record.{lent_record}
use Rattle.std.specs.Prelude.{Some, Ok, Err}
use Rattle.rules.specs.Machine.{Machine, Task, task_of}
use Rattle.rules.specs.Events.{event, yield}
use Rattle.rules.specs.Plan.{Plan, reorder}
use Rattle.plans.specs.Decided.{as_task, as_plan, Places}
use Rattle.plans.specs.declared.plan.Plan.{Plan as Written}
use Rattle.deciding.proofs.Deciding.{judged_by_kind}
use Rattle.queueing.specs.Moved.{Moving, Running}
use Rattle.effect.specs.Effected.{Lends}
use Rattle.effect.proofs.Effects.{Plans, unchanged, sized, lent_rows, few_cpus, passed_on, moving, placed_is}
use Rattle.percpu.specs.Running.{Runs}
use Rattle.percpu.specs.declared.Runner.{Runner}
use Rattle.ticking.proofs.Ran.{there, runs_is, runs_on}
use Rattle.ticking.proofs.yield_cpu.Goals.{After-with_columns-runner, In_ok-plan}
use Rattle.ticking.proofs.yield_cpu.Goals as goal

-- ---- what was lent

module _ (c : After-with_columns-runner) where
  abbrev Lent : Machine → Type 0
  Lent m =
      let x = c.args in
      Lends m x.state.now x.policy.now x.prio.now x.cpu.now x.slice.now x.mask.now x.rows.now x.counts.now x.flags.now x.online
      (lent_record x.masks.now x.tallies.now x.words.now x.levels.now)

  -- what runs on the CPU
  runner : {m : Machine} → Lent m → c.args.n ≡ m.n → Runs m c.args.who c.with_columns-runner.result
  runner {m} l n =
      let o = c.with_columns-runner in
      runs_is l c.args.who o.result (o.ensures.task ∙ c.running-first.ensures m (lent_rows l n)) o.ensures.columns

-- ---- the plan

module _ (c : In_ok-plan) where
  abbrev q : Written
  q = c.in_ok-plan.plan

  ran : (r : Runner) × (c.with_columns-runner.result ≡ Some r) × (as_plan q ≡ reorder false r.task c.args.who (as_task r.columns))
  ran =
      let P : Runner → Type 0 = λ r. (as_plan q ≡ reorder false r.task c.args.who (as_task r.columns)) in
      there {P = P} c.with_columns-runner.result c.in_ok-plan.ensures.shaped

  shaped : as_plan q ≡ reorder false ran.0.task c.args.who (as_task ran.0.columns)
  shaped = ran.2

  shape : as_plan q ≡ reorder false q.task c.args.who (as_task q.becomes)
  shape = shaped ∙ ap (λ (p : Plan). reorder false p.task c.args.who p.becomes) (sym shaped)

  abbrev read : After-with_columns-runner
  read = (goal.at.In_ok-plan c).After-with_columns-runner

  module _ {m : Machine} (l : Lent read m) (n : c.args.n ≡ m.n) where
    placed : (a b k : ℕ) → Plans m (event 8 c.args.who a b k) q
    placed a b k =
        judged_by_kind m (event 8 c.args.who a b k) (λ done p. Places done m p) yield (Ok q) refl
        (c.in_ok-plan.ensures.decided m 8 a b k n l.holds.online (runner read l n))

    on : Runs m c.args.who (Some ran.0)
    on = subst (Runs m c.args.who) ran.1 (runner read l n)

    -- all columns are what they were
    becomes : as_task q.becomes ≡ task_of m q.task
    becomes = ap (λ (p : Plan). p.becomes) shaped ∙ on.columns ∙ ap (task_of m) (sym (ap (λ (p : Plan). p.task) shaped))

    state : c.args.state.now ≡ set m.state q.task q.becomes.state
    state = unchanged q.task l.holds.state (ap (λ (τ : Task). τ.state) becomes)

    prio : c.args.prio.now ≡ set m.prio q.task q.becomes.prio
    prio = unchanged q.task l.holds.prio (ap (λ (τ : Task). τ.prio) becomes)

    -- it runs there
    on_cpu : Running m q.task c.args.who (as_task q.becomes)
    on_cpu =
        runs_on on (ap (λ (p : Plan). p.task) shaped)
        refl (ap (λ (τ : Task). τ.state) becomes) (ap (λ (τ : Task). τ.prio) becomes)

    goes : let x = c.args in
        Moving m (reorder false q.task c.args.who (as_task q.becomes)) x.state.now x.prio.now x.cpu.now x.rows.now x.counts.now x.flags.now
        (lent_record x.masks.now x.tallies.now x.words.now x.levels.now)
    goes = moving l (event 8 c.args.who 0 0 0) q (placed 0 0 0) shape (ap (λ (τ : Task). τ.cpu) becomes) state prio

-- ---- the needs

pub running-first-requires : goal.running-first-requires
running-first-requires c = (c.requires.0, lent_rows c.requires.1.0 c.requires.1.1)

pub with_columns-runner-requires : goal.with_columns-runner-requires
with_columns-runner-requires c = let all = sized c.requires.1.0 in record {
  state_len = all.0;
  policy_len = all.1.0;
  prio_len = all.1.1.0;
  cpu_len = all.1.1.1.0;
  slice_len = all.1.1.1.1.0;
  mask_len = all.1.1.1.1.1;
}

pub yield_cpu-requires : goal.yield_cpu-requires
yield_cpu-requires c = few_cpus c.requires.1.0 c.requires.1.1

pub requeue-requires : goal.requeue-requires
requeue-requires c =
    let l = c.requires.1.0 in
    let n = c.requires.1.1 in
    let w = (goal.at.requeue-requires c).In_ok-plan in
    (c.requires.0, (as_task (q w).becomes, (goes w l n, on_cpu w l n)))

-- ---- what it leaves

pub returns-in_err-plan : goal.returns-in_err-plan
returns-in_err-plan c =
    λ m a b k l n.
    let e = event 8 c.args.who a b k in
    let x = c.in_err-plan.field-0.0 in
    passed_on l e x c.from_residual.result c.from_residual.ensures.1
    (judged_by_kind m e (λ done p. Places done m p) yield (Err x) refl
    (c.in_err-plan.ensures.decided m 8 a b k n l.holds.online (runner (goal.at.returns-in_err-plan c).After-with_columns-runner l n)))

pub returns : goal.returns
returns c =
    λ m a b k l n.
    let w = (goal.at.returns c).In_ok-plan in
    let t = (q w).task in
    let h = l.holds in
    let x = becomes w l n in
    placed_is l (event 8 c.args.who a b k) (q w) (placed w l n a b k) (shape w) (state w l n) (unchanged t h.policy (ap (λ (τ : Task). τ.policy) x))
    (prio w l n) (unchanged t h.slice (ap (λ (τ : Task). τ.slice) x)) (unchanged t h.mask (ap (λ (τ : Task). τ.mask) x))
    (c.requeue.ensures m (as_task (q w).becomes) (goes w l n) (on_cpu w l n))
