-- `ticking::tick` meets its contract.
-- Assumes nothing.
use mathlib.Core.Bool.{false}
use mathlib.Core.Path.{◌≡◌, refl, sym, ap, ◌∙◌, subst}
use Prim.Native.Nat.{ℕ}
use native.Mathlib.Omega.{arith}
use lib.ListN.{set}
use Rattle.levels.specs.Record.{lent_record}
use Rattle.std.specs.Prelude.{Option, Some, Result, Ok, Err, IfSome, IsSomeAnd}
use Rattle.rules.specs.Machine.{Machine, Task, task_of}
use Rattle.rules.specs.Events.{event, effect, tick}
use Rattle.rules.specs.Plan.{reorder, with_slice}
use Rattle.rules.specs.Refusals.{refusal}
use Rattle.rules.specs.declared.answer.Refusal.{Refusal}
use Rattle.plans.specs.Decided.{as_task, as_plan, PlannedOrNot, PlannedOrNotAs, PlacesOrNot, Requeues}
use Rattle.plans.specs.declared.plan.Entry.{Entry}
use Rattle.plans.specs.declared.plan.Plan.{Plan as Written}
use Rattle.deciding.proofs.Deciding.{judged_by_kind}
use Rattle.queueing.specs.Moved.{Moving, Running}
use Rattle.effect.specs.Effected.{Lends}
use Rattle.effect.proofs.Effects.{Plans, place_task, unchanged, written, sized, lent_rows, few_cpus, passed_on, nothing_is, sliced_is, moving, placed_is, stays_first, goes_behind, requeues_task}
use Rattle.percpu.specs.Running.{Runs}
use Rattle.percpu.specs.declared.Runner.{Runner}
use Rattle.ticking.proofs.Ran.{there, runs_is, runs_on}
use Rattle.ticking.proofs.tick.Goals.{After-with_columns-runner, In-Some}
use Rattle.ticking.proofs.tick.Goals as goal

-- ---- what was lent, and what was decided

module _ (c : After-with_columns-runner) where
  abbrev Lent : Machine → Type 0
  Lent m =
      let x = c.args in
      Lends m x.state.now x.policy.now x.prio.now x.cpu.now x.slice.now x.mask.now x.rows.now x.counts.now x.flags.now x.online
      (lent_record x.masks.now x.tallies.now x.words.now x.levels.now)

  -- what runs on the CPU
  runner : {m : Machine} → Lent m → c.args.n ≡ m.n → Runs m c.args.who c.with_columns-runner.result
  runner {m} l n =
      let o = c.with_columns-runner in
      runs_is l c.args.who o.result (o.ensures.task ∙ c.running-first.ensures m (lent_rows l n)) o.ensures.columns

  judged : (m : Machine) (a b k : ℕ) (r : Result (Option Written) Refusal) → let e = event 7 c.args.who a b k in
      PlannedOrNotAs tick m e r → PlannedOrNot (refusal m e) (effect e m) m r
  judged m a b k r h = judged_by_kind m (event 7 c.args.who a b k) (λ done o. PlacesOrNot done m o) tick r refl h

-- ---- the plan

module _ (c : In-Some) where
  abbrev q : Written
  q = c.in-Some.plan

  ran : (r : Runner) × (c.with_columns-runner.result ≡ Some r) × ((s : ℕ) × Requeues r.task c.args.who (with_slice s (as_task r.columns)) (as_plan q))
  ran =
      let P : Runner → Type 0 = λ r. ((s : ℕ) × Requeues r.task c.args.who (with_slice s (as_task r.columns)) (as_plan q)) in
      there {P = P} c.with_columns-runner.result
      (subst (λ (o : Option Written). IfSome o (λ p. IsSomeAnd c.with_columns-runner.result
      (λ r. ((s : ℕ) × Requeues r.task c.args.who (with_slice s (as_task r.columns)) (as_plan p))))) c.in-Some.is c.in_ok-plan.ensures.shaped)

  abbrev who : Runner
  who = ran.0

  abbrev left : ℕ
  left = ran.2.0

  abbrev new : Task
  new = with_slice left (as_task who.columns)

  abbrev read : After-with_columns-runner
  read = (goal.at.In-Some c).After-with_columns-runner

  module _ {m : Machine} (l : Lent read m) (n : c.args.n ≡ m.n) (f : c.args.full ≡ m.full) where
    placed : (a b k : ℕ) → Plans m (event 7 c.args.who a b k) q
    placed a b k =
        let e = event 7 c.args.who a b k in
        subst (λ (o : Option Written). PlannedOrNot (refusal m e) (effect e m) m (Ok o)) c.in-Some.is
        (judged read m a b k (Ok c.in_ok-plan.field-0) (c.in_ok-plan.ensures.decided m 7 a b k n l.holds.online f (runner read l n)))

    on : Runs m c.args.who (Some who)
    on = subst (Runs m c.args.who) ran.1 (runner read l n)

    -- the other columns are what they were
    becomes : as_task q.becomes ≡ with_slice left (task_of m q.task)
    becomes =
        let e = requeues_task q who.task c.args.who new ran.2.1 in
        e.1 ∙ ap (with_slice left) on.columns ∙ ap (λ (t : ℕ). with_slice left (task_of m t)) (sym e.0)

    state : c.args.state.now ≡ set m.state q.task q.becomes.state
    state = unchanged q.task l.holds.state (ap (λ (τ : Task). τ.state) becomes)

    prio : c.args.prio.now ≡ set m.prio q.task q.becomes.prio
    prio = unchanged q.task l.holds.prio (ap (λ (τ : Task). τ.prio) becomes)

    -- where it enters a row: behind its equals where it runs
    module _ {to : Entry} (z : q.enters ≡ Some to) where
      behind : as_plan q ≡ reorder false q.task to.target (as_task q.becomes)
      behind = (goes_behind q who.task c.args.who new ran.2.1 z).0

      on_cpu : Running m q.task to.target (as_task q.becomes)
      on_cpu =
          runs_on on (requeues_task q who.task c.args.who new ran.2.1).0
          (goes_behind q who.task c.args.who new ran.2.1 z).1 (ap (λ (τ : Task). τ.state) becomes) (ap (λ (τ : Task). τ.prio) becomes)

      goes : let x = c.args in
          Moving m (reorder false q.task to.target (as_task q.becomes)) x.state.now x.prio.now x.cpu.now x.rows.now x.counts.now x.flags.now
          (lent_record x.masks.now x.tallies.now x.words.now x.levels.now)
      goes = moving l (event 7 c.args.who 0 0 0) q (placed 0 0 0) behind (ap (λ (τ : Task). τ.cpu) becomes) state prio

-- ---- the needs

pub running-first-requires : goal.running-first-requires
running-first-requires c = (c.requires.0, lent_rows c.requires.1.0 c.requires.1.1)

pub with_columns-runner-requires : goal.with_columns-runner-requires
with_columns-runner-requires c = let all = sized c.requires.1.0 in record {
  state_len = all.0;
  policy_len = all.1.0;
  prio_len = all.1.1.0;
  cpu_len = all.1.1.1.0;
  slice_len = all.1.1.1.1.0;
  mask_len = all.1.1.1.1.1;
}

pub tick-requires : goal.tick-requires
tick-requires c = few_cpus c.requires.1.0 c.requires.1.1

pub bounds-slice-plan : goal.bounds-slice-plan
bounds-slice-plan c =
    let r = c.requires.1 in
    let w = (goal.at.bounds-slice-plan c).In-Some in
    omega (arith, sized r.0, place_task c.requires.0 (event 7 c.args.who 0 0 0) (q w) (placed w r.0 r.1 r.2 0 0 0))

pub requeue-requires : goal.requeue-requires
requeue-requires c =
    let r = c.requires.1 in
    let w = (goal.at.requeue-requires c).In-Some in
    let z = c.in-Some-enters.is in
    (c.requires.0, (as_task (q w).becomes, (goes w r.0 r.1 r.2 z, on_cpu w r.0 r.1 r.2 z)))

-- ---- what it leaves

pub returns-in_err-plan : goal.returns-in_err-plan
returns-in_err-plan c =
    λ m a b k l n f.
    let x = c.in_err-plan.field-0.0 in
    let read = (goal.at.returns-in_err-plan c).After-with_columns-runner in
    passed_on l (event 7 c.args.who a b k) x c.from_residual.result c.from_residual.ensures.1
    (judged read m a b k (Err x) (c.in_err-plan.ensures.decided m 7 a b k n l.holds.online f (runner read l n)))

pub returns-in_default : goal.returns-in_default
returns-in_default c =
    λ m a b k l n f.
    let e = event 7 c.args.who a b k in
    let read = (goal.at.returns-in_default c).After-with_columns-runner in
    let d = subst (λ (o : Option Written). PlannedOrNot (refusal m e) (effect e m) m (Ok o)) c.in_default.is
    (judged read m a b k (Ok c.in_ok-plan.field-0) (c.in_ok-plan.ensures.decided m 7 a b k n l.holds.online f (runner read l n))) in
    nothing_is l e d.0 d.1

pub returns-in_default-enters : goal.returns-in_default-enters
returns-in_default-enters c =
    λ m a b k l n f.
    let w = (goal.at.returns-in_default-enters c).In-Some in
    sliced_is l (event 7 c.args.who a b k) (q w) (left w) (placed w l n f a b k)
    (stays_first (q w) (who w).task c.args.who (new w) (ran w).2.1 c.in_default-enters.is) (becomes w l n f)
    (written (q w).task (q w).becomes.slice l.holds.slice)

pub returns : goal.returns
returns c =
    λ m a b k l n f.
    let w = (goal.at.returns c).In-Some in
    let z = c.in-Some-enters.is in
    let t = (q w).task in
    let h = l.holds in
    let x = becomes w l n f in
    placed_is l (event 7 c.args.who a b k) (q w) (placed w l n f a b k) (behind w l n f z) (state w l n f)
    (unchanged t h.policy (ap (λ (τ : Task). τ.policy) x)) (prio w l n f) (written t (q w).becomes.slice h.slice)
    (unchanged t h.mask (ap (λ (τ : Task). τ.mask) x)) (c.requeue.ensures m (as_task (q w).becomes) (goes w l n f z) (on_cpu w l n f z))
