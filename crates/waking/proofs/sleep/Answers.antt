-- `waking::sleep` meets its contract.
-- Assumes nothing.
use mathlib.Core.Path.{◌≡◌, refl, sym, ap, ◌∙◌}
use mathlib.Core.Logic.{◌≢◌}
use Prim.Native.Nat.{ℕ}
use native.Mathlib.Omega.{arith}
use lib.ListN.{set}
use Rattle.levels.specs.Record.{lent_record}
use Rattle.std.specs.Prelude.{Ok, Err}
use Rattle.rules.specs.Machine.{Machine, Task, task_of, asleep, runnable}
use Rattle.rules.specs.Events.{event, sleep}
use Rattle.rules.specs.Plan.{Plan, leave, with_state}
use Rattle.plans.specs.Decided.{as_task, as_plan, Places}
use Rattle.plans.specs.declared.plan.Plan.{Plan as Written}
use Rattle.deciding.proofs.Deciding.{judged_by_kind}
use Rattle.queueing.specs.Moved.{Moving}
use Rattle.effect.specs.Effected.{Lends}
use Rattle.effect.proofs.Effects.{Plans, place_task, unchanged, written, sized, columns_are, named_is, passed_on, moving, placed_is}
use Rattle.waking.proofs.sleep.Goals.{In_ok-plan}
use Rattle.waking.proofs.sleep.Goals as goal

not_runnable : {s : ℕ} → s ≡ asleep → s ≢ runnable
not_runnable e z = omega arith

-- ---- the plan

module _ (c : In_ok-plan) where
  abbrev q : Written
  q = c.in_ok-plan.plan

  shaped : as_plan q ≡ leave c.args.who c.task_at-named.result.cpu (with_state asleep (as_task c.task_at-named.result))
  shaped = c.in_ok-plan.ensures.shaped

  shape : as_plan q ≡ leave q.task c.task_at-named.result.cpu (as_task q.becomes)
  shape = shaped ∙ ap (λ (p : Plan). leave p.task c.task_at-named.result.cpu p.becomes) (sym shaped)

  abbrev Lent : Machine → Type 0
  Lent m =
      let x = c.args in
      Lends m x.state.now x.policy.now x.prio.now x.cpu.now x.slice.now x.mask.now x.rows.now x.counts.now x.flags.now m.online
      (lent_record x.masks.now x.tallies.now x.words.now x.levels.now)

  module _ {m : Machine} (l : Lent m) where
    placed : (a b k : ℕ) → Plans m (event 4 c.args.who a b k) q
    placed a b k =
        judged_by_kind m (event 4 c.args.who a b k) (λ done p. Places done m p) sleep (Ok q) refl
        (c.in_ok-plan.ensures.decided m 4 a b k (named_is l c.args.who c.task_at-named.ensures))

    -- the other columns are what they were
    becomes : as_task q.becomes ≡ with_state asleep (task_of m q.task)
    becomes =
        ap (λ (p : Plan). p.becomes) shaped ∙ ap (with_state asleep) (columns_are l c.args.who c.task_at-named.ensures)
        ∙ ap (λ (t : ℕ). with_state asleep (task_of m t)) (sym (ap (λ (p : Plan). p.task) shaped))

    prio : c.args.prio.now ≡ set m.prio q.task q.becomes.prio
    prio = unchanged q.task l.holds.prio (ap (λ (τ : Task). τ.prio) becomes)

    goes : let x = c.args in
        Moving m (leave q.task c.task_at-named.result.cpu (as_task q.becomes)) (set x.state.now q.task q.becomes.state) x.prio.now x.cpu.now x.rows.now
        x.counts.now x.flags.now (lent_record x.masks.now x.tallies.now x.words.now x.levels.now)
    goes =
        moving l (event 4 c.args.who 0 0 0) q (placed 0 0 0) shape (ap (λ (τ : Task). τ.cpu) becomes)
        (written q.task q.becomes.state l.holds.state) prio

-- ---- the needs

pub task_at-named-requires : goal.task_at-named-requires
task_at-named-requires c = let all = sized c.requires.1 in record {
  state_len = all.0;
  policy_len = all.1.0;
  prio_len = all.1.1.0;
  cpu_len = all.1.1.1.0;
  slice_len = all.1.1.1.1.0;
  mask_len = all.1.1.1.1.1;
}

pub bounds-state-plan : goal.bounds-state-plan
bounds-state-plan c =
    let l = c.requires.1 in
    let w = (goal.at.bounds-state-plan c).In_ok-plan in
    omega (arith, (sized l).0, place_task c.requires.0 (event 4 c.args.who 0 0 0) (q w) (placed w l 0 0 0))

pub leave-requires : goal.leave-requires
leave-requires c =
    let l = c.requires.1 in
    let w = (goal.at.leave-requires c).In_ok-plan in
    (c.requires.0, (as_task (q w).becomes, (goes w l, not_runnable (ap (λ (τ : Task). τ.state) (becomes w l)))))

-- ---- what it leaves

pub returns-in_err-plan : goal.returns-in_err-plan
returns-in_err-plan c =
    λ m a b k l.
    let e = event 4 c.args.who a b k in
    passed_on l e _ c.from_residual.result c.from_residual.ensures.1
    (judged_by_kind m e (λ done p. Places done m p) sleep (Err c.in_err-plan.field-0.0) refl
    (c.in_err-plan.ensures.decided m 4 a b k (named_is l c.args.who c.task_at-named.ensures)))

pub returns : goal.returns
returns c =
    λ m a b k l.
    let w = (goal.at.returns c).In_ok-plan in
    let t = (q w).task in
    let h = l.holds in
    let x = becomes w l in
    placed_is l (event 4 c.args.who a b k) (q w) (placed w l a b k) (shape w) (written t (q w).becomes.state h.state)
    (unchanged t h.policy (ap (λ (τ : Task). τ.policy) x)) (prio w l) (unchanged t h.slice (ap (λ (τ : Task). τ.slice) x))
    (unchanged t h.mask (ap (λ (τ : Task). τ.mask) x))
    (c.leave.ensures m (as_task (q w).becomes) (goes w l) (not_runnable (ap (λ (τ : Task). τ.state) x)))
