-- `waking::wake` meets its contract.
-- Assumes nothing.
use mathlib.Core.Path.{◌≡◌, refl, sym, ap, ◌∙◌}
use Prim.Native.Nat.{ℕ}
use native.Mathlib.Omega.{arith}
use lib.ListN.{set}
use Rattle.levels.specs.Record.{lent_record}
use Rattle.std.specs.Prelude.{Option, Some, Ok, Err}
use Rattle.rules.specs.Machine.{Machine, Task, task_of, runnable}
use Rattle.rules.specs.Events.{event, wake}
use Rattle.rules.specs.Plan.{Plan, enter, with_state}
use Rattle.plans.specs.Decided.{as_task, as_plan, Places}
use Rattle.plans.specs.declared.plan.Entry.{Entry}
use Rattle.plans.specs.declared.plan.Plan.{Plan as Written}
use Rattle.deciding.proofs.Deciding.{judged_by_kind}
use Rattle.queueing.specs.Moved.{Moving}
use Rattle.effect.specs.Effected.{Lends}
use Rattle.effect.proofs.Effects.{Plans, place_task, unchanged, written, sized, columns_are, named_is, passed_on, moving, placed_is, target_of}
use Rattle.waking.proofs.wake.Goals.{In_ok-plan}
use Rattle.waking.proofs.wake.Goals as goal

-- ---- the plan

module _ (c : In_ok-plan) where
  abbrev q : Written
  q = c.in_ok-plan.plan

  shaped : (d : ℕ) × (as_plan q ≡ enter c.args.who (with_state runnable (as_task c.task_at-named.result)) d)
  shaped = c.in_ok-plan.ensures.shaped

  shape : {n : Entry} → q.enters ≡ Some n → as_plan q ≡ enter q.task (as_task q.becomes) n.target
  shape z =
      shaped.1 ∙ ap (λ (p : Plan). enter p.task p.becomes p.target) (sym shaped.1)
      ∙ ap (λ (o : Option Entry). enter q.task (as_task q.becomes) (target_of o)) z

  abbrev Lent : Machine → Type 0
  Lent m =
      let x = c.args in
      Lends m x.state.now x.policy.now x.prio.now x.cpu.now x.slice.now x.mask.now x.rows.now x.counts.now x.flags.now x.online
      (lent_record x.masks.now x.tallies.now x.words.now x.levels.now)

  module _ {m : Machine} (l : Lent m) where
    placed : (a b k : ℕ) → Plans m (event 3 c.args.who a b k) q
    placed a b k =
        judged_by_kind m (event 3 c.args.who a b k) (λ done p. Places done m p) wake (Ok q) refl
        (c.in_ok-plan.ensures.decided m 3 a b k l.holds.online (named_is l c.args.who c.task_at-named.ensures))

    -- the other columns are what they were
    becomes : as_task q.becomes ≡ with_state runnable (task_of m q.task)
    becomes =
        ap (λ (p : Plan). p.becomes) shaped.1 ∙ ap (with_state runnable) (columns_are l c.args.who c.task_at-named.ensures)
        ∙ ap (λ (t : ℕ). with_state runnable (task_of m t)) (sym (ap (λ (p : Plan). p.task) shaped.1))

    prio : c.args.prio.now ≡ set m.prio q.task q.becomes.prio
    prio = unchanged q.task l.holds.prio (ap (λ (τ : Task). τ.prio) becomes)

    goes : {n : Entry} → q.enters ≡ Some n → let x = c.args in
        Moving m (enter q.task (as_task q.becomes) n.target) (set x.state.now q.task q.becomes.state) x.prio.now x.cpu.now x.rows.now
        x.counts.now x.flags.now (lent_record x.masks.now x.tallies.now x.words.now x.levels.now)
    goes z =
        moving l (event 3 c.args.who 0 0 0) q (placed 0 0 0) (shape z) (ap (λ (τ : Task). τ.cpu) becomes)
        (written q.task q.becomes.state l.holds.state) prio

-- ---- the needs

pub task_at-named-requires : goal.task_at-named-requires
task_at-named-requires c = let all = sized c.requires.1 in record {
  state_len = all.0;
  policy_len = all.1.0;
  prio_len = all.1.1.0;
  cpu_len = all.1.1.1.0;
  slice_len = all.1.1.1.1.0;
  mask_len = all.1.1.1.1.1;
}

pub wake-requires : goal.wake-requires
wake-requires c = (c.requires.0, named_is c.requires.1 c.args.who c.task_at-named.ensures)

pub bounds-state-plan : goal.bounds-state-plan
bounds-state-plan c =
    let l = c.requires.1 in
    let w = (goal.at.bounds-state-plan c).In_ok-plan in
    omega (arith, (sized l).0, place_task c.requires.0 (event 3 c.args.who 0 0 0) (q w) (placed w l 0 0 0))

pub enter-requires : goal.enter-requires
enter-requires c =
    let l = c.requires.1 in
    let w = (goal.at.enter-requires c).In_ok-plan in
    (c.requires.0, (as_task (q w).becomes, (goes w l c.unwrap.ensures, ap (λ (τ : Task). τ.state) (becomes w l))))

-- ---- what it leaves

pub returns-in_err-plan : goal.returns-in_err-plan
returns-in_err-plan c =
    λ m a b k l.
    let e = event 3 c.args.who a b k in
    passed_on l e _ c.from_residual.result c.from_residual.ensures.1
    (judged_by_kind m e (λ done p. Places done m p) wake (Err c.in_err-plan.field-0.0) refl
    (c.in_err-plan.ensures.decided m 3 a b k l.holds.online (named_is l c.args.who c.task_at-named.ensures)))

pub returns : goal.returns
returns c =
    λ m a b k l.
    let w = (goal.at.returns c).In_ok-plan in
    let t = (q w).task in
    let h = l.holds in
    let x = becomes w l in
    placed_is l (event 3 c.args.who a b k) (q w) (placed w l a b k) (shape w c.unwrap.ensures) (written t (q w).becomes.state h.state)
    (unchanged t h.policy (ap (λ (τ : Task). τ.policy) x)) (prio w l) (unchanged t h.slice (ap (λ (τ : Task). τ.slice) x))
    (unchanged t h.mask (ap (λ (τ : Task). τ.mask) x))
    (c.enter.ensures m (as_task (q w).becomes) (goes w l c.unwrap.ensures) (ap (λ (τ : Task). τ.state) x))
