-- `changing::set_priority` meets its contract.
-- Assumes nothing.
use mathlib.Core.Path.{◌≡◌, refl, sym, ap, ◌∙◌, subst}
use Prim.Native.Nat.{ℕ}
use native.Mathlib.Omega.{arith}
use lib.ListN.{set}
use Rattle.levels.specs.Record.{lent_record}
use Rattle.std.specs.Prelude.{Option, None, Some, Result, Ok, Err, IfSome}
use Rattle.rules.specs.Machine.{Machine, Task, task_of}
use Rattle.rules.specs.Events.{event, effect, set_priority}
use Rattle.rules.specs.Plan.{Plan, rewrite, reorder, with_prio}
use Rattle.rules.specs.Refusals.{refusal}
use Rattle.rules.specs.declared.answer.Refusal.{Refusal}
use Rattle.plans.specs.Decided.{as_task, as_plan, PlannedOrNot, PlannedOrNotAs, PlacesOrNot, Reorders}
use Rattle.plans.specs.declared.plan.Entry.{Entry}
use Rattle.plans.specs.declared.plan.Plan.{Plan as Written}
use Rattle.deciding.proofs.Deciding.{judged_by_kind}
use Rattle.queueing.specs.Moved.{Moving}
use Rattle.effect.specs.Effected.{Lends}
use Rattle.effect.proofs.Effects.{Plans, place_task, unchanged, written, sized, columns_are, named_is, passed_on, nothing_is, moving, placed_is, stays_there, takes_place, reorders_task}
use Rattle.changing.proofs.set_priority.Goals.{Start, In-Some}
use Rattle.changing.proofs.set_priority.Goals as goal

-- ---- what was lent, and what was decided

module _ (c : Start) where
  abbrev Lent : Machine → Type 0
  Lent m =
      let x = c.args in
      Lends m x.state.now x.policy.now x.prio.now x.cpu.now x.slice.now x.mask.now x.rows.now x.counts.now x.flags.now m.online
      (lent_record x.masks.now x.tallies.now x.words.now x.levels.now)

  judged : (m : Machine) (a k : ℕ) (r : Result (Option Written) Refusal) → let e = event 5 c.args.who a c.args.b k in
      PlannedOrNotAs set_priority m e r → PlannedOrNot (refusal m e) (effect e m) m r
  judged m a k r h = judged_by_kind m (event 5 c.args.who a c.args.b k) (λ done o. PlacesOrNot done m o) set_priority r refl h

-- ---- the plan

module _ (c : In-Some) where
  abbrev q : Written
  q = c.in-Some.plan

  abbrev home : ℕ
  home = c.task_at-named.result.cpu

  abbrev new : Task
  new = with_prio c.args.b (as_task c.task_at-named.result)

  shaped : Reorders c.args.who home new (as_plan q)
  shaped = subst (λ (o : Option Written). IfSome o (λ p. Reorders c.args.who home new (as_plan p))) c.in-Some.is c.in_ok-plan.ensures.shaped

  module _ {m : Machine} (l : Lent (goal.at.In-Some c).Start m) where
    placed : (a k : ℕ) → Plans m (event 5 c.args.who a c.args.b k) q
    placed a k =
        let e = event 5 c.args.who a c.args.b k in
        subst (λ (o : Option Written). PlannedOrNot (refusal m e) (effect e m) m (Ok o)) c.in-Some.is
        (judged (goal.at.In-Some c).Start m a k (Ok c.in_ok-plan.field-0) (c.in_ok-plan.ensures.decided m 5 a k (named_is l c.args.who c.task_at-named.ensures)))

    -- the other columns are what they were
    becomes : as_task q.becomes ≡ with_prio c.args.b (task_of m q.task)
    becomes =
        let e = reorders_task q c.args.who home new shaped in
        e.1 ∙ ap (with_prio c.args.b) (columns_are l c.args.who c.task_at-named.ensures) ∙ ap (λ (t : ℕ). with_prio c.args.b (task_of m t)) (sym e.0)

    home_kept : q.becomes.cpu ≡ (task_of m q.task).cpu
    home_kept = ap (λ (τ : Task). τ.cpu) becomes

    state : c.args.state.now ≡ set m.state q.task q.becomes.state
    state = unchanged q.task l.holds.state (ap (λ (τ : Task). τ.state) becomes)

    policy : c.args.policy.now ≡ set m.policy q.task q.becomes.policy
    policy = unchanged q.task l.holds.policy (ap (λ (τ : Task). τ.policy) becomes)

    slice : c.args.slice.now ≡ set m.slice q.task q.becomes.slice
    slice = unchanged q.task l.holds.slice (ap (λ (τ : Task). τ.slice) becomes)

    mask : c.args.mask.now ≡ set m.mask q.task q.becomes.mask
    mask = unchanged q.task l.holds.mask (ap (λ (τ : Task). τ.mask) becomes)

    prio : set c.args.prio.now q.task q.becomes.prio ≡ set m.prio q.task q.becomes.prio
    prio = written q.task q.becomes.prio l.holds.prio

    abbrev Goes : Plan → Type 0
    Goes p =
        let x = c.args in
        Moving m p x.state.now (set x.prio.now q.task q.becomes.prio) x.cpu.now x.rows.now x.counts.now x.flags.now (lent_record x.masks.now x.tallies.now x.words.now x.levels.now)

    -- where it does not enter a row
    module _ (z : q.enters ≡ None) where
      there : as_plan q ≡ rewrite q.task (as_task q.becomes)
      there = stays_there q c.args.who home new shaped z

      stays : Goes (rewrite q.task (as_task q.becomes))
      stays = moving l (event 5 c.args.who 0 c.args.b 0) q (placed 0 0) there home_kept state prio

    -- and where it does
    module _ {to : Entry} (z : q.enters ≡ Some to) where
      elsewhere : as_plan q ≡ reorder to.front q.task to.target (as_task q.becomes)
      elsewhere = takes_place q c.args.who home new shaped z

      goes : Goes (reorder to.front q.task to.target (as_task q.becomes))
      goes = moving l (event 5 c.args.who 0 c.args.b 0) q (placed 0 0) elsewhere home_kept state prio

-- ---- the needs

pub task_at-named-requires : goal.task_at-named-requires
task_at-named-requires c = let all = sized c.requires.1 in record {
  state_len = all.0;
  policy_len = all.1.0;
  prio_len = all.1.1.0;
  cpu_len = all.1.1.1.0;
  slice_len = all.1.1.1.1.0;
  mask_len = all.1.1.1.1.1;
}

pub bounds-prio-plan : goal.bounds-prio-plan
bounds-prio-plan c =
    let l = c.requires.1 in
    let w = (goal.at.bounds-prio-plan c).In-Some in
    omega (arith, sized l, place_task c.requires.0 (event 5 c.args.who 0 c.args.b 0) (q w) (placed w l 0 0))

pub stay-requires : goal.stay-requires
stay-requires c =
    let w = (goal.at.stay-requires c).In-Some in
    (c.requires.0, (as_task (q w).becomes, stays w c.requires.1 c.in_default-enters.is))

pub reorder-requires : goal.reorder-requires
reorder-requires c =
    let w = (goal.at.reorder-requires c).In-Some in
    (c.requires.0, (as_task (q w).becomes, goes w c.requires.1 c.in-Some-enters.is))

-- ---- what it leaves

pub returns-in_err-plan : goal.returns-in_err-plan
returns-in_err-plan c =
    λ m a k l.
    let x = c.in_err-plan.field-0.0 in
    passed_on l (event 5 c.args.who a c.args.b k) x c.from_residual.result c.from_residual.ensures.1
    (judged (goal.at.returns-in_err-plan c).Start m a k (Err x) (c.in_err-plan.ensures.decided m 5 a k (named_is l c.args.who c.task_at-named.ensures)))

pub returns-in_default : goal.returns-in_default
returns-in_default c =
    λ m a k l.
    let e = event 5 c.args.who a c.args.b k in
    let d = subst (λ (o : Option Written). PlannedOrNot (refusal m e) (effect e m) m (Ok o)) c.in_default.is
    (judged (goal.at.returns-in_default c).Start m a k (Ok c.in_ok-plan.field-0) (c.in_ok-plan.ensures.decided m 5 a k (named_is l c.args.who c.task_at-named.ensures))) in
    nothing_is l e d.0 d.1

pub returns-in_default-enters : goal.returns-in_default-enters
returns-in_default-enters c =
    λ m a k l.
    let w = (goal.at.returns-in_default-enters c).In-Some in
    let z = c.in_default-enters.is in
    placed_is l (event 5 c.args.who a c.args.b k) (q w) (placed w l a k) (there w l z) (state w l) (policy w l) (prio w l) (slice w l) (mask w l)
    (c.stay.ensures m (as_task (q w).becomes) (stays w l z))

pub returns : goal.returns
returns c =
    λ m a k l.
    let w = (goal.at.returns c).In-Some in
    let z = c.in-Some-enters.is in
    placed_is l (event 5 c.args.who a c.args.b k) (q w) (placed w l a k) (elsewhere w l z) (state w l) (policy w l) (prio w l) (slice w l) (mask w l)
    (c.reorder.ensures m (as_task (q w).becomes) (goes w l z))
