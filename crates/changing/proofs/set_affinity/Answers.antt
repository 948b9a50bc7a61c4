-- `changing::set_affinity` meets its contract.
-- Assumes nothing.
use mathlib.Core.Path.{◌≡◌, refl, sym, ap, ◌∙◌}
use Prim.Native.Nat.{ℕ}
use native.Mathlib.Omega.{arith}
use lib.ListN.{set}
use Rattle.levels.specs.Record.{lent_record}
use Rattle.std.specs.Prelude.{None, Some, Result, Ok, Err}
use Rattle.rules.specs.Machine.{Machine, Task, task_of}
use Rattle.rules.specs.Events.{event, effect, set_affinity}
use Rattle.rules.specs.Plan.{Plan, rewrite, shift, with_mask}
use Rattle.rules.specs.Refusals.{refusal}
use Rattle.rules.specs.declared.answer.Refusal.{Refusal}
use Rattle.plans.specs.Decided.{as_task, as_plan, Planned, PlannedAs, Places, Shifts}
use Rattle.plans.specs.declared.plan.Entry.{Entry}
use Rattle.plans.specs.declared.plan.Plan.{Plan as Written}
use Rattle.deciding.proofs.Deciding.{judged_by_kind}
use Rattle.queueing.specs.Moved.{Moving}
use Rattle.effect.specs.Effected.{Lends}
use Rattle.effect.proofs.Effects.{Plans, place_task, unchanged, written, sized, columns_are, named_is, few_cpus, passed_on, moving, placed_is, stays_in_row, changes_row, shifts_task}
use Rattle.changing.proofs.set_affinity.Goals.{Start, In_ok-plan}
use Rattle.changing.proofs.set_affinity.Goals as goal

-- ---- what was lent, and what was decided

module _ (c : Start) where
  abbrev Lent : Machine → Type 0
  Lent m =
      let x = c.args in
      Lends m x.state.now x.policy.now x.prio.now x.cpu.now x.slice.now x.mask.now x.rows.now x.counts.now x.flags.now x.online
      (lent_record x.masks.now x.tallies.now x.words.now x.levels.now)

  judged : (m : Machine) (a b : ℕ) (r : Result Written Refusal) → let e = event 6 c.args.who a b c.args.k in
      PlannedAs set_affinity m e r → Planned (refusal m e) (effect e m) m r
  judged m a b r h = judged_by_kind m (event 6 c.args.who a b c.args.k) (λ done p. Places done m p) set_affinity r refl h

-- ---- the plan

module _ (c : In_ok-plan) where
  abbrev q : Written
  q = c.in_ok-plan.plan

  abbrev home : ℕ
  home = c.task_at-named.result.cpu

  abbrev new : Task
  new = with_mask c.args.k (as_task c.task_at-named.result)

  shaped : Shifts c.args.who home new (as_plan q)
  shaped = c.in_ok-plan.ensures.shaped

  module _ {m : Machine} (l : Lent (goal.at.In_ok-plan c).Start m) (n : c.args.n ≡ m.n) where
    placed : (a b : ℕ) → Plans m (event 6 c.args.who a b c.args.k) q
    placed a b =
        judged (goal.at.In_ok-plan c).Start m a b (Ok q)
        (c.in_ok-plan.ensures.decided m 6 a b n l.holds.online (named_is l c.args.who c.task_at-named.ensures))

    -- the other columns are what they were
    becomes : as_task q.becomes ≡ with_mask c.args.k (task_of m q.task)
    becomes =
        let e = shifts_task q c.args.who home new shaped in
        e.1 ∙ ap (with_mask c.args.k) (columns_are l c.args.who c.task_at-named.ensures) ∙ ap (λ (t : ℕ). with_mask c.args.k (task_of m t)) (sym e.0)

    home_kept : q.becomes.cpu ≡ (task_of m q.task).cpu
    home_kept = ap (λ (τ : Task). τ.cpu) becomes

    state : c.args.state.now ≡ set m.state q.task q.becomes.state
    state = unchanged q.task l.holds.state (ap (λ (τ : Task). τ.state) becomes)

    policy : c.args.policy.now ≡ set m.policy q.task q.becomes.policy
    policy = unchanged q.task l.holds.policy (ap (λ (τ : Task). τ.policy) becomes)

    slice : c.args.slice.now ≡ set m.slice q.task q.becomes.slice
    slice = unchanged q.task l.holds.slice (ap (λ (τ : Task). τ.slice) becomes)

    prio : c.args.prio.now ≡ set m.prio q.task q.becomes.prio
    prio = unchanged q.task l.holds.prio (ap (λ (τ : Task). τ.prio) becomes)

    mask : set c.args.mask.now q.task q.becomes.mask ≡ set m.mask q.task q.becomes.mask
    mask = written q.task q.becomes.mask l.holds.mask

    abbrev Goes : Plan → Type 0
    Goes p =
        let x = c.args in
        Moving m p x.state.now x.prio.now x.cpu.now x.rows.now x.counts.now x.flags.now (lent_record x.masks.now x.tallies.now x.words.now x.levels.now)

    -- where it does not enter a row
    module _ (z : q.enters ≡ None) where
      there : as_plan q ≡ rewrite q.task (as_task q.becomes)
      there = stays_in_row q c.args.who home new shaped z

      stays : Goes (rewrite q.task (as_task q.becomes))
      stays = moving l (event 6 c.args.who 0 0 c.args.k) q (placed 0 0) there home_kept state prio

    -- and where it does
    module _ {to : Entry} (z : q.enters ≡ Some to) where
      elsewhere : as_plan q ≡ shift q.task home (as_task q.becomes) to.target
      elsewhere = changes_row q c.args.who home new shaped z

      goes : Goes (shift q.task home (as_task q.becomes) to.target)
      goes = moving l (event 6 c.args.who 0 0 c.args.k) q (placed 0 0) elsewhere home_kept state prio

-- ---- the needs

pub task_at-named-requires : goal.task_at-named-requires
task_at-named-requires c = let all = sized c.requires.1.0 in record {
  state_len = all.0;
  policy_len = all.1.0;
  prio_len = all.1.1.0;
  cpu_len = all.1.1.1.0;
  slice_len = all.1.1.1.1.0;
  mask_len = all.1.1.1.1.1;
}

pub set_affinity-requires : goal.set_affinity-requires
set_affinity-requires c =
    let l = c.requires.1.0 in record {
      n_le_cpu_places = few_cpus l c.requires.1.1;
      named = (c.requires.0, named_is l c.args.who c.task_at-named.ensures);
    }

pub bounds-mask-plan : goal.bounds-mask-plan
bounds-mask-plan c =
    let l = c.requires.1.0 in
    let w = (goal.at.bounds-mask-plan c).In_ok-plan in
    omega (arith, sized l, place_task c.requires.0 (event 6 c.args.who 0 0 c.args.k) (q w) (placed w l c.requires.1.1 0 0))

pub stay-requires : goal.stay-requires
stay-requires c =
    let w = (goal.at.stay-requires c).In_ok-plan in
    (c.requires.0, (as_task (q w).becomes, stays w c.requires.1.0 c.requires.1.1 c.in_default.is))

pub shift-requires : goal.shift-requires
shift-requires c =
    let w = (goal.at.shift-requires c).In_ok-plan in
    (c.requires.0, (as_task (q w).becomes, goes w c.requires.1.0 c.requires.1.1 c.in-Some.is))

-- ---- what it leaves

pub returns-in_err-plan : goal.returns-in_err-plan
returns-in_err-plan c =
    λ m a b l n.
    let x = c.in_err-plan.field-0.0 in
    passed_on l (event 6 c.args.who a b c.args.k) x c.from_residual.result c.from_residual.ensures.1
    (judged (goal.at.returns-in_err-plan c).Start m a b (Err x) (c.in_err-plan.ensures.decided m 6 a b n l.holds.online (named_is l c.args.who c.task_at-named.ensures)))

pub returns-in_default : goal.returns-in_default
returns-in_default c =
    λ m a b l n.
    let w = (goal.at.returns-in_default c).In_ok-plan in
    let z = c.in_default.is in
    placed_is l (event 6 c.args.who a b c.args.k) (q w) (placed w l n a b) (there w l n z) (state w l n) (policy w l n) (prio w l n) (slice w l n) (mask w l n)
    (c.stay.ensures m (as_task (q w).becomes) (stays w l n z))

pub returns : goal.returns
returns c =
    λ m a b l n.
    let w = (goal.at.returns c).In_ok-plan in
    let z = c.in-Some.is in
    placed_is l (event 6 c.args.who a b c.args.k) (q w) (placed w l n a b) (elsewhere w l n z) (state w l n) (policy w l n) (prio w l n) (slice w l n) (mask w l n)
    (c.shift.ensures m (as_task (q w).becomes) (goes w l n z))
