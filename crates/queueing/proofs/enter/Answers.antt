-- `queueing::enter` meets its contract.
-- Assumes nothing.
use mathlib.Core.Path.{◌≡◌, refl, sym, ap, ◌∙◌}
use mathlib.Core.Bool.{Bool, false}
use mathlib.Core.Option.{Option}
use Prim.Native.Nat.{ℕ, ◌+◌, ◌*◌, ◌<◌}
use native.Mathlib.Omega.{arith}
use lib.ListN.{length, get_or}
use Rattle.rules.specs.Machine.{Machine, task_of, running, level, task_places}
use Rattle.rules.specs.Plan.{carried, enter}
use Rattle.laws.specs.Limited.{holds, or_nothing}
use Rattle.carrying.proofs.Placing.{leaves, enters, whole, follows_target, cpus_kept}
use Rattle.std.specs.Prelude as code
use Rattle.std.specs.Prelude.{None}
use Rattle.runqueue.specs.Row.{task_in}
use Rattle.hinting.specs.Hinted.{coded, candidates}
use Rattle.hinting.specs.Past.{new_since, fallen_since}
use Rattle.hinting.proofs.Lent.{seen, rows_long, first_is, new_waits, new_behind}
use Rattle.queueing.proofs.First.{entered_behind}
use Rattle.queueing.proofs.Going.{own, cpus_long, unfollowed, level_kept, state_is, cpu_entered, state_after, reading_now, in_rows, moved, not_running, was_idle}
use Rattle.queueing.proofs.enter.Goals.{After-enter}
use Rattle.queueing.proofs.enter.Goals as goal

-- it ran nowhere
since_none : (m b : Machine) (t d : ℕ) → holds (running m (task_of m t).cpu) t ≡ false → {new : code.Option ℕ} → new ≡ coded (new_since t d false b)
    → seen None new ≡ candidates (fallen_since (task_of m t).cpu (level m (task_of m t).cpu) (holds (running m (task_of m t).cpu) t) b)
    (new_since t (task_of m t).cpu (holds (running m (task_of m t).cpu) t) b)
since_none m b t d e is =
    ap (seen None) is
    ∙ ap (λ (ran : Bool). candidates (fallen_since (task_of m t).cpu (level m (task_of m t).cpu) ran b) (new_since t (task_of m t).cpu ran b)) (sym e)

-- the row of a CPU has two places and more
module _ (c : After-enter) where
  room : let k = c in (k.args.target * 512 + 1 < length k.enter.new.rows) × (k.args.target < 64)
  room =
      let k = c in
      let l = k.requires.1.1.0 in
      let o = (leaves (own l)).queues in
      let long = rows_long (reading_now l o (k.enter.ensures.queues _ (enters (own l) o l.prio)) k.enter.ensures.cpus_set) in
      (omega (arith, long, cpus_kept (own l), l.ready.enters.0), omega (arith, l.ready.enters.0, l.formed.shape.cpus))

pub enter-requires : goal.enter-requires
enter-requires c =
    let l = c.requires.1.1.0 in record {
      entering = (_, enters (own l) (leaves (own l)).queues l.prio);
      cpus_len = cpus_long l;
    }

pub returns-then-rows-target : goal.returns-then-rows-target
returns-then-rows-target c =
    λ m τ l s.
    let t = c.args.task in
    let d = c.args.target in
    let o = (leaves (own l)).queues in
    let e = c.enter.ensures.queues _ (enters (own l) o l.prio) in
    let in-cpu = c.enter.ensures.cpus_set in
    let a = reading_now l o e in-cpu in
    let h = l.ready.enters.0 in
    moved l o e in-cpu (unfollowed l)
    (level_kept l d h
    (entered_behind t τ m d (in_rows l d h) (λ q. c.if-rows-target.true (first_is a d (omega (arith, cpus_kept (own l), h)) ∙ ap (λ (x : Option ℕ). or_nothing x) q))))
    (since_none m (carried (enter t τ d) m) t d (not_running m t (task_of m t).cpu l.formed (was_idle l.ready.stays))
    (new_waits a (state_after l) t l.ready.task d false (state_is l ∙ s)
    (λ q. c.if-rows-target.true (ap (λ (x : ℕ). get_or c.enter.new.rows (x * task_places) 0) (sym (cpu_entered l in-cpu)) ∙ q))))

pub follow-requires : goal.follow-requires
follow-requires c =
    let l = c.requires.1.1.0 in
    let o = (leaves (own l)).queues in
    let e = c.enter.ensures.queues _ (enters (own l) o l.prio) in record {
      following = (_, (follows_target (own l) o l.prio e).may);
      whole = whole (own l);
    }

pub returns : goal.returns
returns c =
    λ m τ l s.
    let t = c.args.task in
    let d = c.args.target in
    let o = (leaves (own l)).queues in
    let e = c.enter.ensures.queues _ (enters (own l) o l.prio) in
    let in-cpu = c.enter.ensures.cpus_set in
    let a = reading_now l o e in-cpu in
    let here = cpu_entered l in-cpu in
    moved l o e in-cpu (unfollowed l) (c.follow.ensures _ (follows_target (own l) o l.prio e).may)
    (since_none m (carried (enter t τ d) m) t d (not_running m t (task_of m t).cpu l.formed (was_idle l.ready.stays))
    (c.task_in.ensures ∙ ap (λ (x : ℕ). task_in (get_or c.enter.new.rows (x * task_places + 1) 0)) (sym here)
    ∙ new_behind a (state_after l) t l.ready.task d false (state_is l ∙ s) (ap (λ (x : ℕ). get_or c.enter.new.rows (x * task_places) 0) here ∙ c.if-rows-target.false) refl))

pub bounds-rows-target : goal.bounds-rows-target
bounds-rows-target c = let r = room (goal.at.bounds-rows-target c).After-enter in omega (arith, r.0)

pub bounds-rows-target-2 : goal.bounds-rows-target-2
bounds-rows-target-2 c = let r = room (goal.at.bounds-rows-target-2 c).After-enter in omega (arith, r.0)
