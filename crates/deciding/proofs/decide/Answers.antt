-- `deciding::decide` meets its contract: each arm by its kind's contract.
-- Assumes nothing.
use mathlib.Core.Path.{ap, subst, sym}
use Prim.Native.Nat.{ℕ, ◌≤◌}
use Rattle.std.proofs.lemmas.Result.{err_from_is_err_and}
use Rattle.rules.specs.Machine.{cpu_places}
use Rattle.rules.specs.Events.{Event, kind_of, add, remove, set_ordinary, take_offline, bring_online}
use Rattle.plans.specs.Decided.{as_event}
use Rattle.deciding.proofs.Deciding.{by_kind_lem, unknown, unnamed, sized, named, strands_is}
use Rattle.deciding.proofs.decide.Goals.{Start}
use Rattle.deciding.proofs.decide.Goals as goal

module _ (c : Start) where
  abbrev asked : Event
  asked = as_event c.args.event

  few_cpus : c.args.n ≤ cpu_places
  few_cpus = subst (λ (x : ℕ). x ≤ cpu_places) (sym c.requires.lent.1.cpus) c.requires.lent.1.formed.shape.cpus

pub task_at-task-requires : goal.task_at-task-requires
task_at-task-requires c = let all = sized c.requires.lent.1 in record {
  state_len = all.0;
  policy_len = all.1.0;
  prio_len = all.1.1.0;
  cpu_len = all.1.1.1.0;
  slice_len = all.1.1.1.1.0;
  mask_len = all.1.1.1.1.1;
}

pub add-requires : goal.add-requires
add-requires c = few_cpus (goal.at.add-requires c).Start

pub take_offline-requires : goal.take_offline-requires
take_offline-requires c = few_cpus (goal.at.take_offline-requires c).Start

pub bring_online-requires : goal.bring_online-requires
bring_online-requires c = few_cpus (goal.at.bring_online-requires c).Start

pub returns-in_ok-add-in-1 : goal.returns-in_ok-add-in-1
returns-in_ok-add-in-1 c =
    λ m l.
    let x = c.args.event in
    by_kind_lem m (asked (goal.at.returns-in_ok-add-in-1 c).Start) add _ (ap kind_of c.in-1.is)
    (c.in_ok-add-in-1.ensures m x.kind l.cpus l.ticks (named l c.task_at-task.ensures))

pub returns-in_err-add-in-1 : goal.returns-in_err-add-in-1
returns-in_err-add-in-1 c =
    λ m l.
    let x = c.args.event in
    let p = err_from_is_err_and c.from_residual.result c.from_residual.ensures.1 in
    rw (p.1, p.2)
    (by_kind_lem m (asked (goal.at.returns-in_err-add-in-1 c).Start) add _ (ap kind_of c.in-1.is)
    (c.in_err-add-in-1.ensures m x.kind l.cpus l.ticks (named l c.task_at-task.ensures)))

pub returns-in_ok-remove-in-2 : goal.returns-in_ok-remove-in-2
returns-in_ok-remove-in-2 c =
    λ m l.
    let x = c.args.event in
    by_kind_lem m (asked (goal.at.returns-in_ok-remove-in-2 c).Start) remove _ (ap kind_of c.in-2.is)
    (c.in_ok-remove-in-2.ensures m x.kind x.a x.b x.mask (named l c.task_at-task.ensures))

pub returns-in_err-remove-in-2 : goal.returns-in_err-remove-in-2
returns-in_err-remove-in-2 c =
    λ m l.
    let x = c.args.event in
    let p = err_from_is_err_and c.from_residual-in_err-remove-in-2.result c.from_residual-in_err-remove-in-2.ensures.1 in
    rw (p.1, p.2)
    (by_kind_lem m (asked (goal.at.returns-in_err-remove-in-2 c).Start) remove _ (ap kind_of c.in-2.is)
    (c.in_err-remove-in-2.ensures m x.kind x.a x.b x.mask (named l c.task_at-task.ensures)))

pub returns-in-9 : goal.returns-in-9
returns-in-9 c =
    λ m l.
    let x = c.args.event in
    by_kind_lem m (asked (goal.at.returns-in-9 c).Start) set_ordinary _ (ap kind_of c.in-9.is)
    (c.set_ordinary.ensures m x.kind x.a x.mask l.cpus)

pub returns-in-10 : goal.returns-in-10
returns-in-10 c =
    λ m l.
    let x = c.args.event in
    by_kind_lem m (asked (goal.at.returns-in-10 c).Start) take_offline _ (ap kind_of c.in-10.is)
    (c.take_offline.ensures m x.kind x.a x.b x.mask l.cpus l.online (strands_is l c.in-10.is))

pub returns-in-11 : goal.returns-in-11
returns-in-11 c =
    λ m l.
    let x = c.args.event in
    by_kind_lem m (asked (goal.at.returns-in-11 c).Start) bring_online _ (ap kind_of c.in-11.is)
    (c.bring_online.ensures m x.kind x.a x.b x.mask l.cpus l.online)

pub returns-in_default : goal.returns-in_default
returns-in_default c =
    λ m l.
    let r = c.before.in_default.in_default-own.rest in
    unknown m (asked (goal.at.returns-in_default c).Start)
    (let q = c.requires.rare in
    unnamed c.args.event.kind r.0.0.0.0.1 r.0.0.0.1 q.wake q.sleep q.set_priority q.set_affinity q.tick q.yield r.0.0.1 r.0.1 r.1)
