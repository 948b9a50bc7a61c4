-- `dispatch::rest` meets its contract.
-- Assumes nothing.
use mathlib.Core.Path.{◌≡◌, sym, ap, ◌∙◌, subst}
use Rattle.levels.specs.Record.{lent_record}
use Rattle.std.specs.Prelude.{Ok}
use Rattle.std.proofs.lemmas.Result.{err_from_is_err_and}
use Rattle.rules.specs.Machine.{Machine}
use Rattle.rules.specs.Events.{Event}
use Rattle.plans.specs.Decided.{as_event, did}
use Rattle.deciding.specs.Subject.{Decides}
use Rattle.hinting.specs.Past.{Standing, candidates_since}
use Rattle.hinting.specs.declared.past.Past.{Past}
use Rattle.effect.specs.Effected.{Lends}
use Rattle.effect.proofs.Effects.{refused_is}
use Rattle.dispatch.proofs.Decisions.{able}
use Rattle.dispatch.proofs.Dispatched.{lent_masks, lent_columns, reading, carriable, stands, reading_after, carried_is}
use Rattle.dispatch.proofs.rest.Goals.{In_ok-decision, Start}
use Rattle.dispatch.proofs.rest.Goals as goal

module _ (c : Start) where
  abbrev asked : Event
  asked = as_event c.args.event

  abbrev Lent : Machine → Type 0
  Lent m =
      let x = c.args in
      Lends m x.state.now x.policy.now x.prio.now x.cpu.now x.slice.now x.mask.now x.rows.now x.counts.now x.flags.now x.online.now (lent_record x.masks.now x.tallies.now x.words.now x.levels.now)

-- ---- what was decided

module _ (c : In_ok-decision) (m : Machine) (l : Lent (goal.at.In_ok-decision c).Start m) (n : c.args.n ≡ m.n) (f : c.args.full ≡ m.full) where
  right : let k = c in Decides m (asked (goal.at.In_ok-decision k).Start) (Ok k.in_ok-decision.decision)
  right = let k = c in k.in_ok-decision.ensures m (lent_columns l k.args.event.kind k.args.event.who n f (k.strands-stranding.ensures m (lent_masks l n)))

-- ---- the needs
pub strands-stranding-requires : goal.strands-stranding-requires
strands-stranding-requires c = (c.requires.lent.0, lent_masks c.requires.lent.1.0 c.requires.lent.1.1)

pub decide-requires : goal.decide-requires
decide-requires c =
    let p = c.requires.lent in
    let l = p.1.0 in
    let n = p.1.1 in record {
      rare = c.requires.rare;
      lent = (p.0, lent_columns l c.args.event.kind c.args.event.who n p.1.2 (c.strands-stranding.ensures p.0 (lent_masks l n)));
    }

pub returns-in_err-decision : goal.returns-in_err-decision
unfolding Decides
returns-in_err-decision c =
    λ m l n f.
    let e = asked (goal.at.returns-in_err-decision c).Start in
    let p = err_from_is_err_and c.from_residual.result c.from_residual.ensures.1 in
    rw (p.1, p.2)
    (refused_is l e (c.in_err-decision.ensures m (lent_columns l c.args.event.kind c.args.event.who n f (c.strands-stranding.ensures m (lent_masks l n)))))

pub remember-past-requires : goal.remember-past-requires
remember-past-requires c =
    let p = c.requires.lent in
    let l = p.1.0 in
    (p.0, (reading l, able p.0 (asked (goal.at.remember-past-requires c).Start) c.in_ok-decision.decision (right (goal.at.remember-past-requires c).In_ok-decision p.0 l p.1.1 p.1.2)))

pub carry_out-requires : goal.carry_out-requires
carry_out-requires c =
    let p = c.requires.lent in
    let l = p.1.0 in
    (p.0, carriable l (asked (goal.at.carry_out-requires c).Start) c.in_ok-decision.decision (right (goal.at.carry_out-requires c).In_ok-decision p.0 l p.1.1 p.1.2))

pub since-requires : goal.since-requires
since-requires c =
    let p = c.requires.lent in
    let m = p.0 in
    let l = p.1.0 in
    let e = asked (goal.at.since-requires c).Start in
    let d = c.in_ok-decision.decision in
    let ok = right (goal.at.since-requires c).In_ok-decision m l p.1.1 p.1.2 in
    let h = c.carry_out.ensures m (carriable l e d ok) in (
      did d m,
      (
        reading_after l e d ok h,
        h.state,
        subst (Standing (did d m)) (sym (c.remember-past.ensures m (reading l))) (stands l e d ok),
      ),
    )

pub returns : goal.returns
returns c =
    λ m l n f.
    let e = asked (goal.at.returns c).Start in
    let d = c.in_ok-decision.decision in
    let ok = right (goal.at.returns c).In_ok-decision m l n f in
    let h = c.carry_out.ensures m (carriable l e d ok) in
    let is = c.remember-past.ensures m (reading l) in
    carried_is l e d ok h
    (c.since.ensures (did d m) (reading_after l e d ok h) h.state (subst (Standing (did d m)) (sym is) (stands l e d ok))
    ∙ ap (λ (s : Past). candidates_since s (did d m)) is)
