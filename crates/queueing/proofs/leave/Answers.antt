-- `queueing::leave` meets its contract.
-- Assumes nothing.
use mathlib.Core.Path.{refl, sym, ap, ◌∙◌}
use mathlib.Core.Bool.{true, false}
use mathlib.Core.Option.{Option}
use Prim.Native.Nat.{◌*◌, ◌<◌}
use native.Mathlib.Omega.{arith}
use lib.ListN.{length}
use borrow.Author.Tests.{ne_eqb, eq-eqb}
use Rattle.laws.specs.Limited.{or_nothing}
use Rattle.laws.proofs.Apart.{in_row}
use Rattle.carrying.proofs.Placing.{leaves, enters, whole, follows_origin}
use Rattle.hinting.proofs.Lent.{rows_long, first_is, new_away, unlevelled}
use Rattle.queueing.proofs.First.{left_behind}
use Rattle.queueing.proofs.Going.{own, reading, unfollowed, after_own, level_kept, state_is, state_after, reading_after, reading_now, in_rows, few_since, moved}
use Rattle.queueing.proofs.leave.Goals.{Start}
use Rattle.queueing.proofs.leave.Goals as goal

module _ (c : Start) where
  room : (c.args.origin * 512 < length c.args.rows.now) × (c.args.origin < 64)
  room =
      let l = c.requires.1.1.0 in
      (omega (arith, rows_long (reading l), l.ready.leaves.0), omega (arith, l.ready.leaves.0, l.formed.shape.cpus))

pub leave-requires : goal.leave-requires
leave-requires c = let l = c.requires.1.1.0 in (_, leaves (own l))

pub returns-then-not-ran : goal.returns-then-not-ran
returns-then-not-ran c =
    λ m τ l s.
    let t = c.args.task in
    let d = c.args.origin in
    let h = l.ready.leaves in
    let o = c.leave.ensures _ (leaves (own l)) in
    let e = (enters (own l) o l.prio).queues in
    let no = c.if-not-ran.true in
    moved l o e refl
    (level_kept l d h.0
    (left_behind t τ m d (in_rows l d h.0) (λ q. no (first_is (reading l) d h.0 ∙ ap (λ (x : Option _). or_nothing x) q))))
    (unfollowed l)
    (few_since l d h.0 (in_row m t d l.formed h.1).1 (reading_now l o e refl) false (ne_eqb _ t no) refl
    (new_away (reading_now l o e refl) (state_after l) t l.ready.task d false (λ z. s (sym (state_is l) ∙ z))))

pub follow-requires : goal.follow-requires
follow-requires c =
    let l = c.requires.1.1.0 in
    let o = c.leave.ensures _ (leaves (own l)) in record {
      following = (_, (follows_origin (own l) o l.prio (enters (own l) o l.prio).queues).may);
      whole = whole (own l);
    }

pub returns : goal.returns
returns c =
    λ m τ l s.
    let t = c.args.task in
    let d = c.args.origin in
    let h = l.ready.leaves in
    let o = c.leave.ensures _ (leaves (own l)) in
    let e = (enters (own l) o l.prio).queues in
    let q = c.follow.ensures _ (follows_origin (own l) o l.prio e).may in
    let a = reading_after l o e refl q (after_own _ q) in
    moved l o e refl q (after_own _ q)
    (few_since l d h.0 (in_row m t d l.formed h.1).1 a true (eq-eqb _ t c.if-not-ran.false) c.then_some.ensures
    (new_away (unlevelled a) (state_after l) t l.ready.task d true (λ z. s (sym (state_is l) ∙ z))))

pub bounds-rows-origin : goal.bounds-rows-origin
bounds-rows-origin c = let r = room (goal.at.bounds-rows-origin c).Start in omega (arith, r.0)
