-- `rowcheck::row::row_fits` meets its contract. Assumes nothing.
use mathlib.Core.Path.{◌≡◌, sym, subst}
use mathlib.Core.Bool.{true, ◌&&◌}
use native.Mathlib.Omega.{arith}
use borrow.Author.Tests.{leb-true, le-leb}
use lib.Dec.{leb}
use lib.Seq.{get_or-take, length-take-le}
use Prim.Native.Nat.{ℕ, ◌<◌}
use Rattle.bits.proofs.Tests.{and_both}
use Rattle.laws.proofs.Bools.{both}
use Rattle.rowcheck.proofs.Saying.{say, yes, no, said, never}
use Rattle.rowcheck.proofs.row.row_fits.Goals as goal

pub returns-then-k-gt-PLACES : goal.returns-then-k-gt-PLACES
returns-then-k-gt-PLACES c = record {
  says = λ p. let m = p.0.most in omega arith;
  marks = λ e. never e;
}

pub returns-then-not-tasks_stand : goal.returns-then-not-tasks_stand
returns-then-not-tasks_stand c =
    let t = c.tasks_stand in record {
      says = λ p. no t.result t.ensures.says c.if-not-tasks_stand.true (p.0.tasks, p.1);
      marks = λ e. never e;
    }

pub level_fits-requires : goal.level_fits-requires
level_fits-requires c =
    let t = c.tasks_stand in
    let good = yes t.result t.ensures.says c.if-not-tasks_stand.false in record {
      prio_len = omega arith;
      task_numbers = λ i h.
          let inside : i < c.args.count = omega (arith, length-take-le c.args.count c.args.row.now (omega arith)) in
          subst (λ (u : ℕ). u < 512) (sym (get_or-take c.args.count c.args.row.now i 0 inside)) (good.0 i inside).number;
    }

pub returns : goal.returns
returns c =
    let a = c.args in
    let t = c.tasks_stand in
    let u = c.unused in
    let l = c.level_fits in
    let ok : t.result ≡ true = c.if-not-tasks_stand.false in
    let good = yes t.result t.ensures.says ok in record {
      says = say (u.result && leb a.flag 1 && l.result)
          (λ e.
          let f = both (u.result && leb a.flag 1) l.result e in
          let g = both u.result (leb a.flag 1) f.0 in (
            record {
              most = omega arith;
              tasks = good.0;
              rest = yes u.result u.ensures g.0;
              small = leb-true a.flag 1 g.1;
              right = yes l.result l.ensures f.1;
            },
            good.1,
          ))
          (λ p.
          and_both _ _ (and_both _ _ (said u.result u.ensures p.0.rest) (le-leb a.flag 1 p.0.small))
          (said l.result l.ensures p.0.right));
      marks = λ e. t.ensures.marks ok;
    }
