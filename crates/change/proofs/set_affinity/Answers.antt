-- `change::set_affinity` meets its contract.
-- Assumes nothing.
use mathlib.Core.Path.{◌≡◌, refl, sym, ap, ap₂, ◌∙◌}
use mathlib.Core.Bool.{Bool, true, false, ◌&&◌}
use Prim.Native.Nat.{ℕ}
use mathlib.Core.Logic.{inl, inr}
use native.Mathlib.Omega.{arith}
use lib.Bits.{bit_and}
use lib.Dec.{eqb}
use borrow.Author.Tests.{le-leb, lt-leb, not-false}
use Rattle.bits.specs.Bit.{bit, lowest as lowestBit}
use Rattle.rules.specs.Machine.{Machine, Task, task_of, free, runnable, task_places, cpu_places, allows, lowest_allowed, stranded}
use Rattle.rules.specs.Plan.{rewrite, shift, with_mask}
use Rattle.laws.proofs.Checks.{mask_good}
use Rattle.laws.proofs.Online.{lowest_allowed_lem, allows_bit}
use Rattle.plans.specs.Decided.{as_task, Named}
use Rattle.plans.proofs.Answers.{fails_here, passes_here, none_left, tested_mask, tested_up, tested_some}
use Rattle.plans.proofs.Plans.{replaced, is_in, not_in, used_fit, affinity_idle, affinity_same, affinity_moved}
use mathlib.Core.Bool.{not}
use Rattle.change.proofs.set_affinity.Goals.{Else-named-ne-RUNNABLE}
use Rattle.change.proofs.set_affinity.Goals as goal

-- a runnable task, and where it may go
module _ (c : Else-named-ne-RUNNABLE) where
  may : (m : Machine) (l : Named m c.args.who c.args.named) (b : Bool) → stranded m c.args.k ≡ b
      → (eqb (task_of m c.args.who).state runnable && stranded m c.args.k) ≡ b
  may m l b e = ap₂ ◌&&◌ (is_in l runnable c.if-named-ne-RUNNABLE.false) e

  still_allowed : (m : Machine) {b : Bool} → c.args.online ≡ m.online
      → bit (bit_and c.args.k c.args.online) c.args.named.cpu ≡ b
      → allows m c.args.k c.args.named.cpu ≡ b
  still_allowed m on e =
      let x = c.args in
      sym (allows_bit m x.k x.named.cpu) ∙ ap (λ (o : ℕ). bit (bit_and x.k o) x.named.cpu) (sym on) ∙ e

pub returns-then-who-ge-PLACES : goal.returns-then-who-ge-PLACES
returns-then-who-ge-PLACES c = record {
  decided = λ m kind a b n on l. fails_here _ _ _ (le-leb task_places c.args.who c.if-who-ge-PLACES.true);
  shaped = tt;
}

pub returns-then-named-eq-FREE : goal.returns-then-named-eq-FREE
returns-then-named-eq-FREE c = record {
  decided = λ m kind a b n on l.
      passes_here _ _ _ 5 (lt-leb task_places c.args.who c.if-who-ge-PLACES.false) (fails_here _ _ _ (is_in l free c.if-named-eq-FREE.true));
  shaped = tt;
}

pub returns-then-not-fits : goal.returns-then-not-fits
returns-then-not-fits c = record {
  decided = λ m kind a b n on l. passes_here _ _ _ 8 (lt-leb task_places c.args.who c.if-who-ge-PLACES.false)
      (passes_here _ _ _ 8 (not_in l free c.if-named-eq-FREE.false) (fails_here _ _ _ (tested_mask c.args.k n c.mask_fits-fits.ensures (ap not c.if-not-fits.true))));
  shaped = tt;
}

pub returns-then-named-ne-RUNNABLE : goal.returns-then-named-ne-RUNNABLE
returns-then-named-ne-RUNNABLE c = record {
  decided = λ m kind a b n on l.
      let t = c.args.who in
      let fits = tested_mask c.args.k n c.mask_fits-fits.ensures (ap not c.if-not-fits.false) in (
        passes_here _ _ _ 0 (lt-leb task_places t c.if-who-ge-PLACES.false)
            (passes_here _ _ _ 0 (not_in l free c.if-named-eq-FREE.false)
            (passes_here _ _ _ 0 fits (passes_here _ _ _ 0 (ap (λ (b : Bool). b && stranded m c.args.k) (not_in l runnable c.if-named-ne-RUNNABLE.true)) none_left))),
        replaced (c.rewrite.ensures ∙ ap (rewrite t) (ap (with_mask c.args.k) l.columns)) (affinity_idle l c.if-who-ge-PLACES.false c.args.k c.if-named-ne-RUNNABLE.true),
      );
  shaped = inl c.rewrite.ensures;
}

pub returns-then-up-eq0 : goal.returns-then-up-eq0
returns-then-up-eq0 c = record {
  decided = λ m kind a b n on l. passes_here _ _ _ 10 (lt-leb task_places c.args.who c.if-who-ge-PLACES.false)
      (passes_here _ _ _ 10 (not_in l free c.if-named-eq-FREE.false)
      (passes_here _ _ _ 10 (tested_mask c.args.k n c.mask_fits-fits.ensures (ap not c.if-not-fits.false))
      (fails_here _ _ _ (may (goal.at.returns-then-up-eq0 c).Else-named-ne-RUNNABLE m l true (tested_up m {k = c.args.k} refl on c.if-up-eq0.true)))));
  shaped = tt;
}

pub test_bit-requires : goal.test_bit-requires
test_bit-requires c =
    let l = c.requires.named.1 in
    let fit = used_fit l c.if-who-ge-PLACES.false c.if-named-eq-FREE.false in
    omega (arith, fit.cpu, l.formed.shape.cpus, ap (λ (x : Task). x.cpu) l.columns)

pub returns-then-test_bit : goal.returns-then-test_bit
returns-then-test_bit c = record {
  decided = λ m kind a b n on l.
      let t = c.args.who in
      let fits = tested_mask c.args.k n c.mask_fits-fits.ensures (ap not c.if-not-fits.false) in
      let some = tested_some m {k = c.args.k} refl on c.if-up-eq0.false in
      let still = still_allowed (goal.at.returns-then-test_bit c).Else-named-ne-RUNNABLE m on (sym c.test_bit.ensures ∙ c.if-test_bit.true) in (
        passes_here _ _ _ 0 (lt-leb task_places t c.if-who-ge-PLACES.false)
            (passes_here _ _ _ 0 (not_in l free c.if-named-eq-FREE.false) (passes_here _ _ _ 0 fits (passes_here _ _ _ 0 (may (goal.at.returns-then-test_bit c).Else-named-ne-RUNNABLE m l false some) none_left))),
        replaced (c.rewrite-then-test_bit.ensures ∙ ap (rewrite t) (ap (with_mask c.args.k) l.columns))
            (affinity_same l c.if-who-ge-PLACES.false c.args.k c.if-named-ne-RUNNABLE.false still),
      );
  shaped = inl c.rewrite-then-test_bit.ensures;
}

pub returns : goal.returns
returns c = record {
  decided = λ m kind a b n on l.
      let t = c.args.who in
      let j = c.args.k in
      let fits = tested_mask j n c.mask_fits-fits.ensures (ap not c.if-not-fits.false) in
      let good = mask_good j m.n (not-false _ fits) in
      let some = tested_some m {k = c.args.k} refl on c.if-up-eq0.false in
      let lowest = c.lowest_bit-lowest.ensures ∙ ap (λ (o : ℕ). lowestBit cpu_places (bit_and j o)) on ∙ lowest_allowed_lem m j l.formed.shape.cpus good.1 some in
      let gone = still_allowed (goal.at.returns c).Else-named-ne-RUNNABLE m on (sym c.test_bit.ensures ∙ c.if-test_bit.false) in (
        passes_here _ _ _ 0 (lt-leb task_places t c.if-who-ge-PLACES.false)
            (passes_here _ _ _ 0 (not_in l free c.if-named-eq-FREE.false) (passes_here _ _ _ 0 fits (passes_here _ _ _ 0 (may (goal.at.returns c).Else-named-ne-RUNNABLE m l false some) none_left))),
        replaced
            (c.shift.ensures ∙ ap (shift t c.args.named.cpu (with_mask j (as_task c.args.named))) lowest
            ∙ ap (λ (σ : Task). shift t σ.cpu (with_mask j σ) (lowest_allowed m j)) l.columns)
            (affinity_moved l c.if-who-ge-PLACES.false j c.if-named-ne-RUNNABLE.false gone good.1 some),
      );
  shaped = inr (_, c.shift.ensures);
}
