-- `waiting::scan::scan` meets its contract. The loop's invariant: no task passed is wanted. Assumes nothing.
use mathlib.Core.Path.{◌≡◌, refl, sym, ap, ◌∙◌, subst}
use mathlib.Core.Bool.{Bool, true, false, ◌&&◌}
use mathlib.Core.List.{List, [], ◌∷◌, tail}
use Prim.Native.Nat.{ℕ, suc, ◌+◌, ◌-◌, ◌≤◌, ◌<◌}
use native.Mathlib.Nat.{suc-ne-zero, suc_inj}
use native.Mathlib.Omega.{arith}
use lib.Arith.{lt_of_le-ne}
use lib.Dec.{ltb, leb, eqb}
use lib.ListN.{length, get_or}
use borrow.Author.Tests.{lt-ltb, le-ltb, eqb-true, eqb-false, leb-true, leb-false}
use Rattle.bits.proofs.Tests.{and_both}
use Rattle.laws.proofs.Lists.{falling_at}
use Rattle.ranking.specs.Row.{ahead}
use Rattle.ranking.proofs.Places.{ahead_is}
use Rattle.waiting.specs.Wanted.{passing, wanted, Searchable}
use Rattle.waiting.specs.declared.scan.Test.{Test}
use Rattle.waiting.proofs.scan.scan.Goals.{Start}
use Rattle.waiting.proofs.scan.scan.Goals as goal

none : {k n : ℕ} → n ≤ k → k < n → ⊥
none h l = omega arith

self : {k : ℕ} → k < k → ⊥
self h = omega arith

same : {k : ℕ} → k ≤ k
same = omega arith

-- one more index
more : (P : ℕ → Type 0) (at : ℕ) → ((k : ℕ) → 1 ≤ k → k < at → P k) → P at → (k : ℕ) → 1 ≤ k → k < at + 1 → P k
more P at old new k h l = go (eqb k at) refl
  where
    go : (b : Bool) → eqb k at ≡ b → P k
    go true e = subst P (sym (eqb-true k at e)) new
    go false e = let d = eqb-false k at e in old k h (lt_of_le-ne (omega arith) d)

module _ (test : Test) (masks ps ms : List ℕ) (floor u : ℕ) where
  -- not above the floor, or the test is not passed
  too_low : get_or ps u 0 ≤ floor → wanted test masks ps ms floor u ≡ false
  unfolding wanted
  too_low h = ap (λ (b : Bool). b && passing test masks u (get_or ps u 0) (get_or ms u 0)) (le-ltb floor (get_or ps u 0) h)

  unwanted : passing test masks u (get_or ps u 0) (get_or ms u 0) ≡ false → wanted test masks ps ms floor u ≡ false
  unfolding wanted
  unwanted e = ap (λ (b : Bool). ltb floor (get_or ps u 0) && b) e ∙ go (ltb floor (get_or ps u 0))
    where
      go : (b : Bool) → (b && false) ≡ false
      go true = refl
      go false = refl

  is_wanted : floor < get_or ps u 0 → passing test masks u (get_or ps u 0) (get_or ms u 0) ≡ true → wanted test masks ps ms floor u ≡ true
  unfolding wanted
  is_wanted h e = and_both (ltb floor (get_or ps u 0)) (passing test masks u (get_or ps u 0) (get_or ms u 0)) (lt-ltb floor (get_or ps u 0) h) e

get_d_tail : (xs : List ℕ) (k : ℕ) → get_or (tail xs) k 0 ≡ get_or xs (suc k) 0
get_d_tail [] k = refl
get_d_tail (x ∷ xs) k = refl

length_tail : (xs : List ℕ) (n : ℕ) → length xs ≡ suc n → length (tail xs) ≡ n
length_tail [] n e = absurd (suc-ne-zero n (sym e))
length_tail (x ∷ xs) n e = suc_inj e

module _ (want : ℕ → Bool) (ps ms row : List ℕ) (ok : Searchable ps ms row) where
  size : length (tail row) ≡ length row - 1
  size = length_tail row (length row - 1) (omega (arith, ok.some))

  -- the walk ends at `at`: none before it is wanted, and it is the end or wanted
  scan_is : (at : ℕ) → 1 ≤ at → at ≤ length row → ((k : ℕ) → 1 ≤ k → k < at → want (get_or row k 0) ≡ false)
      → (at < length row → want (get_or row at 0) ≡ true) → suc (ahead want (tail row)) ≡ at
  scan_is at h l before here =
      ap suc (ahead_is want (tail row) (at - 1) (omega (arith, size))
      (λ k b. ap want (get_d_tail row k) ∙ before (suc k) (omega arith) (omega arith))
      (λ b. let in_reach : at < length row = omega (arith, size) in
      ap want (get_d_tail row (at - 1)) ∙ ap (λ (k : ℕ). want (get_or row k 0)) (let e : suc (at - 1) ≡ at = omega arith in e) ∙ here in_reach))
      ∙ (let e : suc (at - 1) ≡ at = omega arith in e)

  -- a task that is not above the floor: none behind it is
  past : (floor : ℕ) → ((u : ℕ) → get_or ps u 0 ≤ floor → want u ≡ false) → (at : ℕ) → at < length row → ((k : ℕ) → 1 ≤ k → k < at → want (get_or row k 0) ≡ false) → get_or ps (get_or row at 0) 0 ≤ floor
      → (k : ℕ) → 1 ≤ k → k < length row → want (get_or row k 0) ≡ false
  past floor too_low at l before low k h m = go (leb at k) refl
    where
      go : (b : Bool) → leb at k ≡ b → want (get_or row k 0) ≡ false
      go true e =
          let falls : get_or ps (get_or row k 0) 0 ≤ get_or ps (get_or row at 0) 0 =
          falling_at (λ (u : ℕ). get_or ps u 0) row ok.falling at k (leb-true at k e) m in
          too_low (get_or row k 0) (omega arith)
      go false e = before k h (leb-false at k e)

-- what is looked for
abbrev wants : Start → ℕ → Bool
wants s = let a = s.args in wanted a.test a.under.now a.prio.now a.mask.now a.floor

pub loop-at-init : goal.loop-at-init
loop-at-init c = λ k h l. absurd (none h l)

pub returns-then-priority-floor : goal.returns-then-priority-floor
returns-then-priority-floor c =
    let a = c.args in
    let l = c.loop-at in
    sym (scan_is (wants (goal.at.returns-then-priority-floor c).Start) a.prio.now a.mask.now a.row.now c.requires.searchable (length a.row.now) c.requires.searchable.some same
    (λ k h m. past (wants (goal.at.returns-then-priority-floor c).Start) a.prio.now a.mask.now a.row.now c.requires.searchable a.floor
    (too_low a.test a.under.now a.prio.now a.mask.now a.floor) l.at c.loop-at-test.true l.invariant (omega (arith, c.if-priority-floor.true)) k h m) (λ h. absurd (self h)))

pub passes-requires : goal.passes-requires
passes-requires c = record {
  asked = c.requires.asked;
  new_is = c.new_of-new.ensures (get_or c.args.row.now c.loop-at.at 0) (c.requires.searchable.tasks c.loop-at.at c.loop-at-test.true);
  priority_le_highest_priority = c.requires.searchable.high c.loop-at.at c.loop-at-test.true;
}

pub returns-then-passes : goal.returns-then-passes
returns-then-passes c =
    let a = c.args in
    let l = c.loop-at in (
      omega arith,
      sym (scan_is (wants (goal.at.returns-then-passes c).Start) a.prio.now a.mask.now a.row.now c.requires.searchable l.at (omega arith) (omega arith) l.invariant
          (λ h. is_wanted a.test a.under.now a.prio.now a.mask.now a.floor (get_or a.row.now l.at 0) c.if-priority-floor.false (sym c.passes.ensures ∙ c.if-passes.true))),
    )

pub loop-at-preserved : goal.loop-at-preserved
loop-at-preserved c =
    let a = c.args in
    let l = c.loop-at in
    more (λ (k : ℕ). wants (goal.at.loop-at-preserved c).Start (get_or a.row.now k 0) ≡ false) l.at l.invariant
    (unwanted a.test a.under.now a.prio.now a.mask.now a.floor (get_or a.row.now l.at 0) (sym c.passes.ensures ∙ c.if-passes.false))

pub returns : goal.returns
returns c =
    let a = c.args in
    let l = c.loop-at in
    sym (scan_is (wants (goal.at.returns c).Start) a.prio.now a.mask.now a.row.now c.requires.searchable (length a.row.now) c.requires.searchable.some same
    (λ k h m. l.invariant k h (omega arith)) (λ h. absurd (self h)))
