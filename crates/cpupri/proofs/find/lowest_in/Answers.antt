-- `cpupri::find::lowest_in` meets its contract. The loop's invariant: a level below `below` of which no bit is left has no allowed CPU.
-- Assumes nothing.
use mathlib.Core.Path.{◌≡◌, sym, ap, ◌∙◌, subst}
use mathlib.Core.Bool.{Bool, true, not, cond}
use Prim.Native.Nat.{ℕ, ◌+◌, ◌-◌, ◌^◌, ◌<◌}
use native.Mathlib.Nat.{lt_trans}
use native.Mathlib.Omega.{arith}
use lib.Pow.{pow_pos}
use borrow.Author.Tests.{eq-eqb, ne_eqb}
use Rattle.bits.specs.Bit.{bit, without_bit, lowest}
use Rattle.bits.proofs.Digits.{bit_le}
use Rattle.bits.proofs.Search.{lowest_lt, lowest_bit}
use Rattle.cpupri.specs.Found.{allowed_at, any_at}
use Rattle.cpupri.specs.Search.{LowestIn}
use Rattle.cpupri.proofs.Search.{Going, pass, none_left, one_in}
use Rattle.cpupri.proofs.find.lowest_in.Goals.{After-clear_lowest-active, In-loop-active}
use Rattle.cpupri.proofs.find.lowest_in.Goals as goal

-- the lowest bit that is left, and what is known of it
module _ (c : In-loop-active) where
  place_lt : lowest 64 c.loop-active.active < 64
  place_lt = let k = c in lowest_lt 64 k.loop-active.active k.loop-active.invariant.0 k.loop-active-test.true

  place_set : let k = c in bit k.loop-active.active (lowest 64 k.loop-active.active) ≡ true
  place_set = let k = c in lowest_bit 64 k.loop-active.active place_lt

  place_below : let k = c in k.args.base + lowest 64 k.loop-active.active < k.args.below
  place_below = let k = c in k.loop-active.invariant.1.under (lowest 64 k.loop-active.active) place_lt place_set

-- a set bit that is cleared makes the word less
less : (m p : ℕ) → bit m p ≡ true → without_bit m p < m
unfolding without_bit
less m p e =
    let is : cond (bit m p) (m - 2 ^ p) m ≡ m - 2 ^ p = ap (λ (b : Bool). cond b (m - 2 ^ p) m) e in
    omega (arith, bit_le m p e, pow_pos p)

fewer : (c : After-clear_lowest-active) → let k = c in k.clear_lowest-active.result < k.loop-active.active
fewer c =
    let k = c in
    subst (λ (i : ℕ). i < k.loop-active.active) (sym k.clear_lowest-active.ensures) (less k.loop-active.active (lowest 64 k.loop-active.active) (place_set (goal.at.After-clear_lowest-active k).In-loop-active))

pub returns-then-masks-at-ne0 : goal.returns-then-masks-at-ne0
unfolding any_at allowed_at
returns-then-masks-at-ne0 c =
    let x = c.args in
    let is = c.lowest_bit.ensures in
    let any : any_at x.masks.now x.mask (x.base + c.lowest_bit.result) ≡ true =
    ap not (ne_eqb (allowed_at x.masks.now x.mask (x.base + c.lowest_bit.result)) 0 c.if-masks-at-ne0.true) in
    subst (λ (i : ℕ). LowestIn x.masks.now x.mask x.base x.below (x.base + i)) (sym is)
    (one_in x.masks.now x.mask x.base x.below c.loop-active.active c.loop-active.invariant.1 (place_lt (goal.at.returns-then-masks-at-ne0 c).In-loop-active) (place_below (goal.at.returns-then-masks-at-ne0 c).In-loop-active)
    (subst (λ (i : ℕ). any_at x.masks.now x.mask (x.base + i) ≡ true) is any))

pub loop-active-smaller : goal.loop-active-smaller
loop-active-smaller c = fewer c

pub loop-active-preserved : goal.loop-active-preserved
unfolding any_at allowed_at
loop-active-preserved c =
    let x = c.args in
    let none = ap not (eq-eqb (allowed_at x.masks.now x.mask (x.base + c.lowest_bit.result)) 0 c.if-masks-at-ne0.false) in (
      lt_trans (fewer c) c.loop-active.invariant.0,
      subst (Going x.masks.now x.mask x.base x.below) (sym c.clear_lowest-active.ensures)
          (pass x.masks.now x.mask x.base x.below c.loop-active.active (lowest 64 c.loop-active.active) c.loop-active.invariant.1
          (ap (λ (i : ℕ). any_at x.masks.now x.mask (x.base + i)) (sym c.lowest_bit.ensures) ∙ none)),
    )

pub returns : goal.returns
returns c =
    let x = c.args in
    none_left x.masks.now x.mask x.base x.below c.loop-active.active c.loop-active.invariant.1 c.loop-active-test.false

pub bounds-masks-at : goal.bounds-masks-at
bounds-masks-at c = omega (arith, c.lowest_bit.ensures, place_below (goal.at.bounds-masks-at c).In-loop-active, c.requires.base_bound.1, c.requires.masks_len)
