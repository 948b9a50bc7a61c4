-- `cpupri::find::mask_fits` meets its contract. Assumes nothing.
use mathlib.Core.Path.{◌≡◌, refl, sym, ap, ap₂, ◌∙◌, subst}
use mathlib.Core.Bool.{Bool, true, false, not, ◌&&◌}
use Prim.Native.Nat.{ℕ, ◌/◌, ◌^◌, ◌≤◌, ◌<◌}
use native.Mathlib.Nat.{div-eq_of_lt, le-div_iff_mul-le, one-mul}
use native.Mathlib.Omega.{arith}
use lib.Dec.{eqb, ltb}
use lib.Pow.{pow_pos}
use borrow.Author.Tests.{eq-eqb, ne_eqb, lt-ltb, ltb-true, ltb-false}
use Rattle.cpupri.specs.Found.{mask_fits}
use Rattle.levels.proofs.Whole.{active_is}
use Rattle.cpupri.proofs.find.mask_fits.Goals.{Start}
use Rattle.cpupri.proofs.find.mask_fits.Goals as goal

shown : (m : ℕ) → not (eqb m 0) ≡ (ltb 0 m && true)
shown m = sym (active_is m) ∙ go (ltb 0 m)
  where
    go : (b : Bool) → b ≡ (b && true)
    go true = refl
    go false = refl

-- nothing is left of a word that is shifted by n exactly if it is below 2^n
shifted_out : (m n : ℕ) → eqb (m / 2 ^ n) 0 ≡ ltb m (2 ^ n)
shifted_out m n = go (ltb m (2 ^ n)) refl
  where
    go : (b : Bool) → ltb m (2 ^ n) ≡ b → eqb (m / 2 ^ n) 0 ≡ b
    go true e = eq-eqb (m / 2 ^ n) 0 (div-eq_of_lt (ltb-true m (2 ^ n) e))
    go false e =
        let large : 2 ^ n ≤ m = ltb-false m (2 ^ n) e in
        let some : 1 ≤ m / 2 ^ n = (le-div_iff_mul-le (pow_pos n)).1 (rw one-mul large) in
        ne_eqb (m / 2 ^ n) 0 (λ z. omega arith)

pub returns-then-n-eq-CPUS : goal.returns-then-n-eq-CPUS
unfolding mask_fits
returns-then-n-eq-CPUS c =
    let a = (goal.at.returns-then-n-eq-CPUS c).Start in
    let below : a.args.mask < 2 ^ a.args.n = subst (λ (k : ℕ). a.args.mask < 2 ^ k) (sym c.if-n-eq-CPUS.true) a.ranges.mask.fits in
    shown a.args.mask ∙ ap (λ (b : Bool). ltb 0 a.args.mask && b) (sym (lt-ltb a.args.mask (2 ^ a.args.n) below))

pub returns : goal.returns
unfolding mask_fits
returns c =
    let a = c.args in
    ap₂ ◌&&◌ (sym (active_is a.mask)) (shifted_out a.mask a.n)
