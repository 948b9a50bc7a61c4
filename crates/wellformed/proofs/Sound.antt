-- The test of one task, case by case.
-- Assumes nothing.
use mathlib.Core.Path.{◌≡◌, ap, ap₂}
use mathlib.Core.Bool.{Bool, true, false, cond, ◌&&◌, ◌||◌}
use mathlib.Core.Logic.{◌≢◌}
use Prim.Native.Nat.{ℕ, ◌<◌}
use lib.Dec.{eqb, leb, ltb}
use borrow.Author.Tests.{eq-eqb, ne_eqb, ltb-true}
use Rattle.bits.specs.Bit.{bit}
use Rattle.rules.specs.Machine.{Task, free, asleep, runnable, fifo, rr, lowest_priority, highest_priority}
use Rattle.cpupri.specs.Found.{mask_fits}
use Rattle.rules.specs.WellFormed.{zeros, fits}
use Rattle.laws.proofs.Bools.{both}
use Rattle.wellformed.specs.Passes.{sound_when}

module _ (placed : Bool) (n full online : ℕ) (τ : Task) where
  abbrev rest : Bool
  rest = eqb τ.state asleep || (eqb τ.state runnable && placed && (bit τ.mask τ.cpu && bit online τ.cpu))

  pub sound_free : τ.state ≡ free → sound_when placed n full online τ ≡ zeros τ
  unfolding sound_when
  sound_free e = ap (λ (b : Bool). cond b (zeros τ) (fits n full τ && rest)) (eq-eqb τ.state free e)

  pub sound_out : τ.state ≢ free → fits n full τ ≡ false → sound_when placed n full online τ ≡ false
  unfolding sound_when
  sound_out e f = ap₂ (λ (b g : Bool). cond b (zeros τ) (g && rest)) (ne_eqb τ.state free e) f

  pub sound_in : τ.state ≢ free → fits n full τ ≡ true → sound_when placed n full online τ ≡ rest
  unfolding sound_when
  sound_in e f = ap₂ (λ (b g : Bool). cond b (zeros τ) (g && rest)) (ne_eqb τ.state free e) f

-- a task in range has its CPU below n
pub fits_cpu : (n full : ℕ) (τ : Task) → fits n full τ ≡ true → τ.cpu < n
fits_cpu n full τ h =
    let low = leb fifo τ.policy && leb τ.policy rr && leb lowest_priority τ.prio && leb τ.prio highest_priority in
    let cpu = ltb τ.cpu n in
    let one = leb 1 τ.slice in
    let most = leb τ.slice full in
    let a = both (low && cpu && one && most) (mask_fits n τ.mask) h in
    let b = both (low && cpu && one) most a.0 in
    let c = both (low && cpu) one b.0 in
    ltb-true τ.cpu n (both low cpu c.0).1
