-- Numbers in bytes: a number of several bytes by its halves, and one behind others.
-- Assumes nothing.
use mathlib.Core.Path.{◌≡◌, refl, sym, ap, ◌∙◌}
use mathlib.Core.List.{List, [], ◌∷◌}
use Prim.Native.Nat.{ℕ, ◌+◌, ◌*◌, ◌≤◌, ◌<◌}
use native.Mathlib.Omega.{arith}
use lib.ListN.{length, get_or, take, drop, length-drop}
use lib.Seq.{drop-drop, drop-cons}
use Rattle.recording.specs.Layout.{little, number}

pub number_none : (i : ℕ) (bs : List ℕ) → number i 0 bs ≡ 0
unfolding little
number_none i bs = refl

pub number_one : (i : ℕ) (bs : List ℕ) → i < length bs → number i 1 bs ≡ get_or bs i 0
unfolding little
number_one i bs h = ap (λ (xs : List ℕ). little (take 1 xs)) (drop-cons bs i 0 h) ∙ alone (get_or bs i 0)
  where
    alone : (b : ℕ) → b + 256 * 0 ≡ b
    alone b = omega arith

-- ---- halves

halves2 : (xs : List ℕ) → 2 ≤ length xs → little (take 2 xs) ≡ little (take 1 xs) + 256 * little (take 1 (drop 1 xs))
unfolding little
halves2 [] h = absurd (omega (arith, h))
halves2 (a ∷ []) h = absurd (omega (arith, h))
halves2 (a ∷ b ∷ xs) h = omega arith

halves4 : (xs : List ℕ) → 4 ≤ length xs → little (take 4 xs) ≡ little (take 2 xs) + 65536 * little (take 2 (drop 2 xs))
unfolding little
halves4 [] h = absurd (omega (arith, h))
halves4 (a ∷ []) h = absurd (omega (arith, h))
halves4 (a ∷ b ∷ []) h = absurd (omega (arith, h))
halves4 (a ∷ b ∷ c ∷ []) h = absurd (omega (arith, h))
halves4 (a ∷ b ∷ c ∷ d ∷ xs) h = omega arith

halves8 : (xs : List ℕ) → 8 ≤ length xs → little (take 8 xs) ≡ little (take 4 xs) + 4294967296 * little (take 4 (drop 4 xs))
unfolding little
halves8 (a ∷ b ∷ c ∷ d ∷ e ∷ f ∷ g ∷ i ∷ xs) h = omega arith
halves8 [] h = absurd (omega (arith, h))
halves8 (a ∷ []) h = absurd (omega (arith, h))
halves8 (a ∷ b ∷ []) h = absurd (omega (arith, h))
halves8 (a ∷ b ∷ c ∷ []) h = absurd (omega (arith, h))
halves8 (a ∷ b ∷ c ∷ d ∷ []) h = absurd (omega (arith, h))
halves8 (a ∷ b ∷ c ∷ d ∷ e ∷ []) h = absurd (omega (arith, h))
halves8 (a ∷ b ∷ c ∷ d ∷ e ∷ f ∷ []) h = absurd (omega (arith, h))
halves8 (a ∷ b ∷ c ∷ d ∷ e ∷ f ∷ g ∷ []) h = absurd (omega (arith, h))

-- a number behind i others, of bytes behind p others
pub number_behind : (p i w : ℕ) (bs : List ℕ) → number (p + i) w bs ≡ number i w (drop p bs)
number_behind p i w bs = ap (λ (xs : List ℕ). little (take w xs)) (sym (drop-drop i p bs))

long : (i w : ℕ) (bs : List ℕ) → i + w ≤ length bs → w ≤ length (drop i bs)
long i w bs h = omega (arith, h, length-drop i bs)

pub number_two : (i : ℕ) (bs : List ℕ) → i + 2 ≤ length bs → number i 2 bs ≡ number i 1 bs + 256 * number (i + 1) 1 bs
number_two i bs h =
    halves2 (drop i bs) (long i 2 bs h) ∙ ap (λ (x : ℕ). number i 1 bs + 256 * x) (sym (number_behind i 1 1 bs))

pub number_four : (i : ℕ) (bs : List ℕ) → i + 4 ≤ length bs → number i 4 bs ≡ number i 2 bs + 65536 * number (i + 2) 2 bs
number_four i bs h =
    halves4 (drop i bs) (long i 4 bs h) ∙ ap (λ (x : ℕ). number i 2 bs + 65536 * x) (sym (number_behind i 2 2 bs))

pub number_eight : (i : ℕ) (bs : List ℕ) → i + 8 ≤ length bs → number i 8 bs ≡ number i 4 bs + 4294967296 * number (i + 4) 4 bs
number_eight i bs h =
    halves8 (drop i bs) (long i 8 bs h) ∙ ap (λ (x : ℕ). number i 4 bs + 4294967296 * x) (sym (number_behind i 4 4 bs))
