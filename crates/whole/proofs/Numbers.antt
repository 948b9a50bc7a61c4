-- Eight bytes as one number: equal numbers have equal bytes.
-- Assumes nothing.
use mathlib.Core.Path.{◌≡◌, refl, sym, ap, ◌∙◌}
use mathlib.Core.Bool.{Bool, true, false}
use mathlib.Core.List.{List}
use Prim.Native.Nat.{ℕ, zero, suc, ◌+◌, ◌*◌, ◌≤◌, ◌<◌}
use native.Mathlib.Nat.{not-suc-le-zero, le_of_suc-le-suc, add-zero, zero-add}
use native.Mathlib.Omega.{arith}
use lib.Dec.{ltb}
use lib.ListN.{length, get_or, replicate, length-replicate, get_or-replicate, get_or-eq_default}
use borrow.Author.Tests.{ltb-true, ltb-false}
use Rattle.whole.specs.Whole.{number}

-- a list of bytes
abbrev pub Bytes : List ℕ → Type 0
Bytes xs = (i : ℕ) → get_or xs i 0 < 256

pub number_four : (xs : List ℕ) (at : ℕ)
    → number xs at 4 ≡ get_or xs at 0 + 256 * (get_or xs (at + 1) 0 + 256 * (get_or xs (at + 2) 0 + 256 * get_or xs (at + 3) 0))
unfolding number
number_four xs at =
    let one : suc at ≡ at + 1 = omega arith in
    let two : suc (suc at) ≡ at + 2 = omega arith in
    let three : suc (suc (suc at)) ≡ at + 3 = omega arith in
    (λ i. get_or xs at 0 + 256 * (get_or xs (one i) 0 + 256 * (get_or xs (two i) 0 + 256 * (get_or xs (three i) 0 + 256 * 0))))
    ∙ omega arith

pub number_eight : (xs : List ℕ) (at : ℕ) → number xs at 8 ≡ number xs at 4 + number xs (at + 4) 4 * 4294967296
unfolding number
number_eight xs at =
    let four : at + 4 ≡ suc (suc (suc (suc at))) = omega arith in
    let high : number xs (at + 4) 4 ≡ number xs (suc (suc (suc (suc at)))) 4 = ap (λ (i : ℕ). number xs i 4) four in
    omega (arith, high)

module _ (xs ys : List ℕ) (bx : Bytes xs) (by : Bytes ys) where
  pub number_inj : (k a b : ℕ) → number xs a k ≡ number ys b k → (i : ℕ) → i < k → get_or xs (a + i) 0 ≡ get_or ys (b + i) 0
  unfolding number
  number_inj zero a b e i h = absurd (not-suc-le-zero h)
  number_inj (suc k) a b e zero h =
      let first : get_or xs a 0 ≡ get_or ys b 0 = omega (arith, e, bx a, by b) in
      ap (λ (j : ℕ). get_or xs j 0) (add-zero a) ∙ first ∙ ap (λ (j : ℕ). get_or ys j 0) (sym (add-zero b))
  number_inj (suc k) a b e (suc i) h =
      let rest : number xs (suc a) k ≡ number ys (suc b) k = omega (arith, e, bx a, by b) in
      let one : a + suc i ≡ suc a + i = omega arith in
      let other : suc b + i ≡ b + suc i = omega arith in
      ap (λ (j : ℕ). get_or xs j 0) one ∙ number_inj k (suc a) (suc b) rest i (le_of_suc-le-suc h) ∙ ap (λ (j : ℕ). get_or ys j 0) other

-- and equal bytes make equal numbers
pub number_cong : (xs ys : List ℕ) (k a b : ℕ) → ((i : ℕ) → i < k → get_or xs (a + i) 0 ≡ get_or ys (b + i) 0) → number xs a k ≡ number ys b k
unfolding number
number_cong xs ys zero a b e = refl
number_cong xs ys (suc k) a b e =
    let first : get_or xs a 0 ≡ get_or ys b 0 = ap (λ (j : ℕ). get_or xs j 0) (sym (add-zero a)) ∙ e 0 (omega arith) ∙ ap (λ (j : ℕ). get_or ys j 0) (add-zero b) in
    let rest : number xs (suc a) k ≡ number ys (suc b) k =
    number_cong xs ys k (suc a) (suc b) (λ i h.
    let one : suc a + i ≡ a + suc i = omega arith in
    let other : b + suc i ≡ suc b + i = omega arith in
    ap (λ (j : ℕ). get_or xs j 0) one ∙ e (suc i) (omega arith) ∙ ap (λ (j : ℕ). get_or ys j 0) other) in
    omega (arith, first, rest)

-- a byte eight times
eight_times : (v : ℕ) → number (replicate 8 v) 0 8 ≡ v * 72340172838076673
unfolding number
eight_times v = omega arith

pub eight_alike : (xs : List ℕ) → Bytes xs → (at v : ℕ) → v < 256 → number xs at 8 ≡ v * 72340172838076673 → (i : ℕ) → i < 8 → get_or xs (at + i) 0 ≡ v
eight_alike xs bx at v small e i h =
    number_inj xs (replicate 8 v) bx bytes 8 at 0 (e ∙ sym (eight_times v)) i h
    ∙ ap (λ (j : ℕ). get_or (replicate 8 v) j 0) (zero-add i) ∙ get_or-replicate 8 i v 0 h
  where
    bytes : Bytes (replicate 8 v)
    bytes j = go (ltb j 8) refl
      where
        go : (b : Bool) → ltb j 8 ≡ b → get_or (replicate 8 v) j 0 < 256
        go true t = omega (arith, get_or-replicate 8 j v 0 (ltb-true j 8 t))
        go false t = let past : length (replicate 8 v) ≤ j = omega (arith, ltb-false j 8 t, length-replicate 8 v) in omega (arith, get_or-eq_default (replicate 8 v) 0 past)

pub alike_eight : (xs : List ℕ) (at v : ℕ) → ((i : ℕ) → i < 8 → get_or xs (at + i) 0 ≡ v) → number xs at 8 ≡ v * 72340172838076673
alike_eight xs at v e =
    number_cong xs (replicate 8 v) 8 at 0 (λ i h. e i h ∙ sym (get_or-replicate 8 i v 0 h) ∙ ap (λ (j : ℕ). get_or (replicate 8 v) j 0) (sym (zero-add i)))
    ∙ eight_times v
