-- Two lists of bytes compared eight places at a time, from a place on, the last eight first: the differences are collected in a word.
-- Assumes nothing.
use mathlib.Core.Path.{◌≡◌, refl, sym, ap, ◌∙◌}
use mathlib.Core.Bool.{Bool, true, false}
use mathlib.Core.List.{List}
use Prim.Native.Nat.{ℕ, ◌+◌, ◌-◌, ◌≤◌, ◌<◌}
use native.Mathlib.Omega.{arith}
use lib.Bits.{bit_or, bit_xor}
use lib.Dec.{eqb, ltb}
use lib.ListN.{length, get_or, get_or-eq_default}
use lib.Seq.{ext_get_or}
use borrow.Author.Tests.{eqb-true, eq-eqb, ltb-true, ltb-false}
use Rattle.levels.specs.Level.{invalid}
use Rattle.whole.specs.Whole.{same, invalid_from}
use Rattle.whole.specs.Whole.{number}
use Rattle.whole.proofs.Same.{same_is, is_same}
use Rattle.whole.proofs.Compared.{both_ways, no_difference, same_number, none_put, put_none}
use Rattle.whole.proofs.From.{length_from, from_below, from_above}
use Rattle.whole.proofs.Numbers.{Bytes, number_inj, alike_eight}

module _ (xs ys : List ℕ) (start last : ℕ) where
  -- d collects the differences of the places from `start` to before i, and of the last eight
  pub record Looked (d i : ℕ) : Type 0 where
    pub passed : d ≡ 0 → (j : ℕ) → start ≤ j → j < i → get_or xs j 0 ≡ get_or ys j 0
    pub ends : d ≡ 0 → (j : ℕ) → last ≤ j → j < last + 8 → get_or xs j 0 ≡ get_or ys j 0
    pub back : xs ≡ ys → d ≡ 0

  -- eight places with one number are the same
  block_same : Bytes xs → Bytes ys → (i : ℕ) → number xs i 8 ≡ number ys i 8 → (j : ℕ) → i ≤ j → j < i + 8 → get_or xs j 0 ≡ get_or ys j 0
  block_same bx by i e j h l =
      let place : i + (j - i) ≡ j = omega arith in
      ap (λ (k : ℕ). get_or xs k 0) (sym place) ∙ number_inj xs ys bx by 8 i i e (j - i) (omega arith) ∙ ap (λ (k : ℕ). get_or ys k 0) place

  pub looked_first : Bytes xs → Bytes ys → Looked (bit_xor (number xs last 8) (number ys last 8)) start
  looked_first bx by = record {
    passed = λ e j h l. absurd (omega arith);
    ends = λ e. block_same bx by last (no_difference (number xs last 8) (number ys last 8) e);
    back = λ e. same_number (number xs last 8) (number ys last 8) (ap (λ (zs : List ℕ). number zs last 8) e);
  }

  pub looked_more : Bytes xs → Bytes ys → (d i : ℕ) → Looked d i → Looked (bit_or d (bit_xor (number xs i 8) (number ys i 8))) (i + 8)
  looked_more bx by d i k = record {
    passed = λ e j h l. let n = none_put d (number xs i 8) (number ys i 8) e in go n j h l (ltb j i) refl;
    ends = λ e. k.ends (none_put d (number xs i 8) (number ys i 8) e).0;
    back = λ e. put_none d (number xs i 8) (number ys i 8) (k.back e) (ap (λ (zs : List ℕ). number zs i 8) e);
  }
    where
      go : (d ≡ 0) × (number xs i 8 ≡ number ys i 8) → (j : ℕ) → start ≤ j → j < i + 8 → (b : Bool) → ltb j i ≡ b → get_or xs j 0 ≡ get_or ys j 0
      go n j h l true t = k.passed n.0 j h (ltb-true j i t)
      go n j h l false t = block_same bx by i n.1 j (ltb-false j i t) l

  -- at the end nothing is left out
  pub looked_all : length xs ≡ last + 8 → length ys ≡ last + 8 → ((j : ℕ) → j < start → get_or xs j 0 ≡ get_or ys j 0)
      → (d i : ℕ) → last ≤ i → Looked d i → eqb d 0 ≡ same xs ys
  looked_all lx ly before d i h k = both_ways (eqb d 0) (same xs ys) there (λ e. eq-eqb d 0 (k.back (same_is xs ys e)))
    where
      there : eqb d 0 ≡ true → same xs ys ≡ true
      there e = is_same xs ys (ext_get_or 0 xs ys (lx ∙ sym ly) (λ j l. go j (omega (arith, lx)) (ltb j start) refl (ltb j last) refl))
        where
          none : d ≡ 0
          none = eqb-true d 0 e

          go : (j : ℕ) → j < last + 8 → (a : Bool) → ltb j start ≡ a → (b : Bool) → ltb j last ≡ b → get_or xs j 0 ≡ get_or ys j 0
          go j l true s b t = before j (ltb-true j start s)
          go j l false s true t = k.passed none j (ltb-false j start s) (omega (arith, ltb-true j last t))
          go j l false s false t = k.ends none j (ltb-false j last t) l

-- INVALID from a place on
module _ (xs : List ℕ) (bx : Bytes xs) (start : ℕ) where
  pub invalid_bytes : Bytes (invalid_from start xs)
  invalid_bytes j = go (ltb j start) refl (ltb j (length xs)) refl
    where
      go : (a : Bool) → ltb j start ≡ a → (b : Bool) → ltb j (length xs) ≡ b → get_or (invalid_from start xs) j 0 < 256
      go true s b t = omega (arith, from_below start j xs (ltb-true j start s), bx j)
      go false s true t = omega (arith, from_above start j xs (ltb-false j start s) (ltb-true j (length xs) t))
      go false s false t =
          let past : length (invalid_from start xs) ≤ j = omega (arith, length_from start xs, ltb-false j (length xs) t) in
          omega (arith, get_or-eq_default (invalid_from start xs) 0 past)

  pub invalid_eight : (i : ℕ) → start ≤ i → i + 8 ≤ length xs → number (invalid_from start xs) i 8 ≡ 18446744073709551615
  invalid_eight i h l = alike_eight (invalid_from start xs) i invalid (λ k hk. from_above start (i + k) xs (omega arith) (omega arith))
