-- How often a task stands in the first rows, and the part of the table that is one row, as the code counts.
-- Assumes nothing.
use mathlib.Core.Path.{◌≡◌, refl, ap, ap₂, ◌∙◌}
use mathlib.Core.Bool.{Bool, true, false}
use mathlib.Core.List.{List}
use Prim.Native.Nat.{ℕ, zero, suc, ◌+◌, ◌-◌, ◌*◌, ◌/◌, ◌%◌, ◌≤◌}
use native.Mathlib.Nat.{not-suc-le-zero}
use native.Mathlib.Numerals.{add-one}
use native.Mathlib.Omega.{arith}
use lib.Dec.{ltb}
use lib.ListN.{get_or, take, drop, replicate, get_or-replicate, get_or-eq_default}
use borrow.Author.Tests.{ltb-true, ltb-false}
use Rattle.bits.specs.Bit.{bit, digit}
use Rattle.bits.proofs.Word.{bit_of_zero}
use Rattle.rules.specs.Lists.{occ}
use Rattle.rules.specs.Machine.{task_places}
use Rattle.rowcheck.specs.Placed.{set_words, marked, mark}
use Rattle.wellformed.specs.Passes.{part, queue, standings}

-- the empty set
pub mark_none : (u : ℕ) → mark (replicate set_words 0) u ≡ 0
unfolding marked
mark_none u = ap (λ (w : ℕ). digit (bit w (u % 64))) (word (ltb (u / 64) set_words) refl) ∙ ap digit (bit_of_zero (u % 64))
  where
    word : (b : Bool) → ltb (u / 64) set_words ≡ b → ◌≡◌ {A = ℕ} (get_or (replicate set_words 0) (u / 64) 0) 0
    word true e = get_or-replicate set_words (u / 64) 0 0 (ltb-true (u / 64) set_words e)
    word false e = get_or-eq_default (replicate set_words 0) 0 (ltb-false (u / 64) set_words e)

-- row c's places, as the code takes them
pub part_is : (rows : List ℕ) (c : ℕ) → take (c * 512 + 512 - c * 512) (drop (c * 512) rows) ≡ part rows c
part_is rows c =
    let start : c * 512 ≡ task_places * c = omega arith in
    let size : c * 512 + 512 - c * 512 ≡ task_places = omega arith in
    ap₂ (λ (k s : ℕ). take k (drop s rows)) size start

module _ (counts rows : List ℕ) (u : ℕ) where
  pub standings_none : standings counts rows 0 u ≡ 0
  unfolding standings
  standings_none = refl

  pub standings_next : (c : ℕ) → standings counts rows (c + 1) u ≡ standings counts rows c u + occ u (queue counts rows c)
  unfolding standings
  standings_next c = ap (λ (k : ℕ). standings counts rows k u) (add-one c)

  pub standings_grows : (i j : ℕ) → i ≤ j → standings counts rows i u ≤ standings counts rows j u
  unfolding standings
  standings_grows zero j l = omega (arith, standings_none)
  standings_grows (suc i) zero l = absurd (not-suc-le-zero l)
  standings_grows (suc i) (suc j) l = go (ltb i j) refl (standings_grows (suc i) j)
    where
      go : (b : Bool) → ltb i j ≡ b → (suc i ≤ j → standings counts rows (suc i) u ≤ standings counts rows j u)
          → standings counts rows (suc i) u ≤ standings counts rows (suc j) u
      go true e ih = let less : standings counts rows (suc i) u ≤ standings counts rows j u = ih (ltb-true i j e) in omega arith
      go false e ih =
          let same : i ≡ j = omega (arith, ltb-false i j e) in
          let equal : standings counts rows (suc i) u ≡ standings counts rows (suc j) u = ap (λ (k : ℕ). standings counts rows (suc k) u) same in
          omega arith
