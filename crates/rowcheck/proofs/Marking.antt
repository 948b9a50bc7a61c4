-- The set of tasks that stand in rows: adding one, and how often a task stands in the first places of a row.
-- Assumes nothing.
use mathlib.Core.Path.{◌≡◌, sym, ap, ◌∙◌}
use mathlib.Core.Bool.{Bool, true, false}
use mathlib.Core.Logic.{◌≢◌, ◌⊎◌, inl, inr}
use mathlib.Core.List.{List, [], ◌∷◌, ◌++◌}
use Prim.Native.Nat.{ℕ, zero, suc, ◌+◌, ◌/◌, ◌%◌, ◌≤◌, ◌<◌}
use native.Mathlib.Nat.{not-suc-le-zero, le_of_suc-le-suc}
use native.Mathlib.Numerals.{add-one}
use native.Mathlib.Omega.{arith}
use lib.Dec.{eqb}
use lib.ListN.{length, get_or, set, take}
use lib.Seq.{get_or-set_same, get_or-set_other, take-suc}
use Rattle.bits.specs.Bit.{bit, with_bit, digit}
use Rattle.bits.proofs.Word.{bit_put_same, bit_put_other}
use Rattle.rules.specs.Lists.{occ}
use Rattle.laws.proofs.Lists.{same?, digit_same, digit_other, occ_nil, occ_cons, occ_append}
use Rattle.rowcheck.specs.Placed.{marked, mark}

pub digit_le : (b : Bool) → digit b ≤ 1
digit_le true = omega arith
digit_le false = omega arith

-- ---- adding a task

module _ (marks : List ℕ) (u : ℕ) (h : u / 64 < length marks) where
  abbrev added : List ℕ
  added = set marks (u / 64) (with_bit (get_or marks (u / 64) 0) (u % 64))

  added_same : marked added u ≡ true
  unfolding marked
  added_same =
      ap (λ (w : ℕ). bit w (u % 64)) (get_or-set_same marks (u / 64) (with_bit (get_or marks (u / 64) 0) (u % 64)) 0 h)
      ∙ bit_put_same true (get_or marks (u / 64) 0) (u % 64)

  added_other : (v : ℕ) → v ≢ u → marked added v ≡ marked marks v
  unfolding marked
  added_other v n = go (same? (v / 64) (u / 64))
    where
      go : (v / 64 ≡ u / 64) ⊎ (v / 64 ≢ u / 64) → bit (get_or added (v / 64) 0) (v % 64) ≡ bit (get_or marks (v / 64) 0) (v % 64)
      go (inl e) =
          ap (λ (i : ℕ). bit (get_or added i 0) (v % 64)) e
          ∙ ap (λ (w : ℕ). bit w (v % 64)) (get_or-set_same marks (u / 64) (with_bit (get_or marks (u / 64) 0) (u % 64)) 0 h)
          ∙ bit_put_other true (get_or marks (u / 64) 0) (u % 64) (v % 64) (λ s. n (omega arith))
          ∙ ap (λ (i : ℕ). bit (get_or marks i 0) (v % 64)) (sym e)
      go (inr o) = ap (λ (w : ℕ). bit w (v % 64)) (get_or-set_other marks (u / 64) (v / 64) (with_bit (get_or marks (u / 64) 0) (u % 64)) 0 o)

  pub mark_more : marked marks u ≡ false → (v : ℕ) → mark added v ≡ mark marks v + digit (eqb v u)
  mark_more free v = go (same? v u)
    where
      go : (v ≡ u) ⊎ (v ≢ u) → mark added v ≡ mark marks v + digit (eqb v u)
      go (inl e) =
          let now : mark added v ≡ 1 = ap (mark added) e ∙ ap digit added_same in
          let old : mark marks v ≡ 0 = ap (mark marks) e ∙ ap digit free in
          omega (arith, digit_same v u e)
      go (inr n) = omega (arith, ap digit (added_other v n), digit_other v u n)

-- ---- the first places of a row

pub occ_take : (u : ℕ) (row : List ℕ) (i : ℕ) → i < length row → occ u (take (i + 1) row) ≡ occ u (take i row) + digit (eqb u (get_or row i 0))
occ_take u row i h =
    let next : occ u (take (i + 1) row) ≡ occ u (take i row ++ (get_or row i 0 ∷ [])) =
    ap (λ (k : ℕ). occ u (take k row)) (add-one i) ∙ ap (occ u) (take-suc row i 0 h) in
    omega (arith, occ_append u (take i row) (get_or row i 0 ∷ []), occ_cons u (get_or row i 0) [], occ_nil u)

pub occ_grows : (u i j : ℕ) (row : List ℕ) → i ≤ j → occ u (take i row) ≤ occ u (take j row)
occ_grows u zero j row l = omega (arith, occ_nil u)
occ_grows u (suc i) zero row l = absurd (not-suc-le-zero l)
occ_grows u (suc i) (suc j) [] l = omega arith
occ_grows u (suc i) (suc j) (x ∷ row) l =
    omega (arith, occ_cons u x (take i row), occ_cons u x (take j row), occ_grows u i j row (le_of_suc-le-suc l))
