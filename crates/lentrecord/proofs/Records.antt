-- The record as four tables: their lengths, and when two are the same record.
-- Assumes nothing.
use mathlib.Core.Path.{◌≡◌, ap, ◌∙◌}
use mathlib.Core.Bool.{true, ◌&&◌}
use mathlib.Core.List.{List}
use Prim.Native.Nat.{ℕ}
use lib.Dec.{eqb}
use borrow.Author.Tests.{eqb-true}
use Rattle.bits.proofs.Tests.{and_left, and_right}
use Rattle.cpupri.specs.Level.{level_count, word_count, cpu_places}
use Rattle.lentrecord.specs.Lent.{lent_record, record_lengths_fit}

pub record Sized (m c w l : ℕ) : Type 0 where
  pub masks : m ≡ level_count
  pub counts : c ≡ level_count
  pub words : w ≡ word_count
  pub levels : l ≡ cpu_places

pub sized : (masks counts words levels : ℕ) → record_lengths_fit masks counts words levels ≡ true → Sized masks counts words levels
unfolding record_lengths_fit
sized m c w l h =
    let a = eqb m level_count in
    let b = eqb c level_count in
    let d = eqb w word_count in
    let e = eqb l cpu_places in
    let abd = and_left (a && b && d) e h in
    let ab = and_left (a && b) d abd in
    record {
      masks = eqb-true m level_count (and_left a b ab);
      counts = eqb-true c level_count (and_right a b ab);
      words = eqb-true w word_count (and_right (a && b) d abd);
      levels = eqb-true l cpu_places (and_right (a && b && d) e h);
    }

pub same_record : {m m' c c' w w' l l' : List ℕ} → m ≡ m' → c ≡ c' → w ≡ w' → l ≡ l' → lent_record m c w l ≡ lent_record m' c' w' l'
same_record {m} {m'} {c} {c'} {w} {w'} {l} {l'} p q r s =
    ap (λ (x : List ℕ). lent_record x c w l) p ∙ ap (λ (x : List ℕ). lent_record m' x w l) q ∙ ap (λ (x : List ℕ). lent_record m' c' x l) r ∙ ap (λ (x : List ℕ). lent_record m' c' w' x) s

-- tables of the same lengths fit too
pub fits_again : {m m' c c' w w' l l' : ℕ} → m' ≡ m → c' ≡ c → w' ≡ w → l' ≡ l → record_lengths_fit m c w l ≡ true → record_lengths_fit m' c' w' l' ≡ true
fits_again {m} {m'} {c} {c'} {w} {w'} {l} {l'} p q r s h =
    ap (λ (x : ℕ). record_lengths_fit x c' w' l') p ∙ ap (λ (x : ℕ). record_lengths_fit m x w' l') q ∙ ap (λ (x : ℕ). record_lengths_fit m c x l') r ∙ ap (λ (x : ℕ). record_lengths_fit m c w x) s ∙ h
