-- A table of a function's values: its length, its elements, and what changing the function at one place does to it.
-- Assumes nothing.
use mathlib.Core.Path.{◌≡◌, refl, sym, ap, ap₂}
use mathlib.Core.Logic.{◌≢◌}
use mathlib.Core.List.{List, ◌∷◌}
use Prim.Native.Nat.{ℕ, zero, suc, ◌<◌, suc-le-suc}
use native.Mathlib.Nat.{not-suc-le-zero, le_of_suc-le-suc, zero-lt-suc, suc-ne-zero, suc_inj}
use lib.ListN.{length, get_or, set}
use Rattle.levels.specs.Record.{table}

pub length_table : (f : ℕ → ℕ) (n : ℕ) → length (table f n) ≡ n
unfolding table
length_table f zero = refl
length_table f (suc n) = ap suc (length_table (λ i. f (suc i)) n)

pub get_or_table : (f : ℕ → ℕ) (n i d : ℕ) → i < n → get_or (table f n) i d ≡ f i
unfolding table
get_or_table f zero i d h = absurd (not-suc-le-zero h)
get_or_table f (suc n) zero d h = refl
get_or_table f (suc n) (suc i) d h = get_or_table (λ i. f (suc i)) n i d (le_of_suc-le-suc h)

pub table_cong : (f g : ℕ → ℕ) (n : ℕ) → ((i : ℕ) → i < n → g i ≡ f i) → table g n ≡ table f n
unfolding table
table_cong f g zero e = refl
table_cong f g (suc n) e = ap₂ (λ (x : ℕ) (xs : List ℕ). x ∷ xs) (e zero (zero-lt-suc n)) (table_cong (λ i. f (suc i)) (λ i. g (suc i)) n (λ i h. e (suc i) (suc-le-suc h)))

pub table_set : (f g : ℕ → ℕ) (n j : ℕ) → j < n → ((i : ℕ) → i < n → i ≢ j → g i ≡ f i) → table g n ≡ set (table f n) j (g j)
unfolding table
table_set f g zero j h e = absurd (not-suc-le-zero h)
table_set f g (suc n) zero h e =
    ap (λ (xs : List ℕ). g zero ∷ xs) (table_cong (λ i. f (suc i)) (λ i. g (suc i)) n (λ i l. e (suc i) (suc-le-suc l) (suc-ne-zero i)))
table_set f g (suc n) (suc j) h e =
    ap₂ (λ (x : ℕ) (xs : List ℕ). x ∷ xs) (e zero (zero-lt-suc n) (λ q. suc-ne-zero j (sym q)))
    (table_set (λ i. f (suc i)) (λ i. g (suc i)) n j (le_of_suc-le-suc h) (λ i l d. e (suc i) (suc-le-suc l) (λ q. d (suc_inj q))))
