-- What stands where after a store.
-- Assumes nothing.
use mathlib.Core.Path.{◌≡◌, refl, ap, ◌∙◌}
use mathlib.Core.Bool.{Bool, true, false}
use mathlib.Core.Logic.{◌≢◌}
use mathlib.Core.List.{List}
use Prim.Native.Nat.{ℕ, ◌<◌}
use lib.Dec.{eqb}
use lib.ListN.{length, get_or, set}
use lib.Seq.{get_or-set_same, get_or-set_other}
use borrow.Author.Tests.{eqb-true, eqb-false}

-- what stands at k after a store at i
pub stored : (xs : List ℕ) (i v k w : ℕ) → i < length xs → (k ≡ i → v ≡ w) → (k ≢ i → get_or xs k 0 ≡ w) → get_or (set xs i v) k 0 ≡ w
stored xs i v k w h same other = go (eqb k i) refl
  where
    go : (b : Bool) → eqb k i ≡ b → get_or (set xs i v) k 0 ≡ w
    go true e = let q : k ≡ i = eqb-true k i e in ap (λ (j : ℕ). get_or (set xs i v) j 0) q ∙ get_or-set_same xs i v 0 h ∙ same q
    go false e = let d : k ≢ i = eqb-false k i e in get_or-set_other xs i k v 0 d ∙ other d
