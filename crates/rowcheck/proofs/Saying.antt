-- A test that says whether a statement holds: giving one, and reading it.
-- Assumes nothing.
use mathlib.Core.Path.{◌≡◌, refl, sym}
use mathlib.Core.Bool.{Bool, true, false, false≢true}
use Rattle.rowcheck.specs.Says.{Says}

module _ {P : Type 0} where
  pub say : (b : Bool) → (b ≡ true → P) → (P → b ≡ true) → Says b P
  say true f g = f refl
  say false f g = λ p. false≢true (g p)

  pub yes : (b : Bool) → Says b P → b ≡ true → P
  yes true s e = s
  yes false s e = absurd (false≢true e)

  pub no : (b : Bool) → Says b P → b ≡ false → P → ⊥
  no true s e p = false≢true (sym e)
  no false s e p = s p

  pub said : (b : Bool) → Says b P → P → b ≡ true
  said true s p = refl
  said false s p = absurd (s p)

-- another statement, where each of the two follows from the other
pub as_well : {P Q : Type 0} → (b : Bool) → (P → Q) → (Q → P) → Says b P → Says b Q
as_well true f g s = f s
as_well false f g s = λ q. s (g q)

-- what is promised of a test that passes, where it fails
pub never : {P : Type 0} → false ≡ true → P
never e = absurd (false≢true e)
