-- `ranking::any_in_block` meets its contract. The loop's invariant: what is found is whether one of the places passed passes the test. Assumes nothing.
use mathlib.Core.Path.{◌≡◌}
use mathlib.Core.Bool.{Bool, true, false}
use mathlib.Core.List.{List}
use Prim.Native.Nat.{ℕ, ◌<◌}
use lib.ListN.{get_or}
use Rattle.ranking.proofs.any_in_block.Given as goal

-- whether one of the first n places passes, where `answers u b` says that the test may answer b of u
pub record Found (answers : ℕ → Bool → Type 0) (places : List ℕ) (n : ℕ) (found : Bool) : Type 0 where
  pub some : found ≡ true → (k : ℕ) × (k < n) × answers (get_or places k 0) true
  pub none : found ≡ false → (k : ℕ) → k < n → answers (get_or places k 0) false

abbrev pub invariant-loop-place : goal.invariant-loop-place
invariant-loop-place g l = Found (goal.F-post g l.test) l.place-items l.place-index l.found
