-- The best of a list: it stands in it, none is better, and it is the first of its equals.
-- Assumes nothing.
use mathlib.Core.Path.{◌≡◌, refl, sym, ap, ◌∙◌, subst}
use mathlib.Core.Bool.{Bool, true, false, cond, true≢false}
use mathlib.Core.Logic.{◌≢◌, ◌⊎◌, inl, inr}
use mathlib.Core.List.{List, [], ◌∷◌}
use mathlib.Core.Option.{none, some}
use Prim.Native.Nat.{ℕ, ◌≤◌}
use native.Mathlib.Omega.{arith}
use Rattle.rules.specs.Lists.{In, place, best_from, best}
use Rattle.laws.proofs.Lists.{same?, in_here, in_there, in_cons, not_in_nil}
use Rattle.laws.proofs.Order.{place_here, place_there, place_zero}

-- a test that ranks: R x y says that x is at least as good as y
pub record Ranks (beats : ℕ → ℕ → Bool) (R : ℕ → ℕ → Type 0) : Type 0 where
  pub self : (x : ℕ) → R x x
  pub trans : (x y z : ℕ) → R x y → R y z → R x z
  pub won : (x y : ℕ) → beats y x ≡ true → R y x
  pub lost : (x y : ℕ) → beats y x ≡ false → R x y
  pub strict : (x y z : ℕ) → beats x y ≡ true → R y z → beats x z ≡ true
  pub up : (x y z : ℕ) → R x y → beats y z ≡ true → beats x z ≡ true

-- ---- the best stands in the list

module _ (beats : ℕ → ℕ → Bool) where
  pub best_from_in : (x : ℕ) (xs : List ℕ) → In (best_from beats x xs) (x ∷ xs)
  unfolding best_from
  best_from_in x [] = in_here x []
  best_from_in x (y ∷ ys) = go (beats y x) (best_from_in x ys) (best_from_in y ys)
    where
      move : (b z : ℕ) → In b (z ∷ ys) → In z (x ∷ y ∷ ys) → In b (x ∷ y ∷ ys)
      move b z i j = pick (in_cons b z ys i)
        where
          pick : (b ≡ z) ⊎ In b ys → In b (x ∷ y ∷ ys)
          pick (inl e) = subst (λ (k : ℕ). In k (x ∷ y ∷ ys)) (sym e) j
          pick (inr k) = in_there b x (y ∷ ys) (in_there b y ys k)

      go : (b : Bool) → In (best_from beats x ys) (x ∷ ys) → In (best_from beats y ys) (y ∷ ys) → In (best_from beats (cond b y x) ys) (x ∷ y ∷ ys)
      go true hx hy = move (best_from beats y ys) y hy (in_there y x (y ∷ ys) (in_here y ys))
      go false hx hy = move (best_from beats x ys) x hx (in_here x (y ∷ ys))

  pub best_in : (xs : List ℕ) (b : ℕ) → best beats xs ≡ some b → In b xs
  unfolding best
  best_in [] b e = absurd (let z : ◌≡◌ {A = ℕ} 0 1 = cc in omega arith)
  best_in (x ∷ xs) b e = let s : best_from beats x xs ≡ b = cc in subst (λ (k : ℕ). In k (x ∷ xs)) s (best_from_in x xs)

  pub best_none : (xs : List ℕ) (u : ℕ) → best beats xs ≡ none → In u xs → ⊥
  unfolding best
  best_none [] u e i = not_in_nil u i
  best_none (x ∷ xs) u e i = let z : ◌≡◌ {A = ℕ} 0 1 = cc in omega arith

  pub best_some : (xs : List ℕ) (u : ℕ) → In u xs → (b : ℕ) × (best beats xs ≡ some b)
  unfolding best
  best_some [] u i = absurd (not_in_nil u i)
  best_some (x ∷ xs) u i = (best_from beats x xs, refl)

-- ---- none is better, and none of its equals stands before it

module _ (beats : ℕ → ℕ → Bool) (R : ℕ → ℕ → Type 0) (ranks : Ranks beats R) where
  pub best_from_best : (x : ℕ) (xs : List ℕ) (u : ℕ) → In u (x ∷ xs) → R (best_from beats x xs) u
  unfolding best_from
  best_from_best x [] u i = go (in_cons u x [] i)
    where
      go : (u ≡ x) ⊎ In u [] → R x u
      go (inl e) = subst (R x) (sym e) (ranks.self x)
      go (inr j) = absurd (not_in_nil u j)
  best_from_best x (y ∷ ys) u i = go (beats y x) refl (in_cons u x (y ∷ ys) i) (best_from_best x ys) (best_from_best y ys)
    where
      go : (b : Bool) → beats y x ≡ b → (u ≡ x) ⊎ In u (y ∷ ys) → ((u : ℕ) → In u (x ∷ ys) → R (best_from beats x ys) u)
          → ((u : ℕ) → In u (y ∷ ys) → R (best_from beats y ys) u) → R (best_from beats (cond b y x) ys) u
      go true e (inl s) hx hy =
          subst (R (best_from beats y ys)) (sym s) (ranks.trans (best_from beats y ys) y x (hy y (in_here y ys)) (ranks.won x y e))
      go true e (inr j) hx hy = hy u j
      go false e (inl s) hx hy = subst (R (best_from beats x ys)) (sym s) (hx x (in_here x ys))
      go false e (inr j) hx hy = pick (in_cons u y ys j)
        where
          pick : (u ≡ y) ⊎ In u ys → R (best_from beats x ys) u
          pick (inl s) =
              subst (R (best_from beats x ys)) (sym s) (ranks.trans (best_from beats x ys) x y (hx x (in_here x ys)) (ranks.lost x y e))
          pick (inr k) = hx u (in_there u x ys k)

  pub best_best : (xs : List ℕ) (b u : ℕ) → best beats xs ≡ some b → In u xs → R b u
  unfolding best
  best_best [] b u e i = absurd (not_in_nil u i)
  best_best (x ∷ xs) b u e i = let s : best_from beats x xs ≡ b = cc in subst (λ (k : ℕ). R k u) s (best_from_best x xs u i)

  pub best_from_first : (x : ℕ) (xs : List ℕ) (u : ℕ) → In u (x ∷ xs) → beats (best_from beats x xs) u ≡ false
      → place (best_from beats x xs) (x ∷ xs) ≤ place u (x ∷ xs)
  unfolding best_from
  best_from_first x [] u i h = omega (arith, place_here x x [] refl)
  best_from_first x (y ∷ ys) u i h = go (beats y x) refl h (best_from_first x ys) (best_from_first y ys)
    where
      First : ℕ → Type 0
      First z = (u : ℕ) → In u (z ∷ ys) → beats (best_from beats z ys) u ≡ false → place (best_from beats z ys) (z ∷ ys) ≤ place u (z ∷ ys)

      -- a later one beats x
      later : (b : ℕ) → R b y → beats y x ≡ true → beats b u ≡ false → (u ≡ x) ⊎ In u (y ∷ ys) → (b ≡ x) ⊎ (b ≢ x)
          → (In u (y ∷ ys) → place b (y ∷ ys) ≤ place u (y ∷ ys)) → place b (x ∷ y ∷ ys) ≤ place u (x ∷ y ∷ ys)
      later b r e h i (inl s) f = omega (arith, place_here b x (y ∷ ys) s)
      later b r e h (inl s) (inr n) f = absurd (true≢false (sym (ranks.up b y x r e) ∙ ap (beats b) (sym s) ∙ h))
      later b r e h (inr i) (inr n) f = pick (same? u x)
        where
          pick : (u ≡ x) ⊎ (u ≢ x) → place b (x ∷ y ∷ ys) ≤ place u (x ∷ y ∷ ys)
          pick (inl s) = absurd (true≢false (sym (ranks.up b y x r e) ∙ ap (beats b) (sym s) ∙ h))
          pick (inr k) = omega (arith, place_there b x (y ∷ ys) n, place_there u x (y ∷ ys) k, f i)

      -- y does not beat x
      sooner : (b : ℕ) → beats y x ≡ false → beats b u ≡ false → (b ≡ x) ⊎ (b ≢ x) → ((u : ℕ) → In u (x ∷ ys) → beats b u ≡ false → place b (x ∷ ys) ≤ place u (x ∷ ys))
          → place b (x ∷ y ∷ ys) ≤ place u (x ∷ y ∷ ys)
      sooner b e h (inl s) f = omega (arith, place_here b x (y ∷ ys) s)
      sooner b e h (inr n) f = which (beats b x) refl
        where
          beaten : beats b x ≡ true → place b (x ∷ y ∷ ys) ≤ place u (x ∷ y ∷ ys)
          beaten t = pick (same? u x) (same? u y) (same? b y)
            where
              pick : (u ≡ x) ⊎ (u ≢ x) → (u ≡ y) ⊎ (u ≢ y) → (b ≡ y) ⊎ (b ≢ y) → place b (x ∷ y ∷ ys) ≤ place u (x ∷ y ∷ ys)
              pick (inl s) v w = absurd (true≢false (sym t ∙ ap (beats b) (sym s) ∙ h))
              pick (inr k) (inl s) w = absurd (true≢false (sym (ranks.strict b x y t (ranks.lost x y e)) ∙ ap (beats b) (sym s) ∙ h))
              pick (inr k) (inr l) (inl s) =
                  omega (arith, place_there b x (y ∷ ys) n, place_here b y ys s, place_there u x (y ∷ ys) k)
              pick (inr k) (inr l) (inr o) = last (in_cons u x (y ∷ ys) i)
                where
                  last : (u ≡ x) ⊎ In u (y ∷ ys) → place b (x ∷ y ∷ ys) ≤ place u (x ∷ y ∷ ys)
                  last (inl s) = absurd (k s)
                  last (inr j) = end (in_cons u y ys j)
                    where
                      end : (u ≡ y) ⊎ In u ys → place b (x ∷ y ∷ ys) ≤ place u (x ∷ y ∷ ys)
                      end (inl s) = absurd (l s)
                      end (inr q) =
                          omega (
                            arith,
                            f u (in_there u x ys q) h,
                            place_there b x ys n,
                            place_there u x ys k,
                            place_there b x (y ∷ ys) n,
                            place_there b y ys o,
                            place_there u x (y ∷ ys) k,
                            place_there u y ys l,
                          )

          which : (t : Bool) → beats b x ≡ t → place b (x ∷ y ∷ ys) ≤ place u (x ∷ y ∷ ys)
          which true t = beaten t
          which false t = absurd (n (place_zero b x ys (omega (arith, f x (in_here x ys) t, place_here x x ys refl))))

      go : (t : Bool) → beats y x ≡ t → beats (best_from beats (cond t y x) ys) u ≡ false → First x → First y
          → place (best_from beats (cond t y x) ys) (x ∷ y ∷ ys) ≤ place u (x ∷ y ∷ ys)
      go true e h fx fy =
          later (best_from beats y ys) (best_from_best y ys y (in_here y ys)) e h (in_cons u x (y ∷ ys) i)
          (same? (best_from beats y ys) x) (λ j. fy u j h)
      go false e h fx fy = sooner (best_from beats x ys) e h (same? (best_from beats x ys) x) fx

  pub best_first : (xs : List ℕ) (b u : ℕ) → best beats xs ≡ some b → In u xs → beats b u ≡ false → place b xs ≤ place u xs
  unfolding best
  best_first [] b u e i h = absurd (not_in_nil u i)
  best_first (x ∷ xs) b u e i h =
      let s : best_from beats x xs ≡ b = cc in
      subst (λ (k : ℕ). place k (x ∷ xs) ≤ place u (x ∷ xs)) s (best_from_first x xs u i (ap (λ (k : ℕ). beats k u) s ∙ h))
