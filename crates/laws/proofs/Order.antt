-- Who stands first: places in lists, and lists that are in order.
-- Assumes nothing.
use mathlib.Core.Path.{◌≡◌, refl, sym, ap, ◌∙◌, subst}
use mathlib.Core.Bool.{Bool, true, false, cond, false≢true}
use mathlib.Core.Logic.{◌≢◌, ◌⊎◌, inl, inr}
use mathlib.Core.List.{List, [], ◌∷◌, ◌++◌, map, tail}
use Prim.Native.Nat.{ℕ, zero, suc, ◌+◌, ◌≤◌, ◌<◌, zero-le, suc-le-suc}
use native.Mathlib.Omega.{arith}
use lib.Dec.{eqb}
use lib.ListN.{length, get_or}
use borrow.Author.Tests.{eq-eqb, ne_eqb, eqb-true, eqb-false}
use Rattle.rules.specs.Lists.{In, place, from, select, joined}
use Rattle.laws.proofs.Lists.{same?, in_here, in_there, in_cons, not_in_nil, from_in}

-- ---- places

pub place_here : (x y : ℕ) (ys : List ℕ) → x ≡ y → place x (y ∷ ys) ≡ 0
unfolding place
place_here x y ys e = ap (λ (b : Bool). cond b 0 (suc (place x ys))) (eq-eqb x y e)

pub place_there : (x y : ℕ) (ys : List ℕ) → x ≢ y → place x (y ∷ ys) ≡ suc (place x ys)
unfolding place
place_there x y ys n = ap (λ (b : Bool). cond b 0 (suc (place x ys))) (ne_eqb x y n)

-- only the first has place 0
pub place_zero : (x y : ℕ) (ys : List ℕ) → place x (y ∷ ys) ≤ 0 → x ≡ y
place_zero x y ys h = go (same? x y)
  where
    go : (x ≡ y) ⊎ (x ≢ y) → x ≡ y
    go (inl e) = e
    go (inr n) = absurd (omega (arith, place_there x y ys n))

-- one place, one element
pub place_same : (x y : ℕ) (xs : List ℕ) → In x xs → In y xs → place x xs ≡ place y xs → x ≡ y
place_same x y [] i j e = absurd (not_in_nil x i)
place_same x y (z ∷ zs) i j e = go (same? x z) (same? y z) (in_cons x z zs i) (in_cons y z zs j) (place_same x y zs)
  where
    go : (x ≡ z) ⊎ (x ≢ z) → (y ≡ z) ⊎ (y ≢ z) → (x ≡ z) ⊎ In x zs → (y ≡ z) ⊎ In y zs → (In x zs → In y zs → place x zs ≡ place y zs → x ≡ y) → x ≡ y
    go (inl a) (inl b) i j ih = a ∙ sym b
    go (inl a) (inr n) i j ih = absurd (omega (arith, place_here x z zs a, place_there y z zs n))
    go (inr n) (inl b) i j ih = absurd (omega (arith, place_here y z zs b, place_there x z zs n))
    go (inr n) (inr k) (inl a) j ih = absurd (n a)
    go (inr n) (inr k) (inr i) (inl b) ih = absurd (k b)
    go (inr n) (inr k) (inr i) (inr j) ih = ih i j (omega (arith, place_there x z zs n, place_there y z zs k))

pub place_lt : (x : ℕ) (xs : List ℕ) → In x xs → place x xs < length xs
place_lt x [] i = absurd (not_in_nil x i)
place_lt x (y ∷ ys) i = go (same? x y) (in_cons x y ys i) (place_lt x ys)
  where
    go : (x ≡ y) ⊎ (x ≢ y) → (x ≡ y) ⊎ In x ys → (In x ys → place x ys < length ys) → place x (y ∷ ys) < suc (length ys)
    go (inl e) j ih = omega (arith, place_here x y ys e)
    go (inr n) (inl e) ih = absurd (n e)
    go (inr n) (inr j) ih = omega (arith, place_there x y ys n, ih j)

pub place_left : (x : ℕ) (xs ys : List ℕ) → In x xs → place x (xs ++ ys) ≡ place x xs
place_left x [] ys i = absurd (not_in_nil x i)
place_left x (y ∷ xs) ys i = go (same? x y) (in_cons x y xs i) (place_left x xs ys)
  where
    go : (x ≡ y) ⊎ (x ≢ y) → (x ≡ y) ⊎ In x xs → (In x xs → place x (xs ++ ys) ≡ place x xs) → place x (y ∷ (xs ++ ys)) ≡ place x (y ∷ xs)
    go (inl e) j ih = place_here x y (xs ++ ys) e ∙ sym (place_here x y xs e)
    go (inr n) (inl e) ih = absurd (n e)
    go (inr n) (inr j) ih = place_there x y (xs ++ ys) n ∙ ap suc (ih j) ∙ sym (place_there x y xs n)

pub place_right : (x : ℕ) (xs ys : List ℕ) → (In x xs → ⊥) → place x (xs ++ ys) ≡ length xs + place x ys
place_right x [] ys h = omega arith
place_right x (y ∷ xs) ys h =
    let n : x ≢ y = λ e. h (subst (λ (k : ℕ). In k (y ∷ xs)) (sym e) (in_here y xs)) in
    let ih : place x (xs ++ ys) ≡ length xs + place x ys = place_right x xs ys (λ i. h (in_there x y xs i)) in
    omega (arith, place_there x y (xs ++ ys) n)

-- ---- lists in order

-- a list of numbers upwards
pub place_from : (i k c d : ℕ) → In c (from i k) → In d (from i k) → place c (from i k) ≤ place d (from i k) → c ≤ d
unfolding from
place_from i zero c d p q h = absurd (not_in_nil c p)
place_from i (suc k) c d p q h = go (same? c i) (same? d i) (in_cons c i (from (suc i) k) p) (in_cons d i (from (suc i) k) q) (place_from (suc i) k c d)
  where
    go : (c ≡ i) ⊎ (c ≢ i) → (d ≡ i) ⊎ (d ≢ i) → (c ≡ i) ⊎ In c (from (suc i) k) → (d ≡ i) ⊎ In d (from (suc i) k)
        → (In c (from (suc i) k) → In d (from (suc i) k) → place c (from (suc i) k) ≤ place d (from (suc i) k) → c ≤ d) → c ≤ d
    go (inl e) b p q ih = let l : (i ≤ d) × (d < i + suc k) = from_in i (suc k) d (whole q) in omega arith
      where
        whole : (d ≡ i) ⊎ In d (from (suc i) k) → In d (i ∷ from (suc i) k)
        whole (inl e) = subst (λ (x : ℕ). In x (i ∷ from (suc i) k)) (sym e) (in_here i (from (suc i) k))
        whole (inr j) = in_there d i (from (suc i) k) j
    go (inr n) (inl e) p q ih = absurd (n (place_zero c i (from (suc i) k) (omega (arith, place_here d i (from (suc i) k) e))))
    go (inr n) (inr m) (inl e) q ih = absurd (n e)
    go (inr n) (inr m) (inr p) (inl e) ih = absurd (m e)
    go (inr n) (inr m) (inr p) (inr q) ih =
        ih p q (omega (arith, place_there c i (from (suc i) k) n, place_there d i (from (suc i) k) m))

-- selecting keeps the order
pub place_select : (p : ℕ → Bool) (c d : ℕ) (xs : List ℕ) → p c ≡ true → p d ≡ true → place c (select p xs) ≤ place d (select p xs) → place c xs ≤ place d xs
unfolding select place
place_select p c d [] a b h = h
place_select p c d (y ∷ ys) a b h = go (p y) refl h (same? c y) (same? d y) (place_select p c d ys a b)
  where
    go : (t : Bool) → p y ≡ t → place c (cond t (y ∷ select p ys) (select p ys)) ≤ place d (cond t (y ∷ select p ys) (select p ys))
        → (c ≡ y) ⊎ (c ≢ y) → (d ≡ y) ⊎ (d ≢ y) → (place c (select p ys) ≤ place d (select p ys) → place c ys ≤ place d ys)
        → place c (y ∷ ys) ≤ place d (y ∷ ys)
    go t e h (inl s) d' ih = omega (arith, place_here c y ys s)
    go true e h (inr n) (inl s) ih = absurd (n (place_zero c y (select p ys) (omega (arith, place_here d y (select p ys) s))))
    go true e h (inr n) (inr m) ih =
        let l : place c ys ≤ place d ys = ih (omega (arith, place_there c y (select p ys) n, place_there d y (select p ys) m)) in
        omega (arith, place_there c y ys n, place_there d y ys m)
    go false e h (inr n) (inl s) ih = absurd (false≢true (sym e ∙ ap p (sym s) ∙ b))
    go false e h (inr n) (inr m) ih =
        let l : place c ys ≤ place d ys = ih h in omega (arith, place_there c y ys n, place_there d y ys m)

-- of two that wait, the one that is listed first waits in an earlier row, or earlier in the same row
pub place_tails : (x y i j : ℕ) (rs : List (List ℕ)) → In x (tail (get_or rs i [])) → In y (tail (get_or rs j []))
    → ((k : ℕ) → In x (tail (get_or rs k [])) → k ≡ i) → ((k : ℕ) → In y (tail (get_or rs k [])) → k ≡ j)
    → place x (joined (map tail rs)) ≤ place y (joined (map tail rs))
    → (i ≤ j) × (i ≡ j → place x (tail (get_or rs i [])) ≤ place y (tail (get_or rs i [])))
unfolding joined
place_tails x y i j [] a b ux uy h = absurd (not_in_nil x a)
place_tails x y zero zero (r ∷ rs) a b ux uy h =
    (omega arith, λ e. omega (arith, place_left x (tail r) (joined (map tail rs)) a, place_left y (tail r) (joined (map tail rs)) b))
place_tails x y zero (suc j) (r ∷ rs) a b ux uy h = (zero-le, λ e. absurd (omega arith))
place_tails x y (suc i) zero (r ∷ rs) a b ux uy h =
    absurd (omega (
      arith,
      place_left y (tail r) (joined (map tail rs)) b,
      place_lt y (tail r) b,
      place_right x (tail r) (joined (map tail rs)) (λ k. let z : 0 ≡ suc i = ux zero k in omega arith),
    ))
place_tails x y (suc i) (suc j) (r ∷ rs) a b ux uy h =
    let px : place x (tail r ++ joined (map tail rs)) ≡ length (tail r) + place x (joined (map tail rs)) =
    place_right x (tail r) (joined (map tail rs)) (λ k. let z : 0 ≡ suc i = ux zero k in omega arith) in
    let py : place y (tail r ++ joined (map tail rs)) ≡ length (tail r) + place y (joined (map tail rs)) =
    place_right y (tail r) (joined (map tail rs)) (λ k. let z : 0 ≡ suc j = uy zero k in omega arith) in
    let ih =
    place_tails x y i j rs a b (λ k q. let z : suc k ≡ suc i = ux (suc k) q in omega arith) (λ k q. let z : suc k ≡ suc j = uy (suc k) q in omega arith) (omega arith) in
    (suc-le-suc ih.0, λ e. ih.1 (omega arith))

-- x is the first of the list, or stands behind it
head_or_behind : (x y : ℕ) (ys : List ℕ) → In x (y ∷ ys) → (x ≡ y) ⊎ ((x ≢ y) × In x ys)
head_or_behind x y ys i = go (eqb x y) refl
  where
    behind : x ≢ y → (x ≡ y) ⊎ In x ys → In x ys
    behind d (inl e) = absurd (d e)
    behind d (inr j) = j

    go : (b : Bool) → eqb x y ≡ b → (x ≡ y) ⊎ ((x ≢ y) × In x ys)
    go true e = inl (eqb-true x y e)
    go false e = let d : x ≢ y = eqb-false x y e in inr (d, behind d (in_cons x y ys i))

-- a task that stands in a list stands at its place
pub place_is : (x : ℕ) (xs : List ℕ) → In x xs → get_or xs (place x xs) 0 ≡ x
place_is x [] i = absurd (not_in_nil x i)
place_is x (y ∷ ys) i = go (head_or_behind x y ys i) (place_is x ys)
  where
    go : (x ≡ y) ⊎ ((x ≢ y) × In x ys) → (In x ys → get_or ys (place x ys) 0 ≡ x) → get_or (y ∷ ys) (place x (y ∷ ys)) 0 ≡ x
    go (inl e) rest = ap (λ (k : ℕ). get_or (y ∷ ys) k 0) (place_here x y ys e) ∙ sym e
    go (inr (d)) rest = ap (λ (k : ℕ). get_or (y ∷ ys) k 0) (place_there x y ys d.0) ∙ rest d.1
