-- The laws of lists that the rules rest on: standing in a list, joining and leaving a queue, the pigeonhole, and who is best.
-- Assumes nothing.
use mathlib.Core.Path.{◌≡◌, refl, sym, ap, ◌∙◌, subst}
use mathlib.Core.Bool.{Bool, true, false, cond, ◌||◌, true≢false, false≢true}
use mathlib.Core.Logic.{◌≢◌, ◌⊎◌, inl, inr}
use mathlib.Core.List.{List, [], ◌∷◌, ◌++◌, map, tail}
use Prim.Native.Nat.{ℕ, zero, suc, ◌+◌, ◌≤◌, ◌<◌, zero-le, suc-le-suc}
use native.Mathlib.Nat.{not-suc-le-zero, le_of_suc-le-suc, zero-lt-suc}
use native.Mathlib.Omega.{arith}
use lib.Dec.{eqb}
use lib.ListN.{length, get_or}
use borrow.Author.Tests.{eqb-true, eqb-false, eq-eqb, ne_eqb}
use Rattle.bits.specs.Bit.{digit, tally}
use Rattle.rules.specs.Lists.{occ, In, Falling, from, below, select, joined, any, insert_before, delete}

-- ---- equal or not

pub same? : (a b : ℕ) → (a ≡ b) ⊎ (a ≢ b)
same? a b = go (eqb a b) refl
  where
    go : (t : Bool) → eqb a b ≡ t → (a ≡ b) ⊎ (a ≢ b)
    go true e = inl (eqb-true a b e)
    go false e = inr (eqb-false a b e)

pub digit_same : (a b : ℕ) → a ≡ b → digit (eqb a b) ≡ 1
digit_same a b e = ap digit (eq-eqb a b e)

pub digit_other : (a b : ℕ) → a ≢ b → digit (eqb a b) ≡ 0
digit_other a b h = ap digit (ne_eqb a b h)

-- ---- standing in a list

pub occ_cons : (x y : ℕ) (ys : List ℕ) → occ x (y ∷ ys) ≡ digit (eqb x y) + occ x ys
unfolding tally
occ_cons x y ys = refl

pub occ_nil : (x : ℕ) → occ x [] ≡ 0
unfolding tally
occ_nil x = refl

pub not_in_nil : (x : ℕ) → In x [] → ⊥
not_in_nil x h = omega (arith, occ_nil x)

pub in_here : (x : ℕ) (xs : List ℕ) → In x (x ∷ xs)
in_here x xs = omega (arith, occ_cons x x xs, digit_same x x refl)

pub in_there : (x y : ℕ) (ys : List ℕ) → In x ys → In x (y ∷ ys)
in_there x y ys h = omega (arith, occ_cons x y ys)

pub in_cons : (x y : ℕ) (ys : List ℕ) → In x (y ∷ ys) → (x ≡ y) ⊎ In x ys
in_cons x y ys h = go (same? x y)
  where
    go : (x ≡ y) ⊎ (x ≢ y) → (x ≡ y) ⊎ In x ys
    go (inl e) = inl e
    go (inr n) = inr (omega (arith, occ_cons x y ys, digit_other x y n))

pub occ_append : (x : ℕ) (xs ys : List ℕ) → occ x (xs ++ ys) ≡ occ x xs + occ x ys
occ_append x [] ys = omega (arith, occ_nil x)
occ_append x (y ∷ xs) ys = omega (arith, occ_cons x y (xs ++ ys), occ_cons x y xs, occ_append x xs ys)

-- an element by its place
pub in_get_or : (xs : List ℕ) (i : ℕ) → i < length xs → In (get_or xs i 0) xs
in_get_or [] i h = absurd (not-suc-le-zero h)
in_get_or (x ∷ xs) zero h = in_here x xs
in_get_or (x ∷ xs) (suc i) h = in_there (get_or xs i 0) x xs (in_get_or xs i (le_of_suc-le-suc h))

-- ---- joining and leaving a queue

pub occ_insert : (p : ℕ → Bool) (x u : ℕ) (r : List ℕ) → occ u (insert_before p x r) ≡ digit (eqb u x) + occ u r
unfolding insert_before
occ_insert p x u [] = occ_cons u x []
occ_insert p x u (y ∷ ys) = go (p y) (occ_insert p x u ys)
  where
    go : (b : Bool) → occ u (insert_before p x ys) ≡ digit (eqb u x) + occ u ys
        → occ u (cond b (x ∷ y ∷ ys) (y ∷ insert_before p x ys)) ≡ digit (eqb u x) + occ u (y ∷ ys)
    go true ih = occ_cons u x (y ∷ ys)
    go false ih = omega (arith, occ_cons u y (insert_before p x ys), occ_cons u y ys)

pub length_insert : (p : ℕ → Bool) (x : ℕ) (r : List ℕ) → length (insert_before p x r) ≡ suc (length r)
unfolding insert_before
length_insert p x [] = refl
length_insert p x (y ∷ ys) = go (p y) (length_insert p x ys)
  where
    go : (b : Bool) → length (insert_before p x ys) ≡ suc (length ys)
        → length (cond b (x ∷ y ∷ ys) (y ∷ insert_before p x ys)) ≡ suc (suc (length ys))
    go true ih = refl
    go false ih = ap suc ih

pub occ_delete : (x u : ℕ) (r : List ℕ) → In x r → occ u (delete x r) + digit (eqb u x) ≡ occ u r
unfolding delete
occ_delete x u [] h = absurd (not_in_nil x h)
occ_delete x u (y ∷ ys) h = go (eqb x y) refl (occ_delete x u ys)
  where
    go : (b : Bool) → eqb x y ≡ b → (In x ys → occ u (delete x ys) + digit (eqb u x) ≡ occ u ys)
        → occ u (cond b ys (y ∷ delete x ys)) + digit (eqb u x) ≡ occ u (y ∷ ys)
    go true e ih =
        let d : digit (eqb u x) ≡ digit (eqb u y) = ap (λ (k : ℕ). digit (eqb u k)) (eqb-true x y e) in
        omega (arith, occ_cons u y ys)
    go false e ih =
        let i : In x ys = omega (arith, occ_cons x y ys, digit_other x y (eqb-false x y e)) in
        let s : occ u (delete x ys) + digit (eqb u x) ≡ occ u ys = ih i in
        omega (arith, occ_cons u y (delete x ys), occ_cons u y ys)

pub length_delete : (x : ℕ) (r : List ℕ) → In x r → suc (length (delete x r)) ≡ length r
unfolding delete
length_delete x [] h = absurd (not_in_nil x h)
length_delete x (y ∷ ys) h = go (eqb x y) refl (length_delete x ys)
  where
    go : (b : Bool) → eqb x y ≡ b → (In x ys → suc (length (delete x ys)) ≡ length ys) → suc (length (cond b ys (y ∷ delete x ys))) ≡ suc (length ys)
    go true e ih = refl
    go false e ih = ap suc (ih (omega (arith, occ_cons x y ys, digit_other x y (eqb-false x y e))))

-- leaving keeps the others
pub in_delete : (x u : ℕ) (r : List ℕ) → In u (delete x r) → In u r
unfolding delete
in_delete x u [] h = h
in_delete x u (y ∷ ys) h = go (eqb x y) h (in_delete x u ys)
  where
    go : (b : Bool) → In u (cond b ys (y ∷ delete x ys)) → (In u (delete x ys) → In u ys) → In u (y ∷ ys)
    go true h ih = in_there u y ys h
    go false h ih = pick (in_cons u y (delete x ys) h)
      where
        pick : (u ≡ y) ⊎ In u (delete x ys) → In u (y ∷ ys)
        pick (inl e) = subst (λ (k : ℕ). In k (y ∷ ys)) (sym e) (in_here y ys)
        pick (inr i) = in_there u y ys (ih i)

-- the first of a queue stays the first when another leaves
pub delete_behind : (x y : ℕ) (ys : List ℕ) → x ≢ y → delete x (y ∷ ys) ≡ y ∷ delete x ys
unfolding delete
delete_behind x y ys n = ap (λ (b : Bool). cond b ys (y ∷ delete x ys)) (ne_eqb x y n)

-- ---- the pigeonhole

pub length_le : (l xs : List ℕ) → ((x : ℕ) → occ x l ≤ occ x xs) → length l ≤ length xs
length_le [] xs h = zero-le
length_le (y ∷ l) xs h =
    let i : In y xs = omega (arith, occ_cons y y l, digit_same y y refl, h y) in
    let ih : length l ≤ length (delete y xs) = length_le l (delete y xs) (λ x. omega (arith, occ_delete y x xs i, occ_cons x y l, h x)) in
    omega (arith, length_delete y xs i)

-- different numbers that all stand in xs
pub within : (l xs : List ℕ) → ((x : ℕ) → occ x l ≤ 1) → ((x : ℕ) → In x l → In x xs) → length l ≤ length xs
within l xs once all = length_le l xs (λ x. go x (occ x l) refl)
  where
    go : (x n : ℕ) → occ x l ≡ n → occ x l ≤ occ x xs
    go x zero e = omega arith
    go x (suc n) e = let j : In x xs = all x (omega arith) in omega (arith, once x)

pub length_select : (p : ℕ → Bool) (xs : List ℕ) → length (select p xs) ≤ length xs
unfolding select
length_select p [] = omega arith
length_select p (x ∷ xs) = go (p x) (length_select p xs)
  where
    go : (b : Bool) → length (select p xs) ≤ length xs → length (cond b (x ∷ select p xs) (select p xs)) ≤ suc (length xs)
    go true h = omega arith
    go false h = omega arith

pub length_from : (i k : ℕ) → length (from i k) ≡ k
unfolding from
length_from i zero = refl
length_from i (suc k) = ap suc (length_from (suc i) k)

pub in_from : (i k x : ℕ) → i ≤ x → x < i + k → In x (from i k)
unfolding from
in_from i zero x h l = absurd (omega arith)
in_from i (suc k) x h l = go (same? x i) (in_from (suc i) k x)
  where
    go : (x ≡ i) ⊎ (x ≢ i) → (suc i ≤ x → x < suc i + k → In x (from (suc i) k)) → In x (i ∷ from (suc i) k)
    go (inl e) ih = subst (λ (y : ℕ). In y (i ∷ from (suc i) k)) (sym e) (in_here i (from (suc i) k))
    go (inr n) ih = in_there x i (from (suc i) k) (ih (omega arith) (omega arith))

pub from_in : (i k x : ℕ) → In x (from i k) → (i ≤ x) × (x < i + k)
unfolding from
from_in i zero x h = absurd (not_in_nil x h)
from_in i (suc k) x h = go (in_cons x i (from (suc i) k) h) (from_in (suc i) k x)
  where
    go : (x ≡ i) ⊎ In x (from (suc i) k) → (In x (from (suc i) k) → (suc i ≤ x) × (x < suc i + k)) → (i ≤ x) × (x < i + suc k)
    go (inl e) ih = omega arith
    go (inr j) ih = let b : (suc i ≤ x) × (x < suc i + k) = ih j in omega arith

pub in_below : (k x : ℕ) → x < k → In x (below k)
in_below k x h = in_from 0 k x zero-le (omega arith)

pub below_in : (k x : ℕ) → In x (below k) → x < k
below_in k x h = let b : (0 ≤ x) × (x < 0 + k) = from_in 0 k x h in omega arith

-- different numbers below k are at most k
pub pigeonhole : (k : ℕ) (l : List ℕ) → ((x : ℕ) → occ x l ≤ 1) → ((x : ℕ) → In x l → x < k) → length l ≤ k
pigeonhole k l once small = subst (λ (n : ℕ). length l ≤ n) (length_from 0 k) (length_le l (below k) each_fits)
  where
    go : (x n : ℕ) → occ x l ≡ n → n ≤ 1 → occ x l ≤ occ x (below k)
    go x zero e h = omega arith
    go x (suc n) e h = let i : In x (below k) = in_below k x (small x (omega arith)) in omega arith

    each_fits : (x : ℕ) → occ x l ≤ occ x (below k)
    each_fits x = go x (occ x l) refl (once x)

-- ---- selected, some, each

pub select_in : (p : ℕ → Bool) (x : ℕ) (xs : List ℕ) → In x (select p xs) → (In x xs) × (p x ≡ true)
unfolding select
select_in p x [] h = absurd (not_in_nil x h)
select_in p x (y ∷ ys) h = go (p y) refl h (select_in p x ys)
  where
    go : (b : Bool) → p y ≡ b → In x (cond b (y ∷ select p ys) (select p ys)) → (In x (select p ys) → (In x ys) × (p x ≡ true))
        → (In x (y ∷ ys)) × (p x ≡ true)
    go true e h ih = pick (in_cons x y (select p ys) h)
      where
        pick : (x ≡ y) ⊎ In x (select p ys) → (In x (y ∷ ys)) × (p x ≡ true)
        pick (inl s) = (subst (λ (k : ℕ). In k (y ∷ ys)) (sym s) (in_here y ys), ap p s ∙ e)
        pick (inr i) = (in_there x y ys (ih i).0, (ih i).1)
    go false e h ih = (in_there x y ys (ih h).0, (ih h).1)

pub in_select : (p : ℕ → Bool) (x : ℕ) (xs : List ℕ) → In x xs → p x ≡ true → In x (select p xs)
unfolding select
in_select p x [] h t = absurd (not_in_nil x h)
in_select p x (y ∷ ys) h t = go (p y) refl (in_cons x y ys h) (λ i. in_select p x ys i t)
  where
    go : (b : Bool) → p y ≡ b → (x ≡ y) ⊎ In x ys → (In x ys → In x (select p ys)) → In x (cond b (y ∷ select p ys) (select p ys))
    go true e (inl s) ih = subst (λ (k : ℕ). In k (y ∷ select p ys)) (sym s) (in_here y (select p ys))
    go true e (inr i) ih = in_there x y (select p ys) (ih i)
    go false e (inl s) ih = absurd (false≢true (sym e ∙ ap p (sym s) ∙ t))
    go false e (inr i) ih = ih i

pub any_some : (p : ℕ → Bool) (xs : List ℕ) → any p xs ≡ true → (x : ℕ) × (In x xs) × (p x ≡ true)
unfolding any
any_some p [] h = absurd (false≢true h)
any_some p (y ∷ ys) h = go (p y) refl h (any_some p ys)
  where
    go : (b : Bool) → p y ≡ b → (b || any p ys) ≡ true → (any p ys ≡ true → (x : ℕ) × (In x ys) × (p x ≡ true))
        → (x : ℕ) × (In x (y ∷ ys)) × (p x ≡ true)
    go true e h ih = (y, in_here y ys, e)
    go false e h ih = let r : (x : ℕ) × (In x ys) × (p x ≡ true) = ih h in (r.0, in_there r.0 y ys r.1, r.2)

pub some_any : (p : ℕ → Bool) (x : ℕ) (xs : List ℕ) → In x xs → p x ≡ true → any p xs ≡ true
unfolding any
some_any p x [] h t = absurd (not_in_nil x h)
some_any p x (y ∷ ys) h t = go (p y) refl (in_cons x y ys h) (λ i. some_any p x ys i t)
  where
    go : (b : Bool) → p y ≡ b → (x ≡ y) ⊎ In x ys → (In x ys → any p ys ≡ true) → (b || any p ys) ≡ true
    go true e s ih = refl
    go false e (inl s) ih = absurd (false≢true (sym e ∙ ap p (sym s) ∙ t))
    go false e (inr i) ih = ih i

pub any_none : (p : ℕ → Bool) (xs : List ℕ) → any p xs ≡ false → (x : ℕ) → In x xs → p x ≡ false
any_none p xs h x i = go (p x) refl
  where
    go : (b : Bool) → p x ≡ b → p x ≡ false
    go true e = absurd (true≢false (sym (some_any p x xs i e) ∙ h))
    go false e = e

-- ---- all but the first of each

pub in_tails : (x i : ℕ) (rs : List (List ℕ)) → In x (tail (get_or rs i [])) → In x (joined (map tail rs))
unfolding joined
in_tails x i [] h = absurd (not_in_nil x h)
in_tails x zero (r ∷ rs) h = omega (arith, occ_append x (tail r) (joined (map tail rs)))
in_tails x (suc i) (r ∷ rs) h = omega (arith, occ_append x (tail r) (joined (map tail rs)), in_tails x i rs h)

pub tails_in : (x : ℕ) (rs : List (List ℕ)) → In x (joined (map tail rs)) → (i : ℕ) × (i < length rs) × (In x (tail (get_or rs i [])))
unfolding joined
tails_in x [] h = absurd (not_in_nil x h)
tails_in x (r ∷ rs) h = go (occ x (tail r)) refl (tails_in x rs)
  where
    go : (n : ℕ) → occ x (tail r) ≡ n → (In x (joined (map tail rs)) → (i : ℕ) × (i < length rs) × (In x (tail (get_or rs i []))))
        → (i : ℕ) × (i < suc (length rs)) × (In x (tail (get_or (r ∷ rs) i [])))
    go zero e ih =
        let j : In x (joined (map tail rs)) = omega (arith, occ_append x (tail r) (joined (map tail rs))) in
        let f : (i : ℕ) × (i < length rs) × (In x (tail (get_or rs i []))) = ih j in
        (suc f.0, suc-le-suc f.1, f.2)
    go (suc n) e ih = (zero, zero-lt-suc (length rs), omega arith)

-- ---- queues in falling order

module _ (p : ℕ → ℕ) where
  pub falling_delete : (x : ℕ) (r : List ℕ) → Falling p r → Falling p (delete x r)
  unfolding delete
  falling_delete x [] f = tt
  falling_delete x (y ∷ ys) f = go (eqb x y) (falling_delete x ys f.1)
    where
      go : (b : Bool) → Falling p (delete x ys) → Falling p (cond b ys (y ∷ delete x ys))
      go true ih = f.1
      go false ih = (λ u i. f.0 u (in_delete x u ys i), ih)

  -- none after the first is higher than it
  pub falling_head : (y : ℕ) (ys : List ℕ) → Falling p (y ∷ ys) → (u : ℕ) → In u (y ∷ ys) → p u ≤ p y
  falling_head y ys f u i = go (in_cons u y ys i)
    where
      go : (u ≡ y) ⊎ In u ys → p u ≤ p y
      go (inl e) = let s : p u ≡ p y = ap p e in omega arith
      go (inr j) = f.0 u j

-- only what stands in the queue matters
pub falling_cong : (p q : ℕ → ℕ) (r : List ℕ) → ((u : ℕ) → In u r → p u ≡ q u) → Falling p r → Falling q r
falling_cong p q [] e f = tt
falling_cong p q (y ∷ ys) e f = (
  λ u i. let here : p y ≡ q y = e y (in_here y ys) in let there : p u ≡ q u = e u (in_there u y ys i) in omega (arith, f.0 u i),
  falling_cong p q ys (λ u i. e u (in_there u y ys i)) f.1,
)

-- place by place
pub falling_at : (p : ℕ → ℕ) (xs : List ℕ) → Falling p xs → (i j : ℕ) → i ≤ j → j < length xs → p (get_or xs j 0) ≤ p (get_or xs i 0)
falling_at p [] f i j h l = absurd (not-suc-le-zero l)
falling_at p (x ∷ xs) f zero zero h l = omega arith
falling_at p (x ∷ xs) f zero (suc j) h l = f.0 (get_or xs j 0) (in_get_or xs j (le_of_suc-le-suc l))
falling_at p (x ∷ xs) f (suc i) zero h l = absurd (not-suc-le-zero h)
falling_at p (x ∷ xs) f (suc i) (suc j) h l = falling_at p xs f.1 i j (le_of_suc-le-suc h) (le_of_suc-le-suc l)
