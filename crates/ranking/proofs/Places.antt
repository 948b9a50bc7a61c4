-- A row place by place: where a task stands, and what stands where after one leaves or enters.
-- Assumes nothing.
use mathlib.Core.Path.{◌≡◌, refl, sym, ap, ◌∙◌}
use mathlib.Core.Bool.{Bool, true, false, cond}
use mathlib.Core.Logic.{◌≢◌, ◌⊎◌, inl, inr}
use mathlib.Core.List.{List, [], ◌∷◌, ◌++◌}
use Prim.Native.Nat.{ℕ, zero, suc, ◌+◌, ◌-◌, ◌≤◌, ◌<◌, zero-le, suc-le-suc}
use native.Mathlib.Nat.{not-suc-le-zero, le_of_suc-le-suc, zero-lt-suc}
use native.Mathlib.Omega.{arith}
use lib.Dec.{eqb, leb}
use lib.ListN.{length, get_or, replicate, get_or-replicate, get_or-append}
use lib.Seq.{get_or-append-add}
use borrow.Author.Tests.{eqb-false, leb-true, leb-false}
use Rattle.rules.specs.Lists.{In, place, insert_before, delete}
use Rattle.rules.specs.Machine.{task_places}
use Rattle.rules.specs.Tables.{nothing, padded}
use Rattle.laws.proofs.Lists.{in_cons}
use Rattle.ranking.specs.Row.{ahead}

-- ---- where a task stands

-- nothing before it is it
pub place_before : (x : ℕ) (xs : List ℕ) (k : ℕ) → k < place x xs → get_or xs k 0 ≢ x
unfolding place
place_before x [] k h e = not-suc-le-zero h
place_before x (y ∷ ys) k h e = go (eqb x y) refl k h e (place_before x ys)
  where
    go : (b : Bool) → eqb x y ≡ b → (k : ℕ) → k < cond b 0 (suc (place x ys)) → get_or (y ∷ ys) k 0 ≡ x
        → ((k : ℕ) → k < place x ys → get_or ys k 0 ≢ x) → ⊥
    go true t k l e rest = not-suc-le-zero l
    go false t zero l e rest = eqb-false x y t (sym e)
    go false t (suc k) l e rest = rest k (le_of_suc-le-suc l) e

-- ---- after it leaves

pub delete_before : (x : ℕ) (xs : List ℕ) (k : ℕ) → k < place x xs → get_or (delete x xs) k 0 ≡ get_or xs k 0
unfolding place delete
delete_before x [] k h = refl
delete_before x (y ∷ ys) k h = go (eqb x y) k h (delete_before x ys)
  where
    go : (b : Bool) (k : ℕ) → k < cond b 0 (suc (place x ys)) → ((k : ℕ) → k < place x ys → get_or (delete x ys) k 0 ≡ get_or ys k 0)
        → get_or (cond b ys (y ∷ delete x ys)) k 0 ≡ get_or (y ∷ ys) k 0
    go true k l rest = absurd (not-suc-le-zero l)
    go false zero l rest = refl
    go false (suc k) l rest = rest k (le_of_suc-le-suc l)

pub delete_after : (x : ℕ) (xs : List ℕ) (k : ℕ) → In x xs → place x xs ≤ k → get_or (delete x xs) k 0 ≡ get_or xs (suc k) 0
unfolding place delete
delete_after x [] k i h = refl
delete_after x (y ∷ ys) k i h = go (eqb x y) refl k h (delete_after x ys)
  where
    behind : eqb x y ≡ false → In x ys
    behind e = skip (in_cons x y ys i)
      where
        skip : (x ≡ y) ⊎ In x ys → In x ys
        skip (inl q) = absurd (eqb-false x y e q)
        skip (inr j) = j

    go : (b : Bool) → eqb x y ≡ b → (k : ℕ) → cond b 0 (suc (place x ys)) ≤ k
        → ((k : ℕ) → In x ys → place x ys ≤ k → get_or (delete x ys) k 0 ≡ get_or ys (suc k) 0)
        → get_or (cond b ys (y ∷ delete x ys)) k 0 ≡ get_or ys k 0
    go true e k l rest = refl
    go false e zero l rest = absurd (not-suc-le-zero l)
    go false e (suc k) l rest = rest k (behind e) (le_of_suc-le-suc l)

-- ---- after it enters

module _ (p : ℕ → Bool) (x : ℕ) where
  pub insert_before_lem : (xs : List ℕ) (k : ℕ) → k < ahead p xs → get_or (insert_before p x xs) k 0 ≡ get_or xs k 0
  unfolding ahead insert_before
  insert_before_lem [] k h = absurd (not-suc-le-zero h)
  insert_before_lem (y ∷ ys) k h = go (p y) k h (insert_before_lem ys)
    where
      go : (b : Bool) (k : ℕ) → k < cond b 0 (suc (ahead p ys)) → ((k : ℕ) → k < ahead p ys → get_or (insert_before p x ys) k 0 ≡ get_or ys k 0)
          → get_or (cond b (x ∷ y ∷ ys) (y ∷ insert_before p x ys)) k 0 ≡ get_or (y ∷ ys) k 0
      go true k l rest = absurd (not-suc-le-zero l)
      go false zero l rest = refl
      go false (suc k) l rest = rest k (le_of_suc-le-suc l)

  pub insert_at : (xs : List ℕ) → get_or (insert_before p x xs) (ahead p xs) 0 ≡ x
  unfolding ahead insert_before
  insert_at [] = refl
  insert_at (y ∷ ys) = go (p y) (insert_at ys)
    where
      go : (b : Bool) → get_or (insert_before p x ys) (ahead p ys) 0 ≡ x
          → get_or (cond b (x ∷ y ∷ ys) (y ∷ insert_before p x ys)) (cond b 0 (suc (ahead p ys))) 0 ≡ x
      go true rest = refl
      go false rest = rest

  pub insert_after : (xs : List ℕ) (k : ℕ) → ahead p xs ≤ k → get_or (insert_before p x xs) (suc k) 0 ≡ get_or xs k 0
  unfolding ahead insert_before
  insert_after [] k h = refl
  insert_after (y ∷ ys) k h = go (p y) k h (insert_after ys)
    where
      go : (b : Bool) (k : ℕ) → cond b 0 (suc (ahead p ys)) ≤ k → ((k : ℕ) → ahead p ys ≤ k → get_or (insert_before p x ys) (suc k) 0 ≡ get_or ys k 0)
          → get_or (cond b (x ∷ y ∷ ys) (y ∷ insert_before p x ys)) (suc k) 0 ≡ get_or (y ∷ ys) k 0
      go true k l rest = refl
      go false zero l rest = absurd (not-suc-le-zero l)
      go false (suc k) l rest = rest k (le_of_suc-le-suc l)

-- ---- how many stand ahead

pub ahead_le : (p : ℕ → Bool) (xs : List ℕ) → ahead p xs ≤ length xs
unfolding ahead
ahead_le p [] = zero-le
ahead_le p (y ∷ ys) = go (p y) (ahead_le p ys)
  where
    go : (b : Bool) → ahead p ys ≤ length ys → cond b 0 (suc (ahead p ys)) ≤ suc (length ys)
    go true l = zero-le
    go false l = suc-le-suc l

-- i, where none before i passes the test, and i is the end or passes it
pub ahead_is : (p : ℕ → Bool) (xs : List ℕ) (i : ℕ) → i ≤ length xs → ((k : ℕ) → k < i → p (get_or xs k 0) ≡ false)
    → (i < length xs → p (get_or xs i 0) ≡ true) → ahead p xs ≡ i
unfolding ahead
ahead_is p [] zero h b t = refl
ahead_is p [] (suc i) h b t = absurd (not-suc-le-zero h)
ahead_is p (y ∷ ys) zero h b t = ap (λ (x : Bool). cond x 0 (suc (ahead p ys))) (t (zero-lt-suc (length ys)))
ahead_is p (y ∷ ys) (suc i) h b t =
    ap (λ (x : Bool). cond x 0 (suc (ahead p ys))) (b zero (zero-lt-suc i))
    ∙ ap suc (ahead_is p ys i (le_of_suc-le-suc h) (λ k l. b (suc k) (suc-le-suc l)) (λ l. t (suc-le-suc l)))

-- none before it passes, and where it is within the list it does
pub ahead_before : (p : ℕ → Bool) (xs : List ℕ) (k : ℕ) → k < ahead p xs → p (get_or xs k 0) ≡ false
unfolding ahead
ahead_before p [] k h = absurd (not-suc-le-zero h)
ahead_before p (y ∷ ys) k h = go (p y) refl k h (ahead_before p ys)
  where
    go : (b : Bool) → p y ≡ b → (k : ℕ) → k < cond b 0 (suc (ahead p ys)) → ((k : ℕ) → k < ahead p ys → p (get_or ys k 0) ≡ false) → p (get_or (y ∷ ys) k 0) ≡ false
    go true e k l rest = absurd (not-suc-le-zero l)
    go false e zero l rest = e
    go false e (suc k) l rest = rest k (le_of_suc-le-suc l)

pub ahead_here : (p : ℕ → Bool) (xs : List ℕ) → ahead p xs < length xs → p (get_or xs (ahead p xs) 0) ≡ true
unfolding ahead
ahead_here p [] h = absurd (not-suc-le-zero h)
ahead_here p (y ∷ ys) h = go (p y) refl h (ahead_here p ys)
  where
    go : (b : Bool) → p y ≡ b → cond b 0 (suc (ahead p ys)) < suc (length ys) → (ahead p ys < length ys → p (get_or ys (ahead p ys) 0) ≡ true)
        → p (get_or (y ∷ ys) (cond b 0 (suc (ahead p ys))) 0) ≡ true
    go true e l rest = e
    go false e l rest = rest (le_of_suc-le-suc l)

-- what stands at i stands at i or earlier
pub place_le : (x : ℕ) (xs : List ℕ) (i : ℕ) → get_or xs i 0 ≡ x → place x xs ≤ i
place_le x xs i e = go (leb (place x xs) i) refl
  where
    go : (b : Bool) → leb (place x xs) i ≡ b → place x xs ≤ i
    go true t = leb-true (place x xs) i t
    go false t = absurd (place_before x xs i (leb-false (place x xs) i t) e)

-- ---- the 512 places

pub padded_in : (r : List ℕ) (k : ℕ) → k < length r → get_or (padded r) k 0 ≡ get_or r k 0
unfolding padded
padded_in r k h = get_or-append r (replicate (task_places - length r) nothing) 0 k h

pub padded_out : (r : List ℕ) (k : ℕ) → length r ≤ k → k < task_places → get_or (padded r) k 0 ≡ nothing
unfolding padded
padded_out r k h l =
    let place_of : k ≡ length r + (k - length r) = omega arith in
    ap (λ (i : ℕ). get_or (r ++ replicate (task_places - length r) nothing) i 0) place_of
    ∙ get_or-append-add r (replicate (task_places - length r) nothing) (k - length r) 0
    ∙ get_or-replicate (task_places - length r) (k - length r) nothing 0 (omega arith)
