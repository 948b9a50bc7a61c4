-- An own effect that touches one task: of a machine that was settled before it, the movable tasks are limited after it. Every plan is one.
-- Assumes nothing.
use mathlib.Core.Path.{◌≡◌, refl, sym, ap, ◌∙◌, subst}
use mathlib.Core.Bool.{Bool, true, false, cond, not, ◌&&◌, true≢false}
use mathlib.Core.List.{List, [], ◌∷◌, tail}
use mathlib.Core.Logic.{◌≢◌, ◌⊎◌, inl, inr}
use mathlib.Core.Option.{none, some}
use Prim.Native.Nat.{ℕ, ◌≤◌, ◌<◌}
use native.Mathlib.Omega.{arith}
use lib.Dec.{eqb, ltb}
use lib.ListN.{length, get_or}
use lib.Seq.{set_out}
use borrow.Author.Tests.{ltb-true, ltb-false, lt-ltb, eqb-true, eq-eqb, ne_eqb}
use Rattle.bits.specs.Bit.{bit}
use Rattle.rules.specs.Lists.{occ, In, Falling, insert_before, delete}
use Rattle.rules.specs.Machine.{Machine, Task, Column, task_of, prio_of, row, flag, is_online, idle_level, head, running, row_level, level, level_of, invalid, allowed, allows, runnable, store, write, with_row, with_flag, queued, entry_key, enqueue_at, dequeue}
use Rattle.rules.specs.WellFormed.{WellFormed}
use Rattle.rules.specs.Migration.{waiting, next}
use Rattle.rules.specs.Plan.{Plan, left, wrote, carried, When, Doable}
use Rattle.laws.specs.Limited.{holds, Limited, second, fallen_cpu, new_task}
use Rattle.laws.proofs.Bools.{both}
use Rattle.laws.proofs.Lists.{same?, digit_same, in_here, in_there, in_cons, not_in_nil, in_delete, occ_delete, delete_behind, in_tails, tails_in}
use Rattle.laws.proofs.Rows.{row_same, row_other, store_other, write_other}
use Rattle.laws.proofs.Apart.{in_row, row_in, once, runnable_fit, apart_dequeue, apart_idle}
use Rattle.laws.proofs.Online.{idle_online, row_online, allows_online}
use Rattle.laws.proofs.Choice.{movable_by, none_movable}
use Rattle.laws.proofs.Limited.{holds_some, some_holds, none_some, delete_first, in_delete_other, waits_in, first_in, runs_not_waits}

-- ---- leaving and entering, seen from the others

pub delete_nil : (x : ℕ) → delete x [] ≡ []
unfolding delete
delete_nil x = refl

pub delete_absent : (x : ℕ) (r : List ℕ) → (In x r → ⊥) → delete x r ≡ r
delete_absent x [] h = delete_nil x
delete_absent x (y ∷ ys) h =
    delete_behind x y ys (λ e. h (subst (λ (k : ℕ). In k (y ∷ ys)) (sym e) (in_here y ys)))
    ∙ ap (λ (r : List ℕ). y ∷ r) (delete_absent x ys (λ i. h (in_there x y ys i)))

-- who stands there once is gone after leaving once
pub delete_twice : (x : ℕ) (r : List ℕ) → occ x r ≤ 1 → delete x (delete x r) ≡ delete x r
delete_twice x r h = delete_absent x (delete x r) (λ i. let j : In x r = in_delete x x r i in omega (arith, occ_delete x x r j, digit_same x x refl, i))

pub delete_insert : (p : ℕ → Bool) (x : ℕ) (r : List ℕ) → (In x r → ⊥) → delete x (insert_before p x r) ≡ r
unfolding insert_before
delete_insert p x [] h = delete_first x x [] refl
delete_insert p x (y ∷ ys) h = go (p y) (delete_insert p x ys (λ i. h (in_there x y ys i)))
  where
    go : (b : Bool) → delete x (insert_before p x ys) ≡ ys → delete x (cond b (x ∷ y ∷ ys) (y ∷ insert_before p x ys)) ≡ y ∷ ys
    go true ih = delete_first x x (y ∷ ys) refl
    go false ih =
        delete_behind x y (insert_before p x ys) (λ e. h (subst (λ (k : ℕ). In k (y ∷ ys)) (sym e) (in_here y ys))) ∙ ap (λ (r : List ℕ). y ∷ r) ih

-- ---- a settled machine

pub settled_above : (m : Machine) (u c : ℕ) → next m ≡ none → In u (waiting m) → c < m.n → allowed m u c ≡ true → level_of (prio_of m u) ≤ level m c
settled_above m u c e i s a = go (ltb (level m c) (level_of (prio_of m u))) refl
  where
    go : (b : Bool) → ltb (level m c) (level_of (prio_of m u)) ≡ b → level_of (prio_of m u) ≤ level m c
    go true h = absurd (true≢false (sym (movable_by m u c s a (ltb-true (level m c) (level_of (prio_of m u)) h)) ∙ none_movable m u e i))
    go false h = ltb-false (level m c) (level_of (prio_of m u)) h

-- ---- what was read before the effect

-- t ran on CPU c: it ran on its CPU, which is c
pub ran_there : (m : Machine) (t c : ℕ) → WellFormed m → holds (running m c) t ≡ (holds (running m (task_of m t).cpu) t && eqb (task_of m t).cpu c)
ran_there m t c w = go (same? (task_of m t).cpu c)
  where
    and_true : (b : Bool) → b ≡ (b && true)
    and_true true = refl
    and_true false = refl

    and_false : (b : Bool) → false ≡ (b && false)
    and_false true = refl
    and_false false = refl

    no : (b : Bool) → holds (running m c) t ≡ b → (task_of m t).cpu ≢ c → b ≡ false
    no true h n = absurd (n (in_row m t c w (first_in t (row m c) (holds_some (running m c) t h))).1)
    no false h n = refl

    go : ((task_of m t).cpu ≡ c) ⊎ ((task_of m t).cpu ≢ c) → holds (running m c) t ≡ (holds (running m (task_of m t).cpu) t && eqb (task_of m t).cpu c)
    go (inl e) =
        ap (λ (x : ℕ). holds (running m x) t) (sym e) ∙ and_true (holds (running m (task_of m t).cpu) t)
        ∙ ap (λ (b : Bool). holds (running m (task_of m t).cpu) t && b) (sym (eq-eqb (task_of m t).cpu c e))
    go (inr n) =
        no (holds (running m c) t) refl n ∙ and_false (holds (running m (task_of m t).cpu) t)
        ∙ ap (λ (b : Bool). holds (running m (task_of m t).cpu) t && b) (sym (ne_eqb (task_of m t).cpu c n))

-- ---- one task is touched

-- but for task t, the rows are the same, and so is what counts of the other tasks
pub record Touches (t : ℕ) (m m' : Machine) : Type 0 where
  pub n : m'.n ≡ m.n
  pub flags : (c : ℕ) → flag m' c ≡ flag m c
  pub rows : (c : ℕ) → delete t (row m' c) ≡ delete t (row m c)
  pub prio : (u : ℕ) → u ≢ t → prio_of m' u ≡ prio_of m u
  pub online : m'.online ≡ m.online
  pub allowed : (u c : ℕ) → u ≢ t → allowed m' u c ≡ allowed m u c

-- ---- what the two options say of a task t that an effect touches, and perhaps others with it

module _ (t : ℕ) (m m' : Machine) (w : WellFormed m) (w' : WellFormed m') where
  abbrev from : ℕ
  from = (task_of m t).cpu

  abbrev to : ℕ
  to = (task_of m' t).cpu

  pub ran_cpu : (c : ℕ) → running m c ≡ some t → from ≡ c
  ran_cpu c e = (in_row m t c w (first_in t (row m c) e)).1

  pub fallen_is : (c : ℕ) → running m c ≡ some t → level m' c < level m c → fallen_cpu t m m' ≡ some c
  fallen_is c e h =
      ap (λ (b : Bool). cond (b && ltb (level m' from) (level m from)) (some from) none) (some_holds (running m from) t (ap (running m) at ∙ e))
      ∙ ap (λ (b : Bool). cond b (some from) none) (lt-ltb (level m' from) (level m from) (subst (λ (x : ℕ). level m' x < level m x) (sym at) h))
      ∙ ap (λ (x : ℕ). some x) at
    where
      at : from ≡ c
      at = ran_cpu c e

  pub fallen_means : (c : ℕ) → fallen_cpu t m m' ≡ some c → (running m c ≡ some t) × (c < m.n)
  fallen_means c e = go (holds (running m from) t && ltb (level m' from) (level m from)) refl e
    where
      go : (b : Bool) → (holds (running m from) t && ltb (level m' from) (level m from)) ≡ b → cond b (some from) none ≡ some c → (running m c ≡ some t) × (c < m.n)
      go false h e = absurd (none_some c e)
      go true h e =
          let s : from ≡ c = cc in
          let r : running m from ≡ some t = holds_some (running m from) t (both (holds (running m from) t) (ltb (level m' from) (level m from)) h).0 in
          let q : (task_of m t).state ≡ runnable = (in_row m t from w (first_in t (row m from) r)).0 in
          (subst (λ (x : ℕ). running m x ≡ some t) s r, subst (λ (x : ℕ). x < m.n) s (runnable_fit m t w q).cpu)

  -- t waits
  pub new_waits : In t (waiting m') → new_task t m m' ≡ some t
  new_waits i = go (tails_in t m'.rows i)
    where
      no : (b : Bool) → holds (running m' to) t ≡ b → cond b (cond (holds (running m to) t) none (second (row m' to))) (some t) ≡ some t
      no true h = absurd (runs_not_waits m' w' to t (holds_some (running m' to) t h) i)
      no false h = refl

      go : (d : ℕ) × (d < length m'.rows) × (In t (tail (row m' d))) → new_task t m m' ≡ some t
      go f =
          ap (λ (b : Bool). cond b (cond (holds (running m' to) t) (cond (holds (running m to) t) none (second (row m' to))) (some t)) none)
          (eq-eqb (task_of m' t).state runnable (in_row m' t f.0 w' (waits_in m' t f.0 f.2)).0)
          ∙ no (holds (running m' to) t) refl

  -- t runs on CPU c
  pub new_runs : (c : ℕ) → running m' c ≡ some t → new_task t m m' ≡ cond (holds (running m c) t) none (second (row m' c))
  new_runs c r =
      ap (λ (b : Bool). cond b (cond (holds (running m' to) t) (cond (holds (running m to) t) none (second (row m' to))) (some t)) none)
      (eq-eqb (task_of m' t).state runnable here.0)
      ∙ ap (λ (b : Bool). cond b (cond (holds (running m to) t) none (second (row m' to))) (some t)) (some_holds (running m' to) t (ap (running m') here.1 ∙ r))
      ∙ ap (λ (x : ℕ). cond (holds (running m x) t) none (second (row m' x))) here.1
    where
      here : ((task_of m' t).state ≡ runnable) × ((task_of m' t).cpu ≡ c)
      here = in_row m' t c w' (first_in t (row m' c) r)

  -- the new task waits
  pub new_task_waits : (x : ℕ) → new_task t m m' ≡ some x → In x (waiting m')
  new_task_waits x e = go (eqb (task_of m' t).state runnable) refl e
    where
      behind : (r : List ℕ) → In t r → (head r ≡ some t → ⊥) → In t (tail r)
      behind [] i n = i
      behind (y ∷ ys) i n = pick (in_cons t y ys i)
        where
          pick : (t ≡ y) ⊎ In t ys → In t ys
          pick (inl s) = absurd (n (ap (λ (k : ℕ). some k) (sym s)))
          pick (inr j) = j

      ran : (b : Bool) → cond b none (second (row m' to)) ≡ some x → In x (waiting m')
      ran true e = absurd (none_some x e)
      ran false e = in_tails x to m'.rows (first_in x (tail (row m' to)) e)

      runs : (task_of m' t).state ≡ runnable → (b : Bool) → holds (running m' to) t ≡ b
          → cond b (cond (holds (running m to) t) none (second (row m' to))) (some t) ≡ some x → In x (waiting m')
      runs s true h e = ran (holds (running m to) t) e
      runs s false h e =
          let q : t ≡ x = cc in
          subst (λ (y : ℕ). In y (waiting m')) q
          (in_tails t to m'.rows (behind (row m' to) (row_in m' t w' s) (λ r. true≢false (sym (some_holds (running m' to) t r) ∙ h))))

      go : (b : Bool) → eqb (task_of m' t).state runnable ≡ b
          → cond b (cond (holds (running m' to) t) (cond (holds (running m to) t) none (second (row m' to))) (some t)) none ≡ some x → In x (waiting m')
      go true h e = runs (eqb-true (task_of m' t).state runnable h) (holds (running m' to) t) refl e
      go false h e = absurd (none_some x e)

-- ---- where it touches t alone

module _ (t : ℕ) (m m' : Machine) (w : WellFormed m) (w' : WellFormed m') (k : Touches t m m') where
  -- a level falls only where t ran
  pub levels_touched : (c : ℕ) → c < m.n → (level m c ≤ level m' c) ⊎ (running m c ≡ some t)
  levels_touched c s = go (row m c) (row m' c) refl (k.rows c) (w'.falling c)
    where
      flat : idle_level m' c ≡ idle_level m c
      flat = ap (λ (x : ℕ). cond (bit x c) (flag m' c) invalid) k.online ∙ ap (λ (x : ℕ). cond (is_online m c) x invalid) (k.flags c)

      -- where a task stands now, the CPU is online, and was
      low : (y : ℕ) → In y (row m' c) → idle_level m c ≤ 1
      low y i = omega (arith, idle_online m c (ap (λ (x : ℕ). bit x c) (sym k.online) ∙ row_online m' y c w' i), w.flags c s)

      go : (r r' : List ℕ) → row m' c ≡ r' → delete t r' ≡ delete t r → Falling (prio_of m') r'
          → (row_level (prio_of m) (idle_level m c) r ≤ row_level (prio_of m') (idle_level m' c) r') ⊎ (head r ≡ some t)
      go [] [] e d f = inl (omega (arith, flat))
      go [] (y ∷ ys) e d f = inl (omega (arith, low y (subst (In y) (sym e) (in_here y ys))))
      go (h ∷ r) r' e d f = pick (same? h t)
        where
          stays : h ≢ t → (r' : List ℕ) → delete t r' ≡ h ∷ delete t r → Falling (prio_of m') r'
              → level_of (prio_of m h) ≤ row_level (prio_of m') (idle_level m' c) r'
          stays n [] d f = absurd (let z : ◌≡◌ {A = ℕ} 0 1 = cc (delete_nil t) in omega arith)
          stays n (y ∷ ys) d f = which (same? y t)
            where
              same : prio_of m' h ≡ prio_of m h
              same = k.prio h n

              which : (y ≡ t) ⊎ (y ≢ t) → level_of (prio_of m h) ≤ level_of (prio_of m' y)
              which (inl e) =
                  let q : ys ≡ h ∷ delete t r = sym (delete_first t y ys e) ∙ d in
                  let l : prio_of m' h ≤ prio_of m' y = f.0 h (subst (In h) (sym q) (in_here h (delete t r))) in
                  omega (arith, same)
              which (inr o) =
                  let q : y ∷ delete t ys ≡ h ∷ delete t r = sym (delete_behind t y ys (λ x. o (sym x))) ∙ d in
                  let e : y ≡ h = cc in
                  let l : prio_of m' y ≡ prio_of m' h = ap (prio_of m') e in
                  omega (arith, same)

          pick : (h ≡ t) ⊎ (h ≢ t) → (level_of (prio_of m h) ≤ row_level (prio_of m') (idle_level m' c) r') ⊎ (some h ≡ some t)
          pick (inl e) = inr (ap (λ (x : ℕ). some x) e)
          pick (inr n) = inl (stays n r' (d ∙ delete_behind t h r (λ x. n (sym x))) f)

  -- another task that waits waited before, or t took its place
  pub waits_touched : (u c : ℕ) → u ≢ t → In u (tail (row m' c))
      → In u (tail (row m c)) ⊎ ((running m' c ≡ some t) × (second (row m' c) ≡ some u) × (running m c ≢ some t))
  waits_touched u c n i = go (row m c) (row m' c) (k.rows c) i
    where
      go : (r r' : List ℕ) → delete t r' ≡ delete t r → In u (tail r') → In u (tail r) ⊎ ((head r' ≡ some t) × (second r' ≡ some u) × (head r ≢ some t))
      go r [] d i = absurd (not_in_nil u i)
      go r (y ∷ ys) d i = which (same? y t) r d
        where
          here : (r : List ℕ) → y ≡ t → ys ≡ delete t r → In u (tail r) ⊎ ((some y ≡ some t) × (head ys ≡ some u) × (head r ≢ some t))
          here [] e d = absurd (not_in_nil u (subst (In u) (d ∙ delete_nil t) i))
          here (h ∷ r) e d = pick (same? h t)
            where
              pick : (h ≡ t) ⊎ (h ≢ t) → In u r ⊎ ((some y ≡ some t) × (head ys ≡ some u) × (some h ≢ some t))
              pick (inl s) = inl (subst (In u) (d ∙ delete_first t h r s) i)
              pick (inr o) = last (in_cons u h (delete t r) (subst (In u) q i))
                where
                  q : ys ≡ h ∷ delete t r
                  q = d ∙ delete_behind t h r (λ x. o (sym x))

                  last : (u ≡ h) ⊎ In u (delete t r) → In u r ⊎ ((some y ≡ some t) × (head ys ≡ some u) × (some h ≢ some t))
                  last (inl s) = inr (ap (λ (x : ℕ). some x) e, ap head q ∙ ap (λ (x : ℕ). some x) (sym s), λ x. o (cc))
                  last (inr j) = inl (in_delete t u r j)

          behind : (r : List ℕ) → y ∷ delete t ys ≡ delete t r → In u (delete t ys) → In u (tail r)
          behind [] d j = absurd (let z : ◌≡◌ {A = ℕ} 0 1 = cc (delete_nil t) in omega arith)
          behind (h ∷ r) d j = pick (same? h t)
            where
              pick : (h ≡ t) ⊎ (h ≢ t) → In u r
              pick (inl s) = subst (In u) (d ∙ delete_first t h r s) (in_there u y (delete t ys) j)
              pick (inr o) =
                  let q : y ∷ delete t ys ≡ h ∷ delete t r = d ∙ delete_behind t h r (λ x. o (sym x)) in
                  let e : delete t ys ≡ delete t r = cc in
                  in_delete t u r (subst (In u) e j)

          which : (y ≡ t) ⊎ (y ≢ t) → (r : List ℕ) → delete t (y ∷ ys) ≡ delete t r
              → In u (tail r) ⊎ ((some y ≡ some t) × (head ys ≡ some u) × (head r ≢ some t))
          which (inl e) r d = here r e (sym (delete_first t y ys e) ∙ d)
          which (inr o) r d = inl (behind r (sym (delete_behind t y ys (λ x. o (sym x))) ∙ d) (in_delete_other t u ys n i))

  -- who runs where t ran waited there
  pub runs_touched : (u c : ℕ) → u ≢ t → running m c ≡ some t → running m' c ≡ some u → In u (tail (row m c))
  runs_touched u c n a b = go (row m c) (row m' c) (k.rows c) a b
    where
      go : (r r' : List ℕ) → delete t r' ≡ delete t r → head r ≡ some t → head r' ≡ some u → In u (tail r)
      go [] r' d a b = absurd (none_some t a)
      go (h ∷ r) [] d a b = absurd (none_some u b)
      go (h ∷ r) (y ∷ ys) d a b =
          let e : h ≡ t = cc in
          let s : y ≡ u = cc in
          let q : y ∷ delete t ys ≡ r = sym (delete_behind t y ys (λ x. n (sym s ∙ sym x))) ∙ d ∙ delete_first t h r e in
          subst (In u) q (subst (λ (x : ℕ). In x (y ∷ delete t ys)) s (in_here y (delete t ys)))

  -- ---- settled before: limited after

  module _ (settled : next m ≡ none) where
    pub limited_touched : Limited m' (fallen_cpu t m m') (new_task t m m')
    limited_touched =
        record {
          small = λ c e. subst (λ (x : ℕ). c < x) (sym k.n) (fallen_means t m m' w w' c e).1;
          waits = new_task_waits t m m' w w';
          only = λ u c i s a h. only u c (subst (λ (x : ℕ). c < x) k.n s) i a h (same? u t);
          quiet = λ x c u d e f r s n a. quiet x c u d e (fallen_means t m m' w w' c f).0 r (subst (λ (x : ℕ). d < x) k.n s) n a (same? u t);
        }
      where
        -- another task that waited found no CPU below it
        above : (u c : ℕ) → u ≢ t → In u (waiting m) → c < m.n → allowed m' u c ≡ true → level_of (prio_of m' u) ≤ level m c
        above u c n i s a =
            let p : prio_of m' u ≡ prio_of m u = k.prio u n in
            omega (arith, settled_above m u c settled i s (sym (k.allowed u c n) ∙ a))

        only : (u c : ℕ) → c < m.n → In u (waiting m') → allowed m' u c ≡ true → level m' c < level_of (prio_of m' u) → (u ≡ t) ⊎ (u ≢ t)
            → (new_task t m m' ≡ some u) ⊎ (fallen_cpu t m m' ≡ some c)
        only u c s i a h (inl e) =
            inl (new_waits t m m' w w' (subst (λ (x : ℕ). In x (waiting m')) e i) ∙ ap (λ (x : ℕ). some x) (sym e))
        only u c s i a h (inr n) = go (tails_in u m'.rows i)
          where
            go : (d : ℕ) × (d < length m'.rows) × (In u (tail (row m' d))) → (new_task t m m' ≡ some u) ⊎ (fallen_cpu t m m' ≡ some c)
            go f = pick (waits_touched u f.0 n f.2)
              where
                fell : level m' c < level m c → (level m c ≤ level m' c) ⊎ (running m c ≡ some t) → fallen_cpu t m m' ≡ some c
                fell l (inl o) = absurd (omega arith)
                fell l (inr r) = fallen_is t m m' w w' c r l

                no : (b : Bool) → holds (running m f.0) t ≡ b → running m f.0 ≢ some t → second (row m' f.0) ≡ some u
                    → cond b none (second (row m' f.0)) ≡ some u
                no true x o q = absurd (o (holds_some (running m f.0) t x))
                no false x o q = q

                pick : In u (tail (row m f.0)) ⊎ ((running m' f.0 ≡ some t) × (second (row m' f.0) ≡ some u) × (running m f.0 ≢ some t))
                    → (new_task t m m' ≡ some u) ⊎ (fallen_cpu t m m' ≡ some c)
                pick (inl j) =
                    inr (fell (omega (arith, above u c n (in_tails u f.0 m.rows j) s a)) (levels_touched c s))
                pick (inr q) =
                    inl (new_runs t m m' w w' f.0 q.0 ∙ no (holds (running m f.0) t) refl q.2 q.1)

        quiet : (x c u d : ℕ) → new_task t m m' ≡ some x → running m c ≡ some t → running m' c ≡ some u → d < m.n → d ≢ c → allowed m' u d ≡ true
            → (u ≡ t) ⊎ (u ≢ t) → level_of (prio_of m' u) ≤ level m' d
        quiet x c u d e r r' s n a (inl q) =
            absurd (none_some x (sym (new_runs t m m' w w' c (r' ∙ ap (λ (y : ℕ). some y) q)
            ∙ ap (λ (b : Bool). cond b none (second (row m' c))) (some_holds (running m c) t r)) ∙ e))
        quiet x c u d e r r' s n a (inr o) = go (levels_touched d s)
          where
            high : level_of (prio_of m' u) ≤ level m d
            high = above u d o (in_tails u c m.rows (runs_touched u c o r r')) s a

            go : (level m d ≤ level m' d) ⊎ (running m d ≡ some t) → level_of (prio_of m' u) ≤ level m' d
            go (inl l) = omega (arith, high)
            go (inr q) = absurd (n (sym (ran_cpu t m m' w w' d q) ∙ ran_cpu t m m' w w' c r))

-- ---- what touches one task

pub touches_none : (t : ℕ) (m : Machine) → Touches t m m
touches_none t m = record { n = refl; flags = λ c. refl; rows = λ c. refl; prio = λ u o. refl; online = refl; allowed = λ u c o. refl }

pub touches_both : (t : ℕ) (a b c : Machine) → Touches t a b → Touches t b c → Touches t a c
touches_both t a b c x y =
    record {
      n = y.n ∙ x.n;
      flags = λ d. y.flags d ∙ x.flags d;
      rows = λ d. y.rows d ∙ x.rows d;
      prio = λ u o. y.prio u o ∙ x.prio u o;
      online = y.online ∙ x.online;
      allowed = λ u d o. y.allowed u d o ∙ x.allowed u d o;
    }

-- its columns
module _ (t : ℕ) (m : Machine) (a b c d e f : List ℕ) where
  abbrev other : Machine
  other = record { n = m.n; full = m.full; state = a; policy = b; prio = c; cpu = d; slice = e; mask = f; rows = m.rows; flags = m.flags; online = m.online }

  touches_columns : ((u : ℕ) → u ≢ t → task_of other u ≡ task_of m u) → Touches t m other
  touches_columns same =
      record {
        n = refl;
        flags = λ c. refl;
        rows = λ c. refl;
        prio = λ u o. ap (λ (τ : Task). τ.prio) (same u o);
        online = refl;
        allowed = λ u c o. ap (λ (τ : Task). allows m τ.mask c) (same u o);
      }

pub touches_store : (t : ℕ) (k : Column) (v : ℕ) (m : Machine) → Touches t m (store k t v m)
touches_store t Column.state v m = touches_columns t m _ _ _ _ _ _ (λ u n. store_other Column.state t v u m n)
touches_store t Column.policy v m = touches_columns t m _ _ _ _ _ _ (λ u n. store_other Column.policy t v u m n)
touches_store t Column.prio v m = touches_columns t m _ _ _ _ _ _ (λ u n. store_other Column.prio t v u m n)
touches_store t Column.cpu v m = touches_columns t m _ _ _ _ _ _ (λ u n. store_other Column.cpu t v u m n)
touches_store t Column.slice v m = touches_columns t m _ _ _ _ _ _ (λ u n. store_other Column.slice t v u m n)
touches_store t Column.mask v m = touches_columns t m _ _ _ _ _ _ (λ u n. store_other Column.mask t v u m n)

pub touches_write : (t : ℕ) (τ : Task) (m : Machine) → Touches t m (write t τ m)
touches_write t τ m = touches_columns t m _ _ _ _ _ _ (λ u n. write_other t u τ m n)

-- a row, which is the same without it
pub touches_row : (t c : ℕ) (r : List ℕ) (m : Machine) → delete t r ≡ delete t (row m c) → Touches t m (with_row c r m)
touches_row t c r m h =
    record { n = refl; flags = λ d. refl; rows = λ d. rows d (same? d c); prio = λ u o. refl; online = refl; allowed = λ u d o. refl }
  where
    at : (b : Bool) → ltb c (length m.rows) ≡ b → delete t (row (with_row c r m) c) ≡ delete t (row m c)
    at true e = ap (delete t) (row_same m c r (ltb-true c (length m.rows) e)) ∙ h
    at false e = ap (λ (rs : List (List ℕ)). delete t (get_or rs c [])) (set_out m.rows c r (ltb-false c (length m.rows) e))

    rows : (d : ℕ) → (d ≡ c) ⊎ (d ≢ c) → delete t (row (with_row c r m) d) ≡ delete t (row m d)
    rows d (inl e) =
        subst (λ (x : ℕ). delete t (row (with_row c r m) x) ≡ delete t (row m x)) (sym e) (at (ltb c (length m.rows)) refl)
    rows d (inr n) = ap (delete t) (row_other m c d r n)

pub touches_dequeue : (t c : ℕ) (m : Machine) → occ t (row m c) ≤ 1 → Touches t m (dequeue t c m)
touches_dequeue t c m h = touches_row t c (delete t (row m c)) m (delete_twice t (row m c) h)

pub touches_enqueue : (front : Bool) (t c : ℕ) (m : Machine) → occ t (row m c) ≡ 0 → Touches t m (enqueue_at front t c m)
touches_enqueue front t c m h =
    touches_both t m (with_row c r m) (enqueue_at front t c m) (touches_row t c r m (delete_insert (λ u. ltb (prio_of m u) (entry_key front (prio_of m t))) t (row m c) out ∙ sym (delete_absent t (row m c) out)))
    (touches_store t Column.cpu c (with_row c r m))
  where
    r : List ℕ
    r = queued (entry_key front (prio_of m t)) (prio_of m) t (row m c)

    out : In t (row m c) → ⊥
    out i = omega (arith, h)

-- ---- every plan touches its task alone

module _ (m : Machine) (p : Plan) (w : WellFormed m) (d : Doable m p) where
  abbrev t : ℕ
  t = p.task

  -- where it leaves, it stands there and nowhere else
  at_origin : (h : p.leaves ≡ true) → ((task_of m t).state ≡ runnable) × ((task_of m t).cpu ≡ p.origin)
  at_origin h = in_row m t p.origin w (subst (λ (b : Bool). When b ((p.origin < m.n) × In t (row m p.origin))) h d.leaves).1

  touches_left : Touches t m (left p m)
  touches_left = go p.leaves
    where
      go : (b : Bool) → Touches t m (cond b (dequeue t p.origin m) m)
      go true = touches_dequeue t p.origin m (once m t p.origin w)
      go false = touches_none t m

  -- where it enters, it stands in no row
  absent : (c : ℕ) → p.enters ≡ true → occ t (row (left p m) c) ≡ 0
  absent c e = go p.leaves refl d.stays
    where
      idle : ((task_of m t).state ≢ runnable) ⊎ ((p.becomes.prio ≡ (task_of m t).prio) × (p.enters ≡ false)) → occ t (row m c) ≡ 0
      idle (inl n) = (apart_idle t m w n).absent c
      idle (inr s) = absurd (true≢false (sym e ∙ s.1))

      go : (b : Bool) → p.leaves ≡ b → When (not b) (((task_of m t).state ≢ runnable) ⊎ ((p.becomes.prio ≡ (task_of m t).prio) × (p.enters ≡ false)))
          → occ t (row (cond b (dequeue t p.origin m) m) c) ≡ 0
      go true h s =
          subst (λ (o : ℕ). occ t (row (dequeue t o m) c) ≡ 0) (at_origin h).1 ((apart_dequeue t m w (at_origin h).0).absent c)
      go false h s = idle s

  touches_wrote : Touches t m (wrote p m)
  touches_wrote = touches_both t m (left p m) (wrote p m) touches_left (touches_write t p.becomes (left p m))

  pub touches_carried : Touches t m (carried p m)
  touches_carried = go p.enters refl
    where
      go : (b : Bool) → p.enters ≡ b → Touches t m (cond b (enqueue_at p.front t p.target (wrote p m)) (wrote p m))
      go true e =
          touches_both t m (wrote p m) (enqueue_at p.front t p.target (wrote p m)) touches_wrote
          (touches_enqueue p.front t p.target (wrote p m) (absent p.target e))
      go false e = touches_wrote

-- ---- no task is touched

pub limited_settled : (m : Machine) → next m ≡ none → Limited m none none
limited_settled m e =
    record {
      small = λ c h. absurd (none_some c h);
      waits = λ t h. absurd (none_some t h);
      only = λ u c i s a h. absurd (omega (arith, settled_above m u c e i s a));
      quiet = λ x c u d h. absurd (none_some x h);
    }

-- a flag: idle and ordinary work are both below every task
pub limited_flag : (m : Machine) (c b : ℕ) → WellFormed m → next m ≡ none → Limited (with_flag c b m) none none
limited_flag m c b w e =
    record {
      small = λ c h. absurd (none_some c h);
      waits = λ t h. absurd (none_some t h);
      only = λ u d i s a h. absurd (go d (row m d) (w.flags d s) (allows_online m (task_of m u).mask d a) (prio_of m u) (settled_above m u d e i s a) h);
      quiet = λ x c u d h. absurd (none_some x h);
    }
  where
    go : (d : ℕ) (r : List ℕ) → flag m d ≤ 1 → is_online m d ≡ true → (p : ℕ) → level_of p ≤ row_level (prio_of m) (idle_level m d) r
        → row_level (prio_of m) (idle_level (with_flag c b m) d) r < level_of p → ⊥
    go d [] l on p x y = omega (arith, idle_online m d on)
    go d (z ∷ zs) l on p x y = omega arith
