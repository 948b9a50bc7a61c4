-- The level of a CPU whose row changed: where the same task is first, or one of the same priority, it stays.
-- Assumes nothing.
use mathlib.Core.Path.{◌≡◌, refl, sym, ap, ◌∙◌, subst}
use mathlib.Core.Bool.{Bool, true, false, cond}
use mathlib.Core.List.{List, [], ◌∷◌}
use mathlib.Core.Logic.{◌⊎◌, inl, inr}
use mathlib.Core.Option.{Option, none, some}
use Prim.Native.Nat.{ℕ, ◌≤◌, ◌<◌}
use native.Mathlib.Omega.{arith}
use lib.Dec.{eqb, ltb}
use lib.ListN.{length, get_or, set, length-set}
use lib.Seq.{get_or-set_other, set-get_or}
use borrow.Author.Tests.{eqb-true, eq-eqb, ltb-false}
use Rattle.rules.specs.Lists.{Falling, insert_before, delete}
use Rattle.rules.specs.Machine.{Machine, Task, prio_of, row, head, running, idle_level, row_level, level, level_of, write, queued, dequeue}
use Rattle.rules.specs.Plan.{carried, enter, leave, reorder}
use Rattle.laws.proofs.Lists.{in_here}
use Rattle.laws.proofs.Rows.{row_same}
use Rattle.laws.proofs.Step.{level_head}

some_same : {x y : ℕ} → ◌≡◌ {A = Option ℕ} (some x) (some y) → x ≡ y
some_same {x} {y} e = ap (λ (o : Option ℕ). value o) e
  where
    value : Option ℕ → ℕ
    value none = x
    value (some z) = z

-- a row's level looks at the first of it alone
level_by : (p q : ℕ → ℕ) (f : ℕ) (r s : List ℕ) → head r ≡ head s → ((u : ℕ) → head s ≡ some u → p u ≡ q u) → row_level p f r ≡ row_level q f s
level_by p q f r s e h = level_head p f r s e ∙ go s h
  where
    go : (s : List ℕ) → ((u : ℕ) → head s ≡ some u → p u ≡ q u) → row_level p f s ≡ row_level q f s
    go [] h = refl
    go (u ∷ us) h = ap level_of (h u refl)

-- ---- the first of a row

head_inserted : (f : ℕ → Bool) (t : ℕ) (r : List ℕ) → (head (insert_before f t r) ≡ some t) ⊎ (head (insert_before f t r) ≡ head r)
unfolding insert_before
head_inserted f t [] = inl refl
head_inserted f t (u ∷ us) = go (f u)
  where
    go : (b : Bool) → (head (cond b (t ∷ u ∷ us) (u ∷ insert_before f t us)) ≡ some t) ⊎ (head (cond b (t ∷ u ∷ us) (u ∷ insert_before f t us)) ≡ some u)
    go true = inl refl
    go false = inr refl

head_deleted : (t : ℕ) (r : List ℕ) → (head r ≡ some t → ⊥) → head (delete t r) ≡ head r
unfolding delete
head_deleted t [] n = refl
head_deleted t (u ∷ us) n = go (eqb t u) refl
  where
    go : (b : Bool) → eqb t u ≡ b → head (cond b us (u ∷ delete t us)) ≡ some u
    go true e = absurd (n (ap some (sym (eqb-true t u e))))
    go false e = refl

-- ---- the plans

module _ (t : ℕ) (τ : Task) (m : Machine) (c : ℕ) (h : c < length m.rows) where
  -- it entered, and another is first
  pub entered_behind : (running (carried (enter t τ c) m) c ≡ some t → ⊥) → level (carried (enter t τ c) m) c ≡ level m c
  entered_behind n = level_by (prio_of (write t τ m)) (prio_of m) (idle_level m c) (row (carried (enter t τ c) m) c) (row m c) same
      (λ u e. get_or-set_other m.prio t u τ.prio 0 (λ z. n (same ∙ e ∙ ap some z)))
    where
      is : row (carried (enter t τ c) m) c ≡ queued (prio_of (write t τ m) t) (prio_of (write t τ m)) t (row m c)
      is = row_same (write t τ m) c _ h

      same : running (carried (enter t τ c) m) c ≡ running m c
      same = go (head_inserted (λ u. ltb (prio_of (write t τ m) u) (prio_of (write t τ m) t)) t (row m c))
        where
          go : (head (queued (prio_of (write t τ m) t) (prio_of (write t τ m)) t (row m c)) ≡ some t) ⊎ (head (queued (prio_of (write t τ m) t) (prio_of (write t τ m)) t (row m c)) ≡ head (row m c))
              → running (carried (enter t τ c) m) c ≡ running m c
          go (inl e) = absurd (n (ap head is ∙ e))
          go (inr e) = ap head is ∙ e

  -- it left, and another was first
  pub left_behind : (running m c ≡ some t → ⊥) → level (carried (leave t c τ) m) c ≡ level m c
  left_behind n = level_by (prio_of (carried (leave t c τ) m)) (prio_of m) (idle_level m c) (row (carried (leave t c τ) m) c) (row m c)
      (ap head (row_same m c _ h) ∙ head_deleted t (row m c) n)
      (λ u e. get_or-set_other m.prio t u τ.prio 0 (λ z. n (e ∙ ap some z)))

  -- it was first and went behind its equals
  module _ (same : τ.prio ≡ prio_of m t) (ts : List ℕ) (first : row m c ≡ t ∷ ts) (falling : Falling (prio_of m) (t ∷ ts)) where
    prio_same : set m.prio t τ.prio ≡ m.prio
    prio_same = ap (set m.prio t) same ∙ set-get_or m.prio t 0

    rest : delete t (row m c) ≡ ts
    unfolding delete
    rest = ap (delete t) first ∙ ap (λ (b : Bool). cond b ts (t ∷ delete t ts)) (eq-eqb t t refl)

    level_inserted : (q : ℕ → ℕ) (f : ℕ) (us : List ℕ) → Falling q (t ∷ us) → row_level q f (queued (q t) q t us) ≡ level_of (q t)
    unfolding insert_before
    level_inserted q f [] w = refl
    level_inserted q f (u ∷ us) w = go (ltb (q u) (q t)) refl
      where
        go : (b : Bool) → ltb (q u) (q t) ≡ b → row_level q f (cond b (t ∷ u ∷ us) (u ∷ insert_before (λ v. ltb (q v) (q t)) t us)) ≡ level_of (q t)
        go true e = refl
        go false e = ap level_of (let high : q t ≤ q u = ltb-false (q u) (q t) e in let low : q u ≤ q t = w.0 u (in_here u us) in omega arith)

    pub requeued_level : level (carried (reorder false t c τ) m) c ≡ level m c
    requeued_level =
        ap (row_level q (idle_level m c)) (row_same (write t τ (dequeue t c m)) c _ long ∙ queued_rest)
        ∙ level_inserted q (idle_level m c) ts (subst (λ (xs : List ℕ). Falling (λ u. get_or xs u 0) (t ∷ ts)) (sym prio_same) falling)
        ∙ ap (λ (xs : List ℕ). level_of (get_or xs t 0)) prio_same ∙ sym (ap (row_level (prio_of m) (idle_level m c)) first)
      where
        q : ℕ → ℕ
        q = prio_of (write t τ (dequeue t c m))

        long : c < length (write t τ (dequeue t c m)).rows
        long = subst (λ (k : ℕ). c < k) (sym (length-set m.rows c (delete t (row m c)))) h

        queued_rest : queued (q t) q t (row (write t τ (dequeue t c m)) c) ≡ queued (q t) q t ts
        queued_rest = ap (queued (q t) q t) (row_same m c (delete t (row m c)) h ∙ rest)
