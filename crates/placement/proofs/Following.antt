-- Levels that follow the rows: a list of levels is brought up to date for the CPUs whose rows changed.
-- Assumes nothing.
use mathlib.Core.Path.{◌≡◌, refl, sym, ap, ◌∙◌, subst}
use mathlib.Core.Bool.{Bool, true, false, cond}
use mathlib.Core.Logic.{◌≢◌, ◌⊎◌, inl, inr}
use mathlib.Core.List.{List}
use Prim.Native.Nat.{ℕ, ◌≤◌, ◌<◌}
use native.Mathlib.Omega.{arith}
use lib.Dec.{ltb}
use lib.ListN.{length, get_or, set, length-set}
use lib.Seq.{ext_get_or, get_or-set_same, get_or-set_other, set-get_or}
use borrow.Author.Tests.{ltb-true, ltb-false}
use Rattle.cpupri.specs.Level.{known}
use Rattle.cpupri.specs.Record.{record_of, Whole}
use Rattle.levels.specs.declared.record.Record.{Record}
use Rattle.levels.proofs.Whole.{whole_set}
use Rattle.rules.specs.Lists.{In}
use Rattle.rules.specs.Machine.{Machine, prio_of, row, flag, idle_level, level, levels, row_level, task_places, cpu_places, highest_priority}
use Rattle.rules.specs.Plan.{When}
use Rattle.laws.proofs.Lists.{same?}
use Rattle.laws.proofs.Online.{idle_online}
use Rattle.laws.proofs.Record.{length_levels, levels_below, levels_above}
use Rattle.runqueue.specs.Table.{row_at}
use Rattle.placement.specs.Held.{InOrder, Following, followed}
use Rattle.placement.proofs.Levels.{row_level_known, idle_known}
use Rattle.placement.proofs.Order.{read_row, above}

module _ (m : Machine) where
  pub length_followed : (b : Bool) (c : ℕ) (xs : List ℕ) → length (followed b c m xs) ≡ length xs
  length_followed true c xs = length-set xs c (level m c)
  length_followed false c xs = refl

  untouched : (b : Bool) (c e : ℕ) (xs : List ℕ) → (b ≡ true → e ≢ c) → get_or (followed b c m xs) e 0 ≡ get_or xs e 0
  untouched true c e xs n = get_or-set_other xs c e (level m c) 0 (n refl)
  untouched false c e xs n = refl

  -- a CPU's level is then right, or it did not follow
  right : (b : Bool) (c e : ℕ) (xs : List ℕ) → e < length xs → (get_or (followed b c m xs) e 0 ≡ level m e) ⊎ (b ≡ true → e ≢ c)
  right false c e xs h = inr (λ z. absurd (let bad : ◌≡◌ {A = ℕ} 0 1 = ap (λ (b : Bool). cond b 1 0) z in omega arith))
  right true c e xs h = go (same? e c)
    where
      go : (e ≡ c) ⊎ (e ≢ c) → (get_or (set xs c (level m c)) e 0 ≡ level m e) ⊎ (◌≡◌ {A = Bool} true true → e ≢ c)
      go (inl q) = inl (subst (λ (k : ℕ). get_or (set xs k (level m k)) e 0 ≡ level m e) q (get_or-set_same xs e (level m e) 0 h))
      go (inr n) = inr (λ z. n)

-- at most two CPUs' levels changed, and these followed
pub levels_followed : (m m' : Machine) (a b : Bool) (c d : ℕ) → m.n ≤ cpu_places → m'.n ≡ m.n → When a (c < m.n) → When b (d < m.n)
    → ((e : ℕ) → e < m.n → (a ≡ true → e ≢ c) → (b ≡ true → e ≢ d) → level m' e ≡ level m e)
    → levels m' ≡ followed b d m' (followed a c m' (levels m))
levels_followed m m' a b c d small same hc hd other =
    ext_get_or 0 (levels m') two (length_levels m' (omega arith) ∙ sym long) (λ e h. go e (omega (arith, length_levels m' (omega arith))) (ltb e m.n) refl)
  where
    one : List ℕ
    one = followed a c m' (levels m)

    two : List ℕ
    two = followed b d m' one

    long_one : length one ≡ cpu_places
    long_one = length_followed m' a c (levels m) ∙ length_levels m small

    long : length two ≡ cpu_places
    long = length_followed m' b d one ∙ long_one

    -- a CPU that follows is one of the machine's
    beyond : (x : Bool) (f e : ℕ) → When x (f < m.n) → m.n ≤ e → x ≡ true → e ≢ f
    beyond true f e h g z q = omega arith
    beyond false f e h g z q = let bad : ◌≡◌ {A = ℕ} 0 1 = ap (λ (b : Bool). cond b 1 0) z in omega arith

    below : (e : ℕ) → e < cpu_places → e < m.n → (get_or two e 0 ≡ level m' e) ⊎ (b ≡ true → e ≢ d) → (get_or one e 0 ≡ level m' e) ⊎ (a ≡ true → e ≢ c)
        → get_or two e 0 ≡ level m' e
    below e s h (inl y) x = y
    below e s h (inr y) (inl x) = untouched m' b d e one y ∙ x
    below e s h (inr y) (inr x) = untouched m' b d e one y ∙ untouched m' a c e (levels m) x ∙ levels_below m e h ∙ sym (other e h x y)

    go : (e : ℕ) → e < cpu_places → (x : Bool) → ltb e m.n ≡ x → get_or (levels m') e 0 ≡ get_or two e 0
    go e s true q =
        let h : e < m.n = ltb-true e m.n q in
        levels_below m' e (omega arith)
        ∙ sym (below e s h (right m' b d e one (omega (arith, long_one))) (right m' a c e (levels m) (omega (arith, length_levels m small))))
    go e s false q =
        let g : m.n ≤ e = ltb-false e m.n q in
        levels_above m' e (omega arith) s
        ∙ sym (untouched m' b d e one (beyond b d e hd g) ∙ untouched m' a c e (levels m) (beyond a c e hc g) ∙ levels_above m e g s)

-- ---- the level that the code works out

level_fits_lem : (m : Machine) → InOrder m → (c : ℕ) → c < m.n → known (level m c) ≡ true
level_fits_lem m o c h = row_level_known (prio_of m) (idle_level m c) (row m c) (idle_known m c (o.flags c h)) (o.high c)

module _ {m : Machine} {ps fs ks flat : List ℕ} {c : ℕ} (l : Following m ps fs ks flat c) where
  -- what stands in the row has a place and a priority
  pub tasks_read : (u : ℕ) → In u (row_at ks flat c) → (u < task_places) × (get_or ps u 0 ≤ highest_priority)
  tasks_read u i =
      let h : (u < task_places) × (get_or m.prio u 0 ≤ highest_priority) = above m m.prio ks flat _ l.queues c u i in
      (h.0, subst (λ (qs : List ℕ). get_or qs u 0 ≤ highest_priority) (sym l.prio) h.1)

  pub flag_read : get_or fs c 0 ≤ 1
  flag_read = subst (λ (gs : List ℕ). get_or gs c 0 ≤ 1) (sym l.flags) (l.queues.order.flags c l.cpu)

  pub level_read : {v : ℕ} → v ≡ row_level (λ (u : ℕ). get_or ps u 0) (get_or fs c 0) (row_at ks flat c) → v ≡ level m c
  level_read e =
      e ∙ ap (λ (qs : List ℕ). row_level (λ (u : ℕ). get_or qs u 0) (get_or fs c 0) (row_at ks flat c)) l.prio
      ∙ ap (λ (gs : List ℕ). row_level (prio_of m) (get_or gs c 0) (row_at ks flat c)) l.flags
      ∙ ap (row_level (prio_of m) (flag m c)) (read_row m m.prio ks flat _ l.queues c)
      ∙ ap (λ (f : ℕ). row_level (prio_of m) f (row m c)) (sym (idle_online m c l.online))

  pub level_ok : {v : ℕ} → v ≡ level m c → known v ≡ true
  level_ok e = subst (λ (x : ℕ). known x ≡ true) (sym e) (level_fits_lem m l.queues.order c l.cpu)

  module _ {r : Record} (whole : Whole r) where
    -- it was right before
    pub unmoved : {v : ℕ} → v ≡ level m c → v ≡ get_or r.levels c 0 → r ≡ record_of (set r.levels c (level m c))
    unmoved e h = whole.same ∙ ap record_of (sym (ap (set r.levels c) (sym e ∙ h) ∙ simp set-get_or))

    pub still_whole : Whole (record_of (set r.levels c (level m c)))
    still_whole = whole_set r whole c (level m c) (level_fits_lem m l.queues.order c l.cpu)
