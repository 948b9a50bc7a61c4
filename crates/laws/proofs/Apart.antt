-- A machine that is well-formed but for one task, which stands in no row: what leaving gives, and what writing that task and entering need.
-- The room theorem: such a machine has a free place in every row.
-- Assumes nothing.
use mathlib.Core.Path.{◌≡◌, refl, sym, ap, ◌∙◌, subst}
use mathlib.Core.Bool.{Bool, true, false, cond, ◌&&◌}
use mathlib.Core.Logic.{◌≢◌, ◌⊎◌, inl, inr}
use mathlib.Core.List.{List, [], ◌∷◌}
use Prim.Native.Nat.{ℕ, suc, ◌+◌, ◌≤◌, ◌<◌, ◌^◌}
use native.Mathlib.Omega.{arith}
use lib.Dec.{eqb, ltb}
use lib.ListN.{length, get_or-eq_default}
use borrow.Author.Tests.{eq-eqb, ne_eqb, ltb-true, ltb-false}
use Rattle.bits.specs.Bit.{digit}
use Rattle.rules.specs.Lists.{occ, In, Falling, insert_before, delete}
use Rattle.rules.specs.Machine.{Machine, Task, Column, task_of, free_task, prio_of, row, flag, allowed, allows, runnable, task_places}
use Rattle.rules.specs.Machine.{store, write, with_row, queued, entry_key, enqueue_at, enqueue, dequeue}
use Rattle.rules.specs.WellFormed.{Shape, Fit, Sound, is_free, is_asleep, is_runnable, standing, WellFormed}
use Rattle.laws.proofs.Lists.{same?, digit_same, digit_other, occ_cons, in_cons, not_in_nil, occ_insert, occ_delete}
use Rattle.laws.proofs.Lists.{falling_delete, falling_head, falling_cong, pigeonhole}
use Rattle.laws.proofs.Rows.{row_cases, put, store_other, store_same, write_other, shape_store, shape_write, shape_row}

-- ---- where a task has to stand

pub standing_home : (τ : Task) (c : ℕ) → τ.state ≡ runnable → τ.cpu ≡ c → standing τ c ≡ 1
standing_home τ c s h = rw (eq-eqb τ.state runnable s, eq-eqb τ.cpu c h)

pub standing_away : (τ : Task) (c : ℕ) → τ.cpu ≢ c → standing τ c ≡ 0
standing_away τ c h = ap (λ (b : Bool). digit (eqb τ.state runnable && b)) (ne_eqb τ.cpu c h) ∙ go (eqb τ.state runnable)
  where
    go : (b : Bool) → digit (b && false) ≡ 0
    go true = refl
    go false = refl

pub standing_idle : (τ : Task) (c : ℕ) → τ.state ≢ runnable → standing τ c ≡ 0
standing_idle τ c h = ap (λ (b : Bool). digit (b && eqb τ.cpu c)) (ne_eqb τ.state runnable h)

-- a task that has to stand in row c is runnable, and c is its CPU
pub standing_means : (τ : Task) (c : ℕ) → 0 < standing τ c → (τ.state ≡ runnable) × (τ.cpu ≡ c)
standing_means τ c h = go (same? τ.state runnable) (same? τ.cpu c)
  where
    go : (τ.state ≡ runnable) ⊎ (τ.state ≢ runnable) → (τ.cpu ≡ c) ⊎ (τ.cpu ≢ c) → (τ.state ≡ runnable) × (τ.cpu ≡ c)
    go (inl s) (inl e) = (s, e)
    go (inl s) (inr n) = absurd (let z : standing τ c ≡ 0 = standing_away τ c n in omega arith)
    go (inr n) e = absurd (let z : standing τ c ≡ 0 = standing_idle τ c n in omega arith)

pub standing_le : (τ : Task) (c : ℕ) → standing τ c ≤ 1
standing_le τ c = go (eqb τ.state runnable && eqb τ.cpu c)
  where
    go : (b : Bool) → digit b ≤ 1
    go true = omega arith
    go false = omega arith

-- a number that is no task place reads as a free one
pub no_task_lem : (m : Machine) (t : ℕ) → Shape m → task_places ≤ t → task_of m t ≡ free_task
no_task_lem m t s h =
    rw (
      get_or-eq_default m.state 0 (past s.state),
      get_or-eq_default m.policy 0 (past s.policy),
      get_or-eq_default m.prio 0 (past s.prio),
      get_or-eq_default m.cpu 0 (past s.cpu),
      get_or-eq_default m.slice 0 (past s.slice),
      get_or-eq_default m.mask 0 (past s.mask),
    )
  where
    past : {n : ℕ} → n ≡ task_places → n ≤ t
    past e = subst (λ (x : ℕ). x ≤ t) (sym e) h

-- so a runnable one is a task place
pub shaped_place : (m : Machine) (t : ℕ) → Shape m → (task_of m t).state ≡ runnable → t < task_places
shaped_place m t s r = go (ltb t task_places) refl
  where
    go : (b : Bool) → ltb t task_places ≡ b → t < task_places
    go true e = ltb-true t task_places e
    go false e =
        let z : (task_of m t).state ≡ 0 = ap (λ (x : Task). x.state) (no_task_lem m t s (ltb-false t task_places e)) in
        absurd (omega arith)

-- ---- well-formed but for task t, which stands in no row

pub record Apart (t : ℕ) (m : Machine) : Type 0 where
  pub shape : Shape m
  pub tasks : (u : ℕ) → u < task_places → u ≢ t → Sound m.n m.full (task_of m u)
  pub flags : (c : ℕ) → c < m.n → flag m c ≤ 1
  pub absent : (c : ℕ) → occ t (row m c) ≡ 0
  pub rows : (u c : ℕ) → u ≢ t → occ u (row m c) ≡ standing (task_of m u) c
  pub home : (u : ℕ) → u ≢ t → (task_of m u).state ≡ runnable → allowed m u (task_of m u).cpu ≡ true
  pub falling : (c : ℕ) → Falling (prio_of m) (row m c)
  pub online_some : 0 < m.online
  pub online_fits : m.online < 2 ^ m.n

-- who stands in a row is another task
pub in_other : (t : ℕ) (m : Machine) → Apart t m → (c u : ℕ) → In u (row m c) → u ≢ t
in_other t m p c u i e = let z : occ u (row m c) ≡ 0 = ap (λ (k : ℕ). occ k (row m c)) e ∙ p.absent c in omega arith

-- a task that is not runnable
pub apart_idle : (t : ℕ) (m : Machine) → WellFormed m → (task_of m t).state ≢ runnable → Apart t m
apart_idle t m w n =
    record {
      shape = w.shape;
      tasks = λ u h e. w.tasks u h;
      flags = w.flags;
      absent = λ c. w.rows t c ∙ standing_idle (task_of m t) c n;
      rows = λ u c e. w.rows u c;
      home = λ u e. w.home u;
      falling = w.falling;
      online_some = w.online_some;
      online_fits = w.online_fits;
    }

pub fit_of : (n full : ℕ) (τ : Task) → Sound n full τ → τ.state ≢ 0 → Fit n full τ
fit_of n full τ (is_free e) h = absurd (h (ap (λ (x : Task). x.state) e))
fit_of n full τ (is_asleep s f) h = f
fit_of n full τ (is_runnable s f) h = f

-- a runnable task is a task place, and fits
pub runnable_place : (m : Machine) (t : ℕ) → WellFormed m → (task_of m t).state ≡ runnable → t < task_places
runnable_place m t w r = shaped_place m t w.shape r

pub runnable_fit : (m : Machine) (t : ℕ) → WellFormed m → (task_of m t).state ≡ runnable → Fit m.n m.full (task_of m t)
runnable_fit m t w s = fit_of m.n m.full (task_of m t) (w.tasks t (runnable_place m t w s)) (λ z. omega arith)

-- what stands in row c is runnable there
pub in_row : (m : Machine) (t c : ℕ) → WellFormed m → In t (row m c) → ((task_of m t).state ≡ runnable) × ((task_of m t).cpu ≡ c)
in_row m t c w i = standing_means (task_of m t) c (omega (arith, w.rows t c))

pub row_in : (m : Machine) (t : ℕ) → WellFormed m → (task_of m t).state ≡ runnable → In t (row m (task_of m t).cpu)
row_in m t w s = omega (arith, w.rows t (task_of m t).cpu, standing_home (task_of m t) (task_of m t).cpu s refl)

pub once : (m : Machine) (t c : ℕ) → WellFormed m → occ t (row m c) ≤ 1
once m t c w = omega (arith, w.rows t c, standing_le (task_of m t) c)

-- a runnable task that leaves its row
pub apart_dequeue : (t : ℕ) (m : Machine) → WellFormed m → (task_of m t).state ≡ runnable → Apart t (dequeue t (task_of m t).cpu m)
apart_dequeue t m w s =
    record {
      shape = shape_row m w.shape home (delete t (row m home));
      tasks = λ u h e. w.tasks u h;
      flags = w.flags;
      absent = row_cases m home (delete t (row m home)) (λ d r. occ t r ≡ 0) fits
          (omega (arith, occ_delete t t (row m home) here, digit_same t t refl, once m t home w))
          (λ d n. w.rows t d ∙ standing_away (task_of m t) d (λ e. n (sym e)));
      rows = λ u c e. row_cases m home (delete t (row m home)) (λ d r. occ u r ≡ standing (task_of m u) d) fits
          (omega (arith, occ_delete t u (row m home) here, digit_other u t e, w.rows u home)) (λ d n. w.rows u d) c;
      home = λ u e. w.home u;
      falling = row_cases m home (delete t (row m home)) (λ d r. Falling (prio_of m) r) fits
          (falling_delete (prio_of m) t (row m home) (w.falling home)) (λ d n. w.falling d);
      online_some = w.online_some;
      online_fits = w.online_fits;
    }
  where
    home : ℕ
    home = (task_of m t).cpu

    here : In t (row m home)
    here = row_in m t w s

    fits : home < length m.rows
    fits = subst (λ (x : ℕ). home < x) (sym w.shape.rows) (runnable_fit m t w s).cpu

-- ---- writing the task that stands apart

-- any columns that differ from the machine's at t alone
module _ (t : ℕ) (m : Machine) (p : Apart t m) (a b c d e f : List ℕ) where
  abbrev other : Machine
  other = record { n = m.n; full = m.full; state = a; policy = b; prio = c; cpu = d; slice = e; mask = f; rows = m.rows; flags = m.flags; online = m.online }

  pub apart_columns : Shape other → ((u : ℕ) → u ≢ t → task_of other u ≡ task_of m u) → Apart t other
  apart_columns s same =
      record {
        shape = s;
        tasks = λ u h n. rw (same u n) (p.tasks u h n);
        flags = p.flags;
        absent = p.absent;
        rows = λ u c n. subst (λ (τ : Task). occ u (row m c) ≡ standing τ c) (sym (same u n)) (p.rows u c n);
        home = λ u n. subst (λ (τ : Task). τ.state ≡ runnable → allows m τ.mask τ.cpu ≡ true) (sym (same u n)) (p.home u n);
        falling = λ c. falling_cong (prio_of m) (prio_of other) (row m c) (λ u i. ap (λ (τ : Task). τ.prio) (sym (same u (in_other t m p c u i)))) (p.falling c);
        online_some = p.online_some;
        online_fits = p.online_fits;
      }

module _ (t : ℕ) (m : Machine) (p : Apart t m) where
  pub apart_store : (k : Column) (v : ℕ) → Apart t (store k t v m)
  apart_store Column.state v = apart_columns t m p _ _ _ _ _ _ (shape_store m p.shape Column.state t v) (λ u n. store_other Column.state t v u m n)
  apart_store Column.policy v = apart_columns t m p _ _ _ _ _ _ (shape_store m p.shape Column.policy t v) (λ u n. store_other Column.policy t v u m n)
  apart_store Column.prio v = apart_columns t m p _ _ _ _ _ _ (shape_store m p.shape Column.prio t v) (λ u n. store_other Column.prio t v u m n)
  apart_store Column.cpu v = apart_columns t m p _ _ _ _ _ _ (shape_store m p.shape Column.cpu t v) (λ u n. store_other Column.cpu t v u m n)
  apart_store Column.slice v = apart_columns t m p _ _ _ _ _ _ (shape_store m p.shape Column.slice t v) (λ u n. store_other Column.slice t v u m n)
  apart_store Column.mask v = apart_columns t m p _ _ _ _ _ _ (shape_store m p.shape Column.mask t v) (λ u n. store_other Column.mask t v u m n)

  pub apart_write : (τ : Task) → Apart t (write t τ m)
  apart_write τ = apart_columns t m p _ _ _ _ _ _ (shape_write m p.shape t τ) (λ u n. write_other t u τ m n)

  -- ---- well-formed again

  -- as a task that is not runnable
  pub rejoin_idle : Sound m.n m.full (task_of m t) → (task_of m t).state ≢ runnable → WellFormed m
  rejoin_idle s n =
      record {
        shape = p.shape;
        tasks = λ u h. tasks u h (same? u t);
        flags = p.flags;
        rows = λ u c. rows u c (same? u t);
        home = λ u h. home u h (same? u t);
        falling = p.falling;
        online_some = p.online_some;
        online_fits = p.online_fits;
      }
    where
      tasks : (u : ℕ) → u < task_places → (u ≡ t) ⊎ (u ≢ t) → Sound m.n m.full (task_of m u)
      tasks u h (inl e) = subst (λ (x : ℕ). Sound m.n m.full (task_of m x)) (sym e) s
      tasks u h (inr d) = p.tasks u h d

      rows : (u c : ℕ) → (u ≡ t) ⊎ (u ≢ t) → occ u (row m c) ≡ standing (task_of m u) c
      rows u c (inl e) =
          subst (λ (x : ℕ). occ x (row m c) ≡ standing (task_of m x) c) (sym e) (p.absent c ∙ sym (standing_idle (task_of m t) c n))
      rows u c (inr d) = p.rows u c d

      home : (u : ℕ) → (task_of m u).state ≡ runnable → (u ≡ t) ⊎ (u ≢ t) → allowed m u (task_of m u).cpu ≡ true
      home u h (inl e) = absurd (n (ap (λ (x : ℕ). (task_of m x).state) (sym e) ∙ h))
      home u h (inr d) = p.home u d h

  -- ---- room

  pub in_place : (c u : ℕ) → In u (row m c) → u < task_places
  in_place c u i = shaped_place m u p.shape (standing_means (task_of m u) c (omega (arith, p.rows u c (in_other t m p c u i)))).0

  -- No insertion finds its row full: beside task t, which stands in no row, a row has at most 511 tasks.
  pub room : t < task_places → (c : ℕ) → length (row m c) < task_places
  room h c = pigeonhole task_places (t ∷ row m c) (λ x. different x (same? x t)) (λ x i. small x (in_cons x t (row m c) i))
    where
      different : (x : ℕ) → (x ≡ t) ⊎ (x ≢ t) → occ x (t ∷ row m c) ≤ 1
      different x (inl e) =
          subst (λ (k : ℕ). occ k (t ∷ row m c) ≤ 1) (sym e) (omega (arith, occ_cons t t (row m c), digit_same t t refl, p.absent c))
      different x (inr n) =
          omega (arith, occ_cons x t (row m c), digit_other x t n, p.rows x c n, standing_le (task_of m x) c)

      small : (x : ℕ) → (x ≡ t) ⊎ In x (row m c) → x < task_places
      small x (inl e) = subst (λ (k : ℕ). k < task_places) (sym e) h
      small x (inr i) = in_place c x i

-- ---- entering a row

-- the row r' is the row r with task t in it once more, in falling order: any rule of entering that gives this will do
pub record Joins (p : ℕ → ℕ) (t : ℕ) (r r' : List ℕ) : Type 0 where
  pub occurs : (u : ℕ) → occ u r' ≡ digit (eqb u t) + occ u r
  pub falling : Falling p r'

module _ (t c : ℕ) (m : Machine) (p : Apart t m) (place : t < task_places) (fit : Fit m.n m.full (task_of m t)) (runs : (task_of m t).state ≡ runnable)
    (small : c < m.n) (may : allows m (task_of m t).mask c ≡ true) (r : List ℕ) (joins : Joins (prio_of m) t (row m c) r) where
  abbrev entered : Machine
  entered = store Column.cpu t c (with_row c r m)

  pub rejoin_row : WellFormed entered
  rejoin_row =
      record {
        shape = shape_store (with_row c r m) (shape_row m p.shape c r) Column.cpu t c;
        tasks = λ u h. tasks u h (same? u t);
        flags = p.flags;
        rows = λ u d. rows u d (same? u t);
        home = λ u h. home u h (same? u t);
        falling = row_cases m c r (λ d q. Falling (prio_of m) q) fits joins.falling (λ d n. p.falling d);
        online_some = p.online_some;
        online_fits = p.online_fits;
      }
    where
      fits : c < length m.rows
      fits = subst (λ (x : ℕ). c < x) (sym p.shape.rows) small

      new : task_of entered t ≡ put Column.cpu c (task_of m t)
      new = store_same Column.cpu t c (with_row c r m) (shape_row m p.shape c r) place

      old : (u : ℕ) → u ≢ t → task_of entered u ≡ task_of m u
      old u n = store_other Column.cpu t c u (with_row c r m) n

      new_fit : Fit m.n m.full (put Column.cpu c (task_of m t))
      new_fit =
          record {
            policy_low = fit.policy_low;
            policy_high = fit.policy_high;
            prio_low = fit.prio_low;
            prio_high = fit.prio_high;
            cpu = small;
            slice_low = fit.slice_low;
            slice_high = fit.slice_high;
            mask_some = fit.mask_some;
            mask_fits = fit.mask_fits;
          }

      tasks : (u : ℕ) → u < task_places → (u ≡ t) ⊎ (u ≢ t) → Sound m.n m.full (task_of entered u)
      tasks u h (inl e) = subst (λ (x : ℕ). Sound m.n m.full (task_of entered x)) (sym e) (rw new (is_runnable runs new_fit))
      tasks u h (inr n) = rw (old u n) (p.tasks u h n)

      rows : (u d : ℕ) → (u ≡ t) ⊎ (u ≢ t) → occ u (row entered d) ≡ standing (task_of entered u) d
      rows u d (inl e) =
          subst (λ (x : ℕ). occ x (row entered d) ≡ standing (task_of entered x) d) (sym e)
          (subst (λ (τ : Task). occ t (row entered d) ≡ standing τ d) (sym new)
          (row_cases m c r (λ d q. occ t q ≡ standing (put Column.cpu c (task_of m t)) d) fits
          (let one : occ t r ≡ 1 = omega (arith, joins.occurs t, digit_same t t refl, p.absent c) in
          one ∙ sym (standing_home (put Column.cpu c (task_of m t)) c runs refl))
          (λ d n. p.absent d ∙ sym (standing_away (put Column.cpu c (task_of m t)) d (λ x. n (sym x)))) d))
      rows u d (inr n) =
          subst (λ (τ : Task). occ u (row entered d) ≡ standing τ d) (sym (old u n))
          (row_cases m c r (λ d q. occ u q ≡ standing (task_of m u) d) fits
          (let more : occ u r ≡ occ u (row m c) = omega (arith, joins.occurs u, digit_other u t n) in more ∙ p.rows u c n)
          (λ d x. p.rows u d n) d)

      home : (u : ℕ) → (task_of entered u).state ≡ runnable → (u ≡ t) ⊎ (u ≢ t) → allowed entered u (task_of entered u).cpu ≡ true
      home u h (inl e) = subst (λ (x : ℕ). allowed entered x (task_of entered x).cpu ≡ true) (sym e)
          (subst (λ (τ : Task). allows m τ.mask τ.cpu ≡ true) (sym new) may)
      home u h (inr n) =
          subst (λ (τ : Task). τ.state ≡ runnable → allows m τ.mask τ.cpu ≡ true) (sym (old u n)) (p.home u n) h

-- one that is queued joins rightly, in front of its equals or behind them
pub queued_joins : (front : Bool) (p : ℕ → ℕ) (t : ℕ) (r : List ℕ) → Falling p r → Joins p t r (queued (entry_key front (p t)) p t r)
unfolding insert_before
queued_joins front p t r f = record { occurs = λ u. occ_insert test t u r; falling = sorted r f }
  where
    k : ℕ
    k = entry_key front (p t)

    beside : (p t ≤ k) × (k ≤ suc (p t))
    beside = go front
      where
        go : (b : Bool) → (p t ≤ entry_key b (p t)) × (entry_key b (p t) ≤ suc (p t))
        go true = (omega arith, omega arith)
        go false = (omega arith, omega arith)

    test : ℕ → Bool
    test v = ltb (p v) k

    sorted : (r : List ℕ) → Falling p r → Falling p (insert_before test t r)
    sorted [] f = (λ u i. absurd (not_in_nil u i), tt)
    sorted (y ∷ ys) f = go (test y) refl (sorted ys f.1)
      where
        go : (b : Bool) → test y ≡ b → Falling p (insert_before test t ys) → Falling p (cond b (t ∷ y ∷ ys) (y ∷ insert_before test t ys))
        go true e ih = (λ u i. let top : p u ≤ p y = falling_head p y ys f u i in omega (arith, ltb-true (p y) k e, beside.1), f)
        go false e ih = (λ u i. behind u (same? u t) i, ih)
          where
            behind : (u : ℕ) → (u ≡ t) ⊎ (u ≢ t) → In u (insert_before test t ys) → p u ≤ p y
            behind u (inl s) i = let q : p u ≡ p t = ap p s in omega (arith, ltb-false (p y) k e, beside.0)
            behind u (inr n) i = f.0 u (omega (arith, occ_insert test t u ys, digit_other u t n))

pub rejoin_at : (front : Bool) (t c : ℕ) (m : Machine) → Apart t m → t < task_places → Fit m.n m.full (task_of m t) → (task_of m t).state ≡ runnable → c < m.n
    → allows m (task_of m t).mask c ≡ true → WellFormed (enqueue_at front t c m)
rejoin_at front t c m p place fit runs small may =
    rejoin_row t c m p place fit runs small may (queued (entry_key front (prio_of m t)) (prio_of m) t (row m c))
    (queued_joins front (prio_of m) t (row m c) (p.falling c))

-- the rule's entering
pub rejoin_enqueue : (t c : ℕ) (m : Machine) → Apart t m → t < task_places → Fit m.n m.full (task_of m t) → (task_of m t).state ≡ runnable → c < m.n
    → allows m (task_of m t).mask c ≡ true → WellFormed (enqueue t c m)
rejoin_enqueue = rejoin_at false
