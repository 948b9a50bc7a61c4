-- One migration step: what it does to the rows and levels, and that it keeps the machine well-formed.
-- Assumes nothing.
use mathlib.Core.Path.{◌≡◌, refl, sym, ap, ◌∙◌, subst}
use mathlib.Core.Bool.{Bool, true, cond}
use mathlib.Core.Logic.{◌≢◌, ◌⊎◌, inl, inr}
use mathlib.Core.List.{List, [], ◌∷◌, tail}
use mathlib.Core.Option.{some}
use Prim.Native.Nat.{ℕ, ◌≤◌, ◌<◌}
use native.Mathlib.Omega.{arith}
use lib.Dec.{ltb}
use lib.ListN.{length}
use borrow.Author.Tests.{lt-ltb}
use Rattle.rules.specs.Lists.{occ, In, Falling, insert_before, delete}
use Rattle.rules.specs.Machine.{Machine, task_of, prio_of, row, idle_level, head, running, row_level, level, level_of, allowed, task_places}
use Rattle.rules.specs.Machine.{queued, enqueue, dequeue}
use Rattle.rules.specs.WellFormed.{WellFormed}
use Rattle.rules.specs.Migration.{Move, Chosen, waiting, movable, migrate}
use Rattle.laws.proofs.Lists.{same?, occ_cons, digit_same, in_cons, not_in_nil, in_delete, delete_behind}
use Rattle.laws.proofs.Lists.{in_tails, tails_in}
use Rattle.laws.proofs.Choice.{movable_by, movable_one}
use Rattle.laws.proofs.Rows.{row_same, row_other}
use Rattle.laws.proofs.Apart.{once, runnable_place, runnable_fit, room}
use Rattle.laws.proofs.Effects.{keep_move, apart_home}

-- ---- what a level says

pub level_head : (p : ℕ → ℕ) (f : ℕ) (r q : List ℕ) → head r ≡ head q → row_level p f r ≡ row_level p f q
level_head p f [] [] e = refl
level_head p f [] (y ∷ ys) e = absurd (let z : ◌≡◌ {A = ℕ} 0 1 = cc in omega arith)
level_head p f (x ∷ xs) [] e = absurd (let z : ◌≡◌ {A = ℕ} 0 1 = cc in omega arith)
level_head p f (x ∷ xs) (y ∷ ys) e = let s : x ≡ y = cc in ap (λ (z : ℕ). level_of (p z)) s

-- the level of a CPU on which a task runs
pub level_running : (m : Machine) (c t : ℕ) → running m c ≡ some t → level m c ≡ level_of (prio_of m t)
level_running m c t e = level_head (prio_of m) (idle_level m c) (row m c) (t ∷ []) e

-- a level that is no idle and no ordinary one is that of a task
pub running_level : (m : Machine) (c p : ℕ) → idle_level m c ≤ 1 → level_of p ≤ level m c → (u : ℕ) × (running m c ≡ some u) × (p ≤ prio_of m u)
running_level m c p f h = go (row m c) refl h
  where
    go : (r : List ℕ) → row m c ≡ r → level_of p ≤ row_level (prio_of m) (idle_level m c) r → (u : ℕ) × (head (row m c) ≡ some u) × (p ≤ prio_of m u)
    go [] e h = absurd (omega arith)
    go (u ∷ us) e h = (u, ap head e, omega arith)

-- ---- what a step does

module _ (m : Machine) (v : Move) (w : WellFormed m) (k : Chosen m v) where
  abbrev t : ℕ
  t = v.task

  abbrev moved : Machine
  moved = migrate v m

  pub keep_step : WellFormed moved
  keep_step =
      subst (λ (c : ℕ). WellFormed (enqueue t v.target (dequeue t c m))) k.origin
      (keep_move t m w (runnable_place m t w k.runs) k.runs v.target k.small k.may)

  pub origin_small : v.origin < m.n
  origin_small = subst (λ (c : ℕ). c < m.n) k.origin (runnable_fit m t w k.runs).cpu

  -- when it enters, the mover stands in no row: there is room
  pub step_room : length (row (dequeue t v.origin m) v.target) < task_places
  step_room =
      subst (λ (c : ℕ). length (row (dequeue t c m) v.target) < task_places) k.origin
      (room t (dequeue t (task_of m t).cpu m) (apart_home t m w (runnable_place m t w k.runs) k.runs) (runnable_place m t w k.runs) v.target)

  -- the row that the mover waits in: its first stays
  pub record Origin : Type 0 where
    pub top : ℕ
    pub rest : List ℕ
    pub is : row m v.origin ≡ top ∷ rest
    pub behind : In t rest
    pub other : t ≢ top

  pub origin_row : Origin
  origin_row = go (row m v.origin) refl k.waits
    where
      go : (r : List ℕ) → row m v.origin ≡ r → In t (tail r) → Origin
      go [] e i = absurd (not_in_nil t i)
      go (u ∷ us) e i =
          record {
            top = u;
            rest = us;
            is = e;
            behind = i;
            other = λ s.
                let q : occ t (row m v.origin) ≡ occ t (u ∷ us) = ap (occ t) e in
                omega (arith, once m t v.origin w, occ_cons t u us, digit_same t u s);
          }

  pub origin_level : level_of (prio_of m t) ≤ level m v.origin
  origin_level =
      let f : Falling (prio_of m) (origin_row.top ∷ origin_row.rest) = subst (Falling (prio_of m)) origin_row.is (w.falling v.origin) in
      let h : level m v.origin ≡ level_of (prio_of m origin_row.top) = level_running m v.origin origin_row.top (ap head origin_row.is) in
      omega (arith, f.0 t origin_row.behind)

  pub apart : v.target ≢ v.origin
  apart e = let s : level m v.target ≡ level m v.origin = ap (level m) e in omega (arith, k.below, origin_level)

  rows_long : (c : ℕ) → c < m.n → c < length m.rows
  rows_long c h = subst (λ (x : ℕ). c < x) (sym w.shape.rows) h

  left_long : (c : ℕ) → c < m.n → c < length (dequeue t v.origin m).rows
  left_long c h = subst (λ (x : ℕ). c < x) (sym (lib.ListN.length-set m.rows v.origin (delete t (row m v.origin)) ∙ w.shape.rows)) h

  -- where the mover is now first
  pub target_row : row moved v.target ≡ t ∷ row m v.target
  unfolding insert_before
  target_row =
      row_same (dequeue t v.origin m) v.target (queued (prio_of m t) (prio_of m) t (row (dequeue t v.origin m) v.target)) (left_long v.target k.small)
      ∙ ap (queued (prio_of m t) (prio_of m) t) (row_other m v.origin v.target (delete t (row m v.origin)) apart)
      ∙ front (row m v.target) k.below
    where
      front : (r : List ℕ) → row_level (prio_of m) (idle_level m v.target) r < level_of (prio_of m t) → queued (prio_of m t) (prio_of m) t r ≡ t ∷ r
      front [] h = refl
      front (y ∷ ys) h =
          ap (λ (b : Bool). cond b (t ∷ y ∷ ys) (y ∷ insert_before (λ u. ltb (prio_of m u) (prio_of m t)) t ys))
          (lt-ltb (prio_of m y) (prio_of m t) (omega arith))

  pub left_row : row moved v.origin ≡ delete t (row m v.origin)
  left_row =
      row_other (dequeue t v.origin m) v.target v.origin (queued (prio_of m t) (prio_of m) t (row (dequeue t v.origin m) v.target)) (λ e. apart (sym e))
      ∙ row_same m v.origin (delete t (row m v.origin)) (rows_long v.origin origin_small)

  pub other_row : (c : ℕ) → c ≢ v.target → c ≢ v.origin → row moved c ≡ row m c
  other_row c n o =
      row_other (dequeue t v.origin m) v.target c (queued (prio_of m t) (prio_of m) t (row (dequeue t v.origin m) v.target)) n
      ∙ row_other m v.origin c (delete t (row m v.origin)) o

  -- the mover runs on its destination, and elsewhere the same tasks run as before
  pub target_runs : running moved v.target ≡ some t
  target_runs = ap head target_row

  pub same_runs : (c : ℕ) → c ≢ v.target → running moved c ≡ running m c
  same_runs c n = go (same? c v.origin)
    where
      go : (c ≡ v.origin) ⊎ (c ≢ v.origin) → running moved c ≡ running m c
      go (inl e) =
          subst (λ (c : ℕ). running moved c ≡ running m c) (sym e)
          (ap head (left_row ∙ ap (delete t) origin_row.is ∙ delete_behind t origin_row.top origin_row.rest origin_row.other)
          ∙ sym (ap head origin_row.is))
      go (inr o) = ap head (other_row c n o)

  -- levels never fall
  pub target_level : level moved v.target ≡ level_of (prio_of m t)
  target_level = level_running moved v.target t target_runs

  pub levels_rise : (c : ℕ) → level m c ≤ level moved c
  levels_rise c = go (same? c v.target)
    where
      go : (c ≡ v.target) ⊎ (c ≢ v.target) → level m c ≤ level moved c
      go (inl e) = subst (λ (c : ℕ). level m c ≤ level moved c) (sym e) (omega (arith, k.below, target_level))
      go (inr n) = let s : level moved c ≡ level m c = level_head (prio_of m) (idle_level m c) (row moved c) (row m c) (same_runs c n) in omega arith

  -- who waits now waited before, or ran on the destination
  pub waits_now : (u : ℕ) → In u (waiting moved) → In u (waiting m) ⊎ (running m v.target ≡ some u)
  waits_now u i = go (tails_in u moved.rows i)
    where
      ran : (r : List ℕ) → row m v.target ≡ r → In u r → In u (waiting m) ⊎ (head r ≡ some u)
      ran [] e j = absurd (not_in_nil u j)
      ran (y ∷ ys) e j = pick (in_cons u y ys j)
        where
          pick : (u ≡ y) ⊎ In u ys → In u (waiting m) ⊎ (some y ≡ some u)
          pick (inl s) = inr (ap some (sym s))
          pick (inr l) = inl (in_tails u v.target m.rows (subst (λ (r : List ℕ). In u (tail r)) (sym e) l))

      at : (c : ℕ) → (c ≡ v.target) ⊎ (c ≢ v.target) → (c ≡ v.origin) ⊎ (c ≢ v.origin) → In u (tail (row moved c))
          → In u (waiting m) ⊎ (running m v.target ≡ some u)
      at c (inl e) o j =
          ran (row m v.target) refl (subst (λ (r : List ℕ). In u (tail r)) (ap (row moved) e ∙ target_row) j)
      at c (inr n) (inl e) j =
          let q : row moved c ≡ origin_row.top ∷ delete t origin_row.rest =
          ap (row moved) e ∙ left_row ∙ ap (delete t) origin_row.is ∙ delete_behind t origin_row.top origin_row.rest origin_row.other in
          let l : In u origin_row.rest = in_delete t u origin_row.rest (subst (λ (r : List ℕ). In u (tail r)) q j) in
          inl (in_tails u v.origin m.rows (subst (λ (r : List ℕ). In u (tail r)) (sym origin_row.is) l))
      at c (inr n) (inr o) j = inl (in_tails u c m.rows (subst (λ (r : List ℕ). In u (tail r)) (other_row c n o) j))

      go : (c : ℕ) × (c < length moved.rows) × (In u (tail (row moved c))) → In u (waiting m) ⊎ (running m v.target ≡ some u)
      go f = at f.0 (same? f.0 v.target) (same? f.0 v.origin) f.2

-- ---- after a step no movable task is higher than its mover

abbrev pub Cap : Machine → ℕ → Type 0
Cap m p = (u : ℕ) → In u (waiting m) → movable m u ≡ true → prio_of m u ≤ p

pub cap_step : (m : Machine) (v : Move) → WellFormed m → Chosen m v → Cap (migrate v m) (prio_of m v.task)
cap_step m v w k u i h = go (waits_now m v w k u i)
  where
    before : movable m u ≡ true
    before =
        let f : (c : ℕ) × (c < m.n) × (allowed m u c ≡ true) × (level (migrate v m) c < level_of (prio_of m u)) = movable_one (migrate v m) u h in
        movable_by m u f.0 f.1 f.2 (omega (arith, levels_rise m v w k f.0, f.3))

    go : In u (waiting m) ⊎ (running m v.target ≡ some u) → prio_of m u ≤ prio_of m v.task
    go (inl j) = k.highest u j before
    go (inr e) = let s : level m v.target ≡ level_of (prio_of m u) = level_running m v.target u e in omega (arith, k.below)
