-- Who moves and where to: the step that applies is the one that the paper's words determine.
-- Assumes nothing.
use mathlib.Core.Path.{◌≡◌, refl, sym, ap, ◌∙◌, subst}
use mathlib.Core.Bool.{Bool, true, false, true≢false}
use mathlib.Core.List.{List, [], ◌∷◌, tail}
use mathlib.Core.Option.{Option, none, some}
use Prim.Native.Nat.{ℕ, suc, ◌≤◌, ◌<◌}
use native.Mathlib.Omega.{arith}
use lib.ListN.{length}
use borrow.Author.Tests.{ltb-true, ltb-false, lt-ltb, le-ltb}
use Rattle.rules.specs.Lists.{occ, In, place, below, best}
use Rattle.rules.specs.Machine.{Machine, task_of, prio_of, row, level, level_of, allowed, runnable}
use Rattle.rules.specs.WellFormed.{WellFormed}
use Rattle.rules.specs.Migration.{Move, Chosen, waiting, allowed_cpus, lower, movable, movables, outranks, mover, idler, destination, or_zero, move_of, next_of, next}
use Rattle.laws.proofs.Lists.{occ_cons, digit_same, in_there, not_in_nil, in_below, below_in, select_in, in_select}
use Rattle.laws.proofs.Lists.{any_some, some_any, in_tails, tails_in}
use Rattle.laws.proofs.Best.{Ranks, best_in, best_best, best_first, best_none, best_some}
use Rattle.laws.proofs.Order.{place_there, place_same, place_from, place_select, place_tails}
use Rattle.laws.proofs.Apart.{in_row, once}

-- ---- allowed CPUs

pub allowed_in : (m : Machine) (t c : ℕ) → In c (allowed_cpus m t) → (c < m.n) × (allowed m t c ≡ true)
allowed_in m t c i =
    let s : (In c (below m.n)) × (allowed m t c ≡ true) = select_in (allowed m t) c (below m.n) i in
    (below_in m.n c s.0, s.1)

pub in_allowed : (m : Machine) (t c : ℕ) → c < m.n → allowed m t c ≡ true → In c (allowed_cpus m t)
in_allowed m t c h a = in_select (allowed m t) c (below m.n) (in_below m.n c h) a

pub movable_by : (m : Machine) (t c : ℕ) → c < m.n → allowed m t c ≡ true → level m c < level_of (prio_of m t) → movable m t ≡ true
movable_by m t c h a l = some_any (lower m t) c (allowed_cpus m t) (in_allowed m t c h a) (omega (arith, lt-ltb))

pub movable_one : (m : Machine) (t : ℕ) → movable m t ≡ true → (c : ℕ) × (c < m.n) × (allowed m t c ≡ true) × (level m c < level_of (prio_of m t))
movable_one m t h =
    let f : (c : ℕ) × (In c (allowed_cpus m t)) × (lower m t c ≡ true) = any_some (lower m t) (allowed_cpus m t) h in
    let a : (f.0 < m.n) × (allowed m t f.0 ≡ true) = allowed_in m t f.0 f.1 in
    let test : lower m t f.0 ≡ true = f.2 in
    (f.0, a.0, a.1, omega (arith, ltb-true))

-- ---- where tasks wait

in_row_of_tail : (x : ℕ) (r : List ℕ) → In x (tail r) → In x r
in_row_of_tail x [] i = i
in_row_of_tail x (y ∷ ys) i = in_there x y ys i

-- a waiting task waits in the row of its CPU, and in no other
wait_row : (m : Machine) (u : ℕ) → WellFormed m → In u (waiting m) → In u (tail (row m (task_of m u).cpu))
wait_row m u w i =
    let f : (c : ℕ) × (c < length m.rows) × (In u (tail (row m c))) = tails_in u m.rows i in
    subst (λ (c : ℕ). In u (tail (row m c))) (sym (in_row m u f.0 w (in_row_of_tail u (row m f.0) f.2)).1) f.2

wait_only : (m : Machine) (u c : ℕ) → WellFormed m → In u (tail (row m c)) → c ≡ (task_of m u).cpu
wait_only m u c w i = sym (in_row m u c w (in_row_of_tail u (row m c) i)).1

-- behind the first, places in a row are those in its tail, and one more
place_tail : (x : ℕ) (r : List ℕ) → In x (tail r) → occ x r ≤ 1 → place x r ≡ suc (place x (tail r))
place_tail x [] i h = absurd (not_in_nil x i)
place_tail x (y ∷ ys) i h = place_there x y ys (λ e. omega (arith, occ_cons x y ys, digit_same x y e))

-- ---- the two orders: by priority, higher first, and by level, lower first

module _ (m : Machine) where
  higher : ℕ → ℕ → Type 0
  higher x y = prio_of m y ≤ prio_of m x

  by_priority : Ranks (outranks m) higher
  unfolding higher
  by_priority = record {
    self = λ x. omega arith;
    trans = λ x y z p q. omega arith;
    won = λ x y h. omega (arith, ltb-true);
    lost = λ x y h. omega (arith, ltb-false);
    strict = λ x y z h p. omega (arith, ltb-true, lt-ltb);
    up = λ x y z p h. omega (arith, ltb-true, lt-ltb);
  }

  not_higher : (x y : ℕ) → prio_of m x ≤ prio_of m y → outranks m x y ≡ false
  not_higher x y h = omega (arith, le-ltb)

  emptier : ℕ → ℕ → Type 0
  emptier c d = level m c ≤ level m d

  by_level : Ranks (idler m) emptier
  unfolding emptier
  by_level = record {
    self = λ x. omega arith;
    trans = λ x y z p q. omega arith;
    won = λ x y h. omega (arith, ltb-true);
    lost = λ x y h. omega (arith, ltb-false);
    strict = λ x y z h p. omega (arith, ltb-true, lt-ltb);
    up = λ x y z p h. omega (arith, ltb-true, lt-ltb);
  }

  not_emptier : (x y : ℕ) → level m y ≤ level m x → idler m x y ≡ false
  not_emptier x y h = omega (arith, le-ltb)

-- ---- where to

-- of the CPUs that task t may use, d is one of the lowest level, and of those the lowest-numbered
pub record Target (m : Machine) (t d : ℕ) : Type 0 where
  pub small : d < m.n
  pub may : allowed m t d ≡ true
  pub lowest : (c : ℕ) → c < m.n → allowed m t c ≡ true → level m d ≤ level m c
  pub nearest : (c : ℕ) → c < m.n → allowed m t c ≡ true → level m c ≤ level m d → d ≤ c

-- one CPU that it may use is enough for a destination
pub target_of : (m : Machine) (t c : ℕ) → c < m.n → allowed m t c ≡ true → Target m t (destination m t)
unfolding emptier
target_of m t c h a =
    record {
      small = target_in.0;
      may = target_in.1;
      lowest = λ c h a. best_best (idler m) (emptier m) (by_level m) (allowed_cpus m t) (destination m t) c is_target (in_allowed m t c h a);
      nearest = λ c h a l.
          place_from 0 m.n (destination m t) c (in_below m.n (destination m t) target_in.0) (in_below m.n c h)
          (place_select (allowed m t) (destination m t) c (below m.n) target_in.1 a
          (best_first (idler m) (emptier m) (by_level m) (allowed_cpus m t) (destination m t) c is_target (in_allowed m t c h a)
          (not_emptier m (destination m t) c l)));
    }
  where
    target : (d : ℕ) × (best (idler m) (allowed_cpus m t) ≡ some d)
    target = best_some (idler m) (allowed_cpus m t) c (in_allowed m t c h a)

    is_target : best (idler m) (allowed_cpus m t) ≡ some (destination m t)
    is_target = target.1 ∙ ap (λ (d : ℕ). some d) (ap or_zero (sym target.1))

    target_in : (destination m t < m.n) × (allowed m t (destination m t) ≡ true)
    target_in = allowed_in m t (destination m t) (best_in (idler m) (allowed_cpus m t) (destination m t) is_target)

pub target_same : (m : Machine) (t d e : ℕ) → Target m t d → Target m t e → d ≡ e
target_same m t d e a b =
    let l : d ≤ e = a.nearest e b.small b.may (b.lowest d a.small a.may) in
    let r : e ≤ d = b.nearest d a.small a.may (a.lowest e b.small b.may) in
    omega arith

-- ---- who moves

chosen_of : (m : Machine) → WellFormed m → (t : ℕ) → mover m ≡ some t → Chosen m (move_of m t)
unfolding higher
chosen_of m w t e =
    record {
      runs = place_of.0;
      origin = refl;
      waits = waits;
      moves = picked.1;
      highest = λ u i h. best_best (outranks m) (higher m) (by_priority m) (movables m) t u e (in_select (movable m) u (waiting m) i h);
      lowest_cpu = λ u i h p. (ordered u i h p).0;
      earliest = λ u i h p s. in_same_row u i (ordered u i h p).1 s;
      small = target.small;
      may = target.may;
      below = strict;
      displaced = refl;
      lowest = target.lowest;
      nearest = target.nearest;
    }
  where
    picked : (In t (waiting m)) × (movable m t ≡ true)
    picked = select_in (movable m) t (waiting m) (best_in (outranks m) (movables m) t e)

    waits : In t (tail (row m (task_of m t).cpu))
    waits = wait_row m t w picked.0

    place_of : ((task_of m t).state ≡ runnable) × ((task_of m t).cpu ≡ (task_of m t).cpu)
    place_of = in_row m t (task_of m t).cpu w (in_row_of_tail t (row m (task_of m t).cpu) waits)

    -- it is listed before its equals
    ordered : (u : ℕ) → In u (waiting m) → movable m u ≡ true → prio_of m t ≤ prio_of m u
        → ((task_of m t).cpu ≤ (task_of m u).cpu)
        × ((task_of m t).cpu ≡ (task_of m u).cpu → place t (tail (row m (task_of m t).cpu)) ≤ place u (tail (row m (task_of m t).cpu)))
    ordered u i h p =
        place_tails t u (task_of m t).cpu (task_of m u).cpu m.rows waits (wait_row m u w i) (λ c j. wait_only m t c w j) (λ c j. wait_only m u c w j)
        (place_select (movable m) t u (waiting m) picked.1 h
        (best_first (outranks m) (higher m) (by_priority m) (movables m) t u e (in_select (movable m) u (waiting m) i h) (not_higher m t u p)))

    in_same_row : (u : ℕ) → In u (waiting m)
        → ((task_of m t).cpu ≡ (task_of m u).cpu → place t (tail (row m (task_of m t).cpu)) ≤ place u (tail (row m (task_of m t).cpu)))
        → (task_of m u).cpu ≡ (task_of m t).cpu → place t (row m (task_of m t).cpu) ≤ place u (row m (task_of m t).cpu)
    in_same_row u i f s =
        let j : In u (tail (row m (task_of m t).cpu)) = subst (λ (c : ℕ). In u (tail (row m c))) s (wait_row m u w i) in
        omega (
          arith,
          f (sym s),
          place_tail t (row m (task_of m t).cpu) waits (once m t (task_of m t).cpu w),
          place_tail u (row m (task_of m t).cpu) j (once m u (task_of m t).cpu w),
        )

    lower_one : (c : ℕ) × (c < m.n) × (allowed m t c ≡ true) × (level m c < level_of (prio_of m t))
    lower_one = movable_one m t picked.1

    target : Target m t (destination m t)
    target = target_of m t lower_one.0 lower_one.1 lower_one.2

    strict : level m (destination m t) < level_of (prio_of m t)
    strict = omega (arith, target.lowest lower_one.0 lower_one.1 lower_one.2, lower_one.3)

pub chosen : (m : Machine) (v : Move) → WellFormed m → next m ≡ some v → Chosen m v
unfolding next
chosen m v w e = go (mover m) refl e
  where
    go : (o : Option ℕ) → mover m ≡ o → next_of m o ≡ some v → Chosen m v
    go none h e = absurd (let z : ◌≡◌ {A = ℕ} 0 1 = cc in omega arith)
    go (some t) h e = let s : move_of m t ≡ v = cc in subst (Chosen m) s (chosen_of m w t h)

-- no step: no waiting task is movable
pub none_movable : (m : Machine) (u : ℕ) → next m ≡ none → In u (waiting m) → movable m u ≡ false
unfolding next
none_movable m u e i = go (mover m) refl e
  where
    no : (b : Bool) → movable m u ≡ b → mover m ≡ none → movable m u ≡ false
    no true h n = absurd (best_none (outranks m) (movables m) u n (in_select (movable m) u (waiting m) i h))
    no false h n = h

    go : (o : Option ℕ) → mover m ≡ o → next_of m o ≡ none → movable m u ≡ false
    go none h e = no (movable m u) refl h
    go (some t) h e = absurd (let z : ◌≡◌ {A = ℕ} 0 1 = cc in omega arith)

-- ---- the paper's words leave no choice: two steps of which they hold are one

chosen_same : (m : Machine) (v q : Move) → Chosen m v → Chosen m q → v ≡ q
chosen_same m v q a b = λ i. record { task = task i; origin = origin i; target = target i; displaced = displaced i }
  where
    waits : (u : Move) → Chosen m u → In u.task (waiting m)
    waits u k = in_tails u.task u.origin m.rows k.waits

    up : prio_of m v.task ≤ prio_of m q.task
    up = b.highest v.task (waits v a) a.moves

    down : prio_of m q.task ≤ prio_of m v.task
    down = a.highest q.task (waits q b) b.moves

    origin : v.origin ≡ q.origin
    origin =
        let l : v.origin ≤ (task_of m q.task).cpu = a.lowest_cpu q.task (waits q b) b.moves up in
        let r : q.origin ≤ (task_of m v.task).cpu = b.lowest_cpu v.task (waits v a) a.moves down in
        let x : (task_of m v.task).cpu ≡ v.origin = a.origin in
        let y : (task_of m q.task).cpu ≡ q.origin = b.origin in
        omega arith

    here : In q.task (row m v.origin)
    here = subst (λ (c : ℕ). In q.task (row m c)) (sym origin) (in_row_of_tail q.task (row m q.origin) b.waits)

    task : v.task ≡ q.task
    task =
        let l : place v.task (row m v.origin) ≤ place q.task (row m v.origin) =
        a.earliest q.task (waits q b) b.moves up (b.origin ∙ sym origin) in
        let r : place q.task (row m v.origin) ≤ place v.task (row m v.origin) =
        subst (λ (c : ℕ). place q.task (row m c) ≤ place v.task (row m c)) (sym origin)
        (b.earliest v.task (waits v a) a.moves down (a.origin ∙ origin)) in
        place_same v.task q.task (row m v.origin) (in_row_of_tail v.task (row m v.origin) a.waits) here (omega arith)

    aim : (u : Move) → Chosen m u → Target m u.task u.target
    aim u k = record { small = k.small; may = k.may; lowest = k.lowest; nearest = k.nearest }

    target : v.target ≡ q.target
    target = target_same m q.task v.target q.target (subst (λ (t : ℕ). Target m t v.target) task (aim v a)) (aim q b)

    displaced : v.displaced ≡ q.displaced
    displaced = a.displaced ∙ ap (level m) target ∙ sym b.displaced

-- so a step that is as the paper says is the one that applies
pub chosen_next : (m : Machine) (v : Move) → WellFormed m → Chosen m v → next m ≡ some v
chosen_next m v w k = go (next m) refl
  where
    go : (o : Option Move) → next m ≡ o → next m ≡ some v
    go none e =
        absurd (true≢false (sym k.moves ∙ none_movable m v.task e (in_tails v.task v.origin m.rows k.waits)))
    go (some q) e = e ∙ ap (λ (x : Move). some x) (chosen_same m q v (chosen m q w e) k)
