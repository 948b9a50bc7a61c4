-- The movable tasks are among the candidates, and after a step they still are.
-- Assumes nothing.
use mathlib.Core.Path.{◌≡◌, refl, sym, ap, ◌∙◌, subst}
use mathlib.Core.Bool.{Bool, true, false, cond, ◌&&◌, ◌||◌, true≢false, false≢true}
use mathlib.Core.List.{List, [], ◌∷◌, tail}
use mathlib.Core.Logic.{◌≢◌, ◌⊎◌, inl, inr}
use mathlib.Core.Option.{Option, none, some}
use Prim.Native.Nat.{ℕ, ◌≤◌, ◌<◌}
use native.Mathlib.Omega.{arith}
use lib.Dec.{eqb}
use lib.ListN.{length}
use borrow.Author.Tests.{ltb-true, lt-ltb, eqb-true, eq-eqb, ne_eqb}
use Rattle.rules.specs.Lists.{occ, In, delete}
use Rattle.rules.specs.Machine.{Machine, task_of, prio_of, row, head, running, level, level_of, allowed}
use Rattle.rules.specs.WellFormed.{WellFormed}
use Rattle.rules.specs.Migration.{Move, Chosen, waiting, lower, movable, next, migrate}
use Rattle.laws.specs.Limited.{holds, drawn, candidate, displaced, or_else, fallen_after, new_after, Limited}
use Rattle.laws.proofs.Bools.{both}
use Rattle.laws.proofs.Lists.{same?, occ_cons, digit_same, in_here, in_cons, in_there, not_in_nil, delete_behind, in_tails, tails_in}
use Rattle.laws.proofs.Apart.{in_row, once}
use Rattle.laws.proofs.Choice.{movable_by, movable_one, chosen}
use Rattle.laws.proofs.Step.{level_running, keep_step, Origin, origin_row, target_row, left_row, other_row, target_runs, same_runs, target_level, levels_rise, waits_now}

-- ---- options

pub holds_some : (o : Option ℕ) (x : ℕ) → holds o x ≡ true → o ≡ some x
holds_some none x h = absurd (false≢true h)
holds_some (some y) x h = ap (λ (k : ℕ). some k) (eqb-true y x h)

pub some_holds : (o : Option ℕ) (x : ℕ) → o ≡ some x → holds o x ≡ true
some_holds none x h = absurd (let z : ◌≡◌ {A = ℕ} 0 1 = cc in omega arith)
some_holds (some y) x h = eq-eqb y x (cc)

pub none_some : {A : Type 0} (x : A) → ◌≡◌ {A = Option A} none (some x) → ⊥
none_some x h = let z : ◌≡◌ {A = ℕ} 0 1 = cc in omega arith

-- ---- leaving, seen from the others

pub delete_first : (x y : ℕ) (ys : List ℕ) → y ≡ x → delete x (y ∷ ys) ≡ ys
unfolding delete
delete_first x y ys e = ap (λ (b : Bool). cond b ys (y ∷ delete x ys)) (eq-eqb x y (sym e))

pub in_delete_other : (x u : ℕ) (r : List ℕ) → u ≢ x → In u r → In u (delete x r)
in_delete_other x u [] n i = absurd (not_in_nil u i)
in_delete_other x u (y ∷ ys) n i = go (same? y x) (in_cons u y ys i) (in_delete_other x u ys n)
  where
    go : (y ≡ x) ⊎ (y ≢ x) → (u ≡ y) ⊎ In u ys → (In u ys → In u (delete x ys)) → In u (delete x (y ∷ ys))
    go (inl e) (inl s) ih = absurd (n (s ∙ e))
    go (inl e) (inr j) ih = subst (In u) (sym (delete_first x y ys e)) j
    go (inr d) (inl s) ih =
        subst (In u) (sym (delete_behind x y ys (λ q. d (sym q)))) (subst (λ (k : ℕ). In k (y ∷ delete x ys)) (sym s) (in_here y (delete x ys)))
    go (inr d) (inr j) ih = subst (In u) (sym (delete_behind x y ys (λ q. d (sym q)))) (in_there u y (delete x ys) (ih j))

-- ---- who waits

pub waits_in : (m : Machine) (u c : ℕ) → In u (tail (row m c)) → In u (row m c)
waits_in m u c i = go (row m c) i
  where
    go : (r : List ℕ) → In u (tail r) → In u r
    go [] i = i
    go (y ∷ ys) i = in_there u y ys i

-- the first of a row stands in it
pub first_in : (t : ℕ) (r : List ℕ) → head r ≡ some t → In t r
first_in t [] e = absurd (none_some t e)
first_in t (y ∷ ys) e = let s : y ≡ t = cc in subst (λ (k : ℕ). In k (y ∷ ys)) s (in_here y ys)

-- who runs does not wait
pub runs_not_waits : (m : Machine) → WellFormed m → (c t : ℕ) → running m c ≡ some t → In t (waiting m) → ⊥
runs_not_waits m w c t e i = go (tails_in t m.rows i)
  where
    twice : (r : List ℕ) → head r ≡ some t → In t (tail r) → occ t r ≤ 1 → ⊥
    twice [] h j l = none_some t h
    twice (y ∷ ys) h j l = let s : t ≡ y = cc in omega (arith, occ_cons t y ys, digit_same t y s, j)

    go : (d : ℕ) × (d < length m.rows) × (In t (tail (row m d))) → ⊥
    go f =
        let here : (task_of m t).cpu ≡ c = (in_row m t c w (first_in t (row m c) e)).1 in
        let there : (task_of m t).cpu ≡ f.0 = (in_row m t f.0 w (waits_in m t f.0 f.2)).1 in
        twice (row m c) e (subst (λ (d : ℕ). In t (tail (row m d))) (sym there ∙ here) f.2) (once m t c w)

-- ---- one step

module _ (m : Machine) (fallen new : Option ℕ) (l : Limited m fallen new) where
  drawn_movable : (u : ℕ) → drawn m fallen u ≡ true → movable m u ≡ true
  drawn_movable u h = go fallen refl h
    where
      go : (o : Option ℕ) → fallen ≡ o → drawn m o u ≡ true → movable m u ≡ true
      go none e h = absurd (false≢true h)
      go (some c) e h =
          let b : (allowed m u c ≡ true) × (lower m u c ≡ true) = both (allowed m u c) (lower m u c) h in
          movable_by m u c (l.small c e) b.0 (ltb-true (level m c) (level_of (prio_of m u)) b.1)

  pub candidate_movable : (u : ℕ) → In u (waiting m) → candidate m fallen new u ≡ movable m u
  candidate_movable u i = go (movable m u) refl
    where
      or_true : (a b : Bool) → b ≡ true → (a || b) ≡ true
      or_true true b h = refl
      or_true false b h = h

      low : (b : Bool) → drawn m fallen u ≡ b → movable m u ≡ false → b ≡ false
      low true e n = absurd (true≢false (sym (drawn_movable u e) ∙ n))
      low false e n = refl

      and_false : (a : Bool) → (a && false) ≡ false
      and_false true = refl
      and_false false = refl

      yes : movable m u ≡ true → candidate m fallen new u ≡ true
      yes h = pick (l.only u f.0 i f.1 f.2 f.3)
        where
          f : (c : ℕ) × (c < m.n) × (allowed m u c ≡ true) × (level m c < level_of (prio_of m u))
          f = movable_one m u h

          pick : (new ≡ some u) ⊎ (fallen ≡ some f.0) → candidate m fallen new u ≡ true
          pick (inl e) =
              ap (λ (b : Bool). (b && movable m u) || drawn m fallen u) (some_holds new u e)
              ∙ ap (λ (b : Bool). b || drawn m fallen u) h
          pick (inr e) =
              or_true (holds new u && movable m u) (drawn m fallen u)
              (ap (λ (o : Option ℕ). drawn m o u) e
              ∙ ap (λ (b : Bool). b && lower m u f.0) f.2
              ∙ lt-ltb (level m f.0) (level_of (prio_of m u)) f.3)

      go : (b : Bool) → movable m u ≡ b → candidate m fallen new u ≡ movable m u
      go true h = yes h ∙ sym h
      go false h =
          ap (λ (b : Bool). (holds new u && b) || drawn m fallen u) h
          ∙ ap (λ (b : Bool). b || drawn m fallen u) (and_false (holds new u))
          ∙ low (drawn m fallen u) refl h
          ∙ sym h

-- no candidate: no step applies
pub limited_none : (m : Machine) → WellFormed m → Limited m none none → next m ≡ none
limited_none m w l = go (next m) refl
  where
    go : (o : Option Move) → next m ≡ o → next m ≡ none
    go none e = e
    go (some v) e =
        let k : Chosen m v = chosen m v w e in
        absurd (which (l.only v.task v.target (in_tails v.task v.origin m.rows k.waits) k.small k.may k.below))
      where
        which : (none ≡ some v.task) ⊎ (none ≡ some v.target) → ⊥
        which (inl q) = none_some v.task q
        which (inr q) = none_some v.target q

-- ---- after a step

module _ (m : Machine) (fallen new : Option ℕ) (w : WellFormed m) (v : Move) (k : Chosen m v) (l : Limited m fallen new) where
  abbrev moved : Machine
  moved = migrate v m

  -- the mover runs now
  mover_runs : In v.task (waiting moved) → ⊥
  mover_runs i = runs_not_waits moved (keep_step m v w k) v.target v.task (target_runs m v w k) i

  mover_waits : In v.task (waiting m)
  mover_waits = in_tails v.task v.origin m.rows k.waits

  -- what finds a CPU below it now found it so before
  before : (u c : ℕ) → level moved c < level_of (prio_of m u) → level m c < level_of (prio_of m u)
  before u c h = omega (arith, levels_rise m v w k c)

  -- and it is not the destination, if the task waited before
  elsewhere : (u c : ℕ) → In u (waiting m) → c < m.n → allowed m u c ≡ true → level moved c < level_of (prio_of m u) → c ≢ v.target
  elsewhere u c i s a h e =
      let top : prio_of m u ≤ prio_of m v.task = k.highest u i (movable_by m u c s a (before u c h)) in
      let at : level moved c ≡ level moved v.target = ap (level moved) e in
      omega (arith, target_level m v w k)

  -- who waited, and is not the mover, still waits
  still_waits : (u : ℕ) → In u (waiting m) → u ≢ v.task → In u (waiting moved)
  still_waits u i n = go (tails_in u m.rows i)
    where
      left : (d : ℕ) → d ≡ v.origin → In u (tail (row m d)) → In u (tail (row moved d))
      left d e j =
          let o : Origin m v w k = origin_row m v w k in
          let was : row m d ≡ o.top ∷ o.rest = ap (row m) e ∙ o.is in
          let now : row moved d ≡ o.top ∷ delete v.task o.rest =
          ap (row moved) e ∙ left_row m v w k ∙ ap (delete v.task) o.is ∙ delete_behind v.task o.top o.rest o.other in
          subst (λ (r : List ℕ). In u (tail r)) (sym now) (in_delete_other v.task u o.rest n (subst (λ (r : List ℕ). In u (tail r)) was j))

      entered : (d : ℕ) → d ≡ v.target → In u (tail (row m d)) → In u (tail (row moved d))
      entered d e j =
          subst (λ (r : List ℕ). In u (tail r)) (sym (ap (row moved) e ∙ target_row m v w k))
          (subst (λ (c : ℕ). In u (row m c)) e (waits_in m u d j))

      stands : (d : ℕ) → In u (tail (row m d)) → (d ≡ v.target) ⊎ (d ≢ v.target) → (d ≡ v.origin) ⊎ (d ≢ v.origin) → In u (tail (row moved d))
      stands d j (inl e) q = entered d e j
      stands d j (inr e) (inl q) = left d q j
      stands d j (inr e) (inr q) = subst (λ (r : List ℕ). In u (tail r)) (sym (other_row m v w k d e q)) j

      go : (d : ℕ) × (d < length m.rows) × (In u (tail (row m d))) → In u (waiting moved)
      go f = in_tails u f.0 moved.rows (stands f.0 f.2 (same? f.0 v.target) (same? f.0 v.origin))

  -- and who was displaced waits
  displaced_waits : (t : ℕ) → displaced m v ≡ some t → In t (waiting moved)
  displaced_waits t e =
      in_tails t v.target moved.rows (subst (λ (r : List ℕ). In t (tail r)) (sym (target_row m v w k)) (first_in t (row m v.target) e))

  -- a step to another CPU than the fallen one
  off : (fallen ≢ some v.target) → Limited moved fallen (displaced m v)
  off n =
      record {
        small = l.small;
        waits = displaced_waits;
        only = λ u c i s a h. pick u c s a h i (waits_now m v w k u i);
        quiet = λ x c u d e f r s n a. silent c u d f r s n a;
      }
    where
      mover_new : new ≡ some v.task
      mover_new = go (l.only v.task v.target mover_waits k.small k.may k.below)
        where
          go : (new ≡ some v.task) ⊎ (fallen ≡ some v.target) → new ≡ some v.task
          go (inl e) = e
          go (inr e) = absurd (n e)

      pick : (u c : ℕ) → c < m.n → allowed m u c ≡ true → level moved c < level_of (prio_of m u) → In u (waiting moved)
          → In u (waiting m) ⊎ (running m v.target ≡ some u) → (displaced m v ≡ some u) ⊎ (fallen ≡ some c)
      pick u c s a h i (inr e) = inl e
      pick u c s a h i (inl j) = go (l.only u c j s a (before u c h))
        where
          go : (new ≡ some u) ⊎ (fallen ≡ some c) → (displaced m v ≡ some u) ⊎ (fallen ≡ some c)
          go (inl e) = let s : v.task ≡ u = cc (mover_new, e) in absurd (mover_runs (subst (λ (x : ℕ). In x (waiting moved)) (sym s) i))
          go (inr e) = inr e

      silent : (c u d : ℕ) → fallen ≡ some c → running moved c ≡ some u → d < m.n → d ≢ c → allowed m u d ≡ true → level_of (prio_of m u) ≤ level moved d
      silent c u d f r s o a =
          let same : running m c ≡ some u = sym (same_runs m v w k c (λ q. n (f ∙ ap (λ (x : ℕ). some x) q))) ∙ r in
          omega (arith, l.quiet v.task c u d mover_new f same s o a, levels_rise m v w k d)

  -- a step to the fallen CPU
  on : fallen ≡ some v.target → Limited moved none (or_else v.task new (displaced m v))
  on f =
      record {
        small = λ c e. absurd (none_some c e);
        waits = λ t e. waits t new e refl;
        only = λ u c i s a h. inl (pick u c s a h i (waits_now m v w k u i));
        quiet = λ x c u d e f r s n a. absurd (none_some c f);
      }
    where
      stays : (u : ℕ) → u ≢ v.task → (o : Option ℕ) → o ≡ some u → or_else v.task o (displaced m v) ≡ some u
      stays u n none e = absurd (none_some u e)
      stays u n (some x) e =
          let s : x ≡ u = cc in
          ap (λ (b : Bool). cond b (displaced m v) (some x)) (ne_eqb x v.task (λ q. n (sym s ∙ q))) ∙ e

      waits : (t : ℕ) (o : Option ℕ) → or_else v.task o (displaced m v) ≡ some t → new ≡ o → In t (waiting moved)
      waits t none e q = displaced_waits t e
      waits t (some x) e q = go (same? x v.task)
        where
          go : (x ≡ v.task) ⊎ (x ≢ v.task) → In t (waiting moved)
          go (inl s) = displaced_waits t (sym (ap (λ (b : Bool). cond b (displaced m v) (some x)) (eq-eqb x v.task s)) ∙ e)
          go (inr n) =
              let s : some x ≡ some t = sym (ap (λ (b : Bool). cond b (displaced m v) (some x)) (ne_eqb x v.task n)) ∙ e in
              let h : x ≡ t = cc in
              subst (λ (y : ℕ). In y (waiting moved)) h (still_waits x (l.waits x q) n)

      -- what ran on the destination
      ran : (u c : ℕ) → c < m.n → allowed m u c ≡ true → level moved c < level_of (prio_of m u) → running m v.target ≡ some u
          → (o : Option ℕ) → new ≡ o → or_else v.task o (displaced m v) ≡ some u
      ran u c s a h e none q = e
      ran u c s a h e (some x) q = go (eqb x v.task)
        where
          at : (c ≡ v.target) ⊎ (c ≢ v.target) → ⊥
          at (inl t) =
              let b : level moved c ≡ level moved v.target = ap (level moved) t in
              let r : level m v.target ≡ level_of (prio_of m u) = level_running m v.target u e in
              omega (arith, target_level m v w k, k.below)
          at (inr t) = omega (arith, l.quiet x v.target u c q f e s t a, levels_rise m v w k c)

          go : (b : Bool) → cond b (displaced m v) (some x) ≡ some u
          go true = e
          go false = absurd (at (same? c v.target))

      pick : (u c : ℕ) → c < m.n → allowed m u c ≡ true → level moved c < level_of (prio_of m u) → In u (waiting moved)
          → In u (waiting m) ⊎ (running m v.target ≡ some u) → or_else v.task new (displaced m v) ≡ some u
      pick u c s a h i (inr e) = ran u c s a h e new refl
      pick u c s a h i (inl j) = go (l.only u c j s a (before u c h))
        where
          go : (new ≡ some u) ⊎ (fallen ≡ some c) → or_else v.task new (displaced m v) ≡ some u
          go (inl e) = stays u (λ q. mover_runs (subst (λ (x : ℕ). In x (waiting moved)) q i)) new e
          go (inr e) = let q : c ≡ v.target = cc in absurd (elsewhere u c j s a h q)

  pub limited_step : Limited moved (fallen_after fallen v) (new_after m fallen new v)
  limited_step = go (holds fallen v.target) refl
    where
      go : (b : Bool) → holds fallen v.target ≡ b
          → Limited moved (cond b none fallen) (cond b (or_else v.task new (displaced m v)) (displaced m v))
      go true e = on (holds_some fallen v.target e)
      go false e = off (λ q. true≢false (sym (some_holds fallen v.target q) ∙ e))
