-- What the passes decide together: the tables fit exactly if rows, columns and record pass.
-- Assumes nothing.
use mathlib.Core.Path.{◌≡◌, refl, sym, ap, ◌∙◌, subst}
use mathlib.Core.Bool.{Bool, true, false, cond, ◌&&◌, ◌||◌}
use mathlib.Core.Logic.{◌≢◌, ◌⊎◌, inl, inr}
use mathlib.Core.List.{List, [], ◌∷◌}
use Prim.Native.Nat.{ℕ, zero, suc, ◌+◌, ◌*◌, ◌≤◌, ◌<◌}
use native.Mathlib.Nat.{not-suc-le-zero, zero-lt-suc}
use native.Mathlib.Omega.{arith}
use lib.Dec.{eqb, leb, ltb}
use lib.ListN.{length, get_or, drop, length-drop, get_or-eq_default}
use lib.Seq.{length-take-le, get_or-take, get_or-drop, take-take, ext_get_or}
use borrow.Author.Tests.{eqb-true, eq-eqb, le-leb, ltb-true, ltb-false, lt-ltb, le-ltb}
use Rattle.bits.specs.Bit.{bit, digit}
use Rattle.bits.proofs.Tests.{and_both}
use Rattle.cpupri.specs.Found.{mask_fits}
use Rattle.cpupri.specs.Consistent.{consistent, levels_fit, agrees, same}
use Rattle.levels.specs.declared.record.Record.{Record}
use Rattle.whole.proofs.Same.{same_is, is_same}
use Rattle.consistency.proofs.Agrees.{fit_at, fits_above}
use Rattle.rules.specs.Lists.{occ, In, each}
use Rattle.rules.specs.Machine.{Machine, Task, task_of, free_task, prio_of, row, idle_level, row_level, levels, free, asleep, runnable, task_places, cpu_places, highest_priority}
use Rattle.rules.specs.WellFormed.{Shape, Fit, WellFormed, standing, zeros, fits, sound_task, sound_row, falls, tasks, well_formed}
use Rattle.rules.specs.Tables.{Tables, machine_of, Stored, stored_rows, record_fits, tables_fit}
use Rattle.laws.proofs.Bools.{both}
use Rattle.laws.proofs.Lists.{same?, occ_nil, in_get_or, falling_at}
use Rattle.laws.proofs.Apart.{standing_home, standing_away, standing_means, standing_le, in_row, runnable_fit}
use Rattle.laws.proofs.Test.{each_at, at_each, each_in, tasks_length, tasks_at, shape_shaped, test_well_formed}
use Rattle.laws.proofs.Tables.{row_at, test_stored, stored_test}
use Rattle.laws.proofs.Record.{length_levels, levels_below, levels_above}
use Rattle.rowcheck.specs.Placed.{marked, mark, above}
use Rattle.wellformed.specs.Passes.{Rows, part, queue, standings, sound_when, Columns}
use Rattle.rowcheck.proofs.Marking.{digit_le}
use Rattle.wellformed.proofs.Standing.{standings_next, standings_grows}

-- ---- tests

pub decides : (a b : Bool) → (a ≡ true → b ≡ true) → (b ≡ true → a ≡ true) → a ≡ b
decides true b f g = sym (f refl)
decides false true f g = g refl
decides false false f g = refl

digit_one : (b : Bool) → 0 < digit b → b ≡ true
digit_one true h = refl
digit_one false h = absurd (not-suc-le-zero h)

-- the test of a task passes also where more is placed
sound_more : (p q : Bool) (n full online : ℕ) (τ : Task) → (τ.state ≡ runnable → p ≡ true → q ≡ true) → sound_when p n full online τ ≡ true → sound_when q n full online τ ≡ true
unfolding sound_when
sound_more p q n full online τ f h = go (eqb τ.state free) h
  where
    may : Bool
    may = bit τ.mask τ.cpu && bit online τ.cpu

    placed : (a b : Bool) → eqb τ.state runnable ≡ a → (b || (a && p && may)) ≡ true → (b || (a && q && may)) ≡ true
    placed a true e t = refl
    placed true false e t =
        let k = both p (may) t in
        and_both q (may) (f (eqb-true τ.state runnable e) k.0) k.1
    placed false false e t = t

    go : (b : Bool) → cond b (zeros τ) (fits n full τ && (eqb τ.state asleep || (eqb τ.state runnable && p && may))) ≡ true
        → cond b (zeros τ) (fits n full τ && (eqb τ.state asleep || (eqb τ.state runnable && q && may))) ≡ true
    go true t = t
    go false t =
        let k = both (fits n full τ) (eqb τ.state asleep || (eqb τ.state runnable && p && may)) t in
        and_both (fits n full τ) (eqb τ.state asleep || (eqb τ.state runnable && q && may)) k.0
        (placed (eqb τ.state runnable) (eqb τ.state asleep) refl k.1)

falls_at : (p : ℕ → ℕ) (r : List ℕ) → ((i : ℕ) → suc i < length r → p (get_or r (suc i) 0) ≤ p (get_or r i 0)) → falls p r ≡ true
unfolding falls
falls_at p [] h = refl
falls_at p (t ∷ []) h = refl
falls_at p (t ∷ u ∷ us) h =
    and_both (leb (p u) (p t)) (falls p (u ∷ us)) (le-leb (p u) (p t) (h zero (Prim.Native.Nat.suc-le-suc (zero-lt-suc (length us)))))
    (falls_at p (u ∷ us) (λ i l. h (suc i) (Prim.Native.Nat.suc-le-suc l)))

-- ---- standing in rows

module _ (counts rows : List ℕ) (u : ℕ) where
  -- what stands in one row stands in all
  pub one_standing : (n c : ℕ) → c < n → occ u (queue counts rows c) ≤ standings counts rows n u
  one_standing n c h = omega (arith, standings_next counts rows u c, standings_grows counts rows u (c + 1) n (omega arith))

  some_standing : (n : ℕ) → 0 < standings counts rows n u → (c : ℕ) × (c < n) × (In u (queue counts rows c))
  unfolding standings
  some_standing zero h = absurd (not-suc-le-zero h)
  some_standing (suc n) h = go (occ u (queue counts rows n)) refl (some_standing n)
    where
      go : (k : ℕ) → occ u (queue counts rows n) ≡ k → (0 < standings counts rows n u → (c : ℕ) × (c < n) × (In u (queue counts rows c)))
          → (c : ℕ) × (c < suc n) × (In u (queue counts rows c))
      go zero e ih =
          let f : (c : ℕ) × (c < n) × (In u (queue counts rows c)) = ih (omega arith) in
          let l : f.0 < n = f.1 in
          (f.0, omega arith, f.2)
      go (suc k) e ih = (n, omega arith, omega arith)

  -- a task that stands only where it has to stands at most once
  few_standings : (τ : Task) (n : ℕ) → ((c : ℕ) → c < n → occ u (queue counts rows c) ≡ standing τ c) → standings counts rows n u ≤ digit (ltb τ.cpu n)
  unfolding standings
  few_standings τ zero h = omega arith
  few_standings τ (suc n) h = go (same? τ.cpu n) (few_standings τ n (λ c l. h c (omega arith)))
    where
      go : (τ.cpu ≡ n) ⊎ (τ.cpu ≢ n) → standings counts rows n u ≤ digit (ltb τ.cpu n)
          → standings counts rows n u + occ u (queue counts rows n) ≤ digit (ltb τ.cpu (suc n))
      go (inl e) ih =
          let past : digit (ltb τ.cpu n) ≡ 0 = ap digit (le-ltb τ.cpu n (omega arith)) in
          let now : digit (ltb τ.cpu (suc n)) ≡ 1 = ap digit (lt-ltb τ.cpu (suc n) (omega arith)) in
          omega (arith, h n (omega arith), standing_le τ n)
      go (inr e) ih =
          let none : standing τ n ≡ 0 = standing_away τ n e in
          let more : digit (ltb τ.cpu n) ≤ digit (ltb τ.cpu (suc n)) = grows (ltb τ.cpu n) refl in
          omega (arith, h n (omega arith))
        where
          grows : (b : Bool) → ltb τ.cpu n ≡ b → digit b ≤ digit (ltb τ.cpu (suc n))
          grows true l =
              let now : digit (ltb τ.cpu (suc n)) ≡ 1 = ap digit (lt-ltb τ.cpu (suc n) (omega (arith, ltb-true τ.cpu n l))) in
              omega arith
          grows false l = Prim.Native.Nat.zero-le

-- ---- one row of the table

pub part_at : (rows : List ℕ) (c i : ℕ) → i < task_places → get_or (part rows c) i 0 ≡ get_or rows (task_places * c + i) 0
part_at rows c i h = get_or-take task_places (drop (task_places * c) rows) i 0 h ∙ get_or-drop (task_places * c) rows i 0

module _ (n : ℕ) (s : Tables) (shape : Shape (machine_of n s)) (rl : length s.rows ≡ task_places * n) (cl : length s.counts ≡ n) where
  abbrev m : Machine
  m = machine_of n s

  long : length s.rows ≡ task_places * length s.counts
  long = rl ∙ ap (λ (k : ℕ). task_places * k) (sym cl)

  module _ (c : ℕ) (h : c < n) (most : get_or s.counts c 0 ≤ task_places) where
    queue_row : queue s.counts s.rows c ≡ row m c
    queue_row =
        take-take (get_or s.counts c 0) task_places (drop (task_places * c) s.rows) most
        ∙ sym (row_at s.counts s.rows c (subst (λ (k : ℕ). c < k) (sym cl) h))

    part_long : length (part s.rows c) ≡ task_places
    part_long = length-take-le task_places (drop (task_places * c) s.rows) (simp length-drop (omega arith))

    row_long : length (row m c) ≡ get_or s.counts c 0
    row_long = ap length (sym queue_row) ∙ length-take-le (get_or s.counts c 0) (part s.rows c) (omega (arith, part_long))

    row_place : (i : ℕ) → i < get_or s.counts c 0 → get_or (row m c) i 0 ≡ get_or (part s.rows c) i 0
    row_place i l = ap (λ (r : List ℕ). get_or r i 0) (sym queue_row) ∙ get_or-take (get_or s.counts c 0) (part s.rows c) i 0 l

  beyond : (c : ℕ) → n ≤ c → row m c ≡ []
  beyond c l = get_or-eq_default m.rows [] (subst (λ (k : ℕ). k ≤ c) (sym shape.rows) l)

  -- ---- what passes fits

  module _ (r : Record) (levelled : length r.levels ≡ cpu_places) (marks : List ℕ)
      (p : Rows n s.state s.prio s.cpu s.rows s.counts s.flags s.online r.levels)
      (placed : (u : ℕ) → mark marks u ≡ standings s.counts s.rows n u)
      (q : Columns n s.full s.online s.state s.policy s.prio s.cpu s.slice s.mask marks) (ok : consistent n r ≡ true)
      (up : mask_fits n s.online ≡ true) where
    few : (c : ℕ) → c < n → get_or s.counts c 0 ≤ task_places
    few c h = (p.row c h).most

    within : {c : ℕ} → c < length s.counts → c < n
    within {c} h = subst (λ (k : ℕ). c < k) cl h

    stored : Stored s.counts s.rows
    stored =
        record {
          counted = λ c h. few c (within h);
          used = λ c i h l.
              let most : get_or s.counts c 0 ≤ task_places = few c (within h) in
              subst (λ (x : ℕ). x < task_places) (part_at s.rows c i (omega arith)) ((p.row c (within h)).tasks i l).number;
          unused = λ c i h g l. sym (part_at s.rows c i l) ∙ (p.row c (within h)).rest i g l;
        }

    each_stands : (c : ℕ) → c < n → each (λ i u. eqb (standing (task_of m u) c) 1) 0 (row m c) ≡ true
    each_stands c h =
        at_each 0 (λ i u. eqb (standing (task_of m u) c) 1) 0 (row m c)
        (λ j k e l.
        let i : j < get_or s.counts c 0 = subst (λ (x : ℕ). j < x) (row_long c h (few c h)) l in
        let t = (p.row c h).tasks j i in
        subst (λ (u : ℕ). eqb (standing (task_of m u) c) 1 ≡ true) (sym (row_place c h (few c h) j i))
        (eq-eqb (standing (task_of m (get_or (part s.rows c) j 0)) c) 1 (standing_home (task_of m (get_or (part s.rows c) j 0)) c t.runs t.home)))

    home : (c u : ℕ) → c < n → In u (row m c) → (task_of m u).cpu ≡ c
    home c u h i =
        let one : standing (task_of m u) c ≡ 1 = eqb-true (standing (task_of m u) c) 1 (each_in (λ u. eqb (standing (task_of m u) c) 1) 0 (row m c) (each_stands c h) u i) in
        (standing_means (task_of m u) c (omega arith)).1

    -- a task in the set stands once in the row of its CPU
    once : (u : ℕ) → marked marks u ≡ true → eqb (occ u (row m (task_of m u).cpu)) 1 ≡ true
    once u e =
        let all : standings s.counts s.rows n u ≡ 1 = sym (placed u) ∙ ap digit e in
        let f : (c : ℕ) × (c < n) × (In u (queue s.counts s.rows c)) = some_standing s.counts s.rows u n (omega arith) in
        let same : queue s.counts s.rows f.0 ≡ row m f.0 = queue_row f.0 f.1 (few f.0 f.1) in
        let here : (task_of m u).cpu ≡ f.0 = home f.0 u f.1 (subst (In u) same f.2) in
        let stands : In u (queue s.counts s.rows f.0) = f.2 in
        let one : occ u (queue s.counts s.rows f.0) ≡ 1 = omega (arith, one_standing s.counts s.rows u n f.0 f.1) in
        eq-eqb (occ u (row m (task_of m u).cpu)) 1 (ap (λ (c : ℕ). occ u (row m c)) here ∙ ap (occ u) (sym same) ∙ one)

    task : (t : ℕ) → t < task_places → sound_task m t (task_of m t) ≡ true
    unfolding sound_when
    task t h = sound_more (marked marks t) (eqb (occ t (row m (task_of m t).cpu)) 1) n s.full s.online (task_of m t) (λ z e. once t e) (q t h)

    each_task : each (sound_task m) 0 (tasks m) ≡ true
    each_task =
        at_each free_task (sound_task m) 0 (tasks m)
        (λ j k e l.
        let same : k ≡ j = omega arith in
        let small : j < task_places = subst (λ (x : ℕ). j < x) (tasks_length m shape) l in
        subst (λ (τ : Task). sound_task m k τ ≡ true) (ap (task_of m) same ∙ sym (tasks_at m shape j small))
        (task k (subst (λ (x : ℕ). x < task_places) (sym same) small)))

    each_row : each (sound_row m) 0 m.rows ≡ true
    each_row =
        at_each [] (sound_row m) 0 m.rows
        (λ j k e l.
        let same : j ≡ k = omega arith in
        let h : k < n = subst (λ (x : ℕ). x < n) same (subst (λ (x : ℕ). j < x) shape.rows l) in
        subst (λ (x : List ℕ). sound_row m k x ≡ true) (ap (row m) (sym same))
        (and_both _ _ (each_stands k h)
        (falls_at (prio_of m) (row m k)
        (λ i g.
        let b : suc i < get_or s.counts k 0 = subst (λ (x : ℕ). suc i < x) (row_long k h (few k h)) g in
        let down : get_or s.prio (get_or (part s.rows k) (suc i) 0) 0 ≤ get_or s.prio (get_or (part s.rows k) i 0) 0 = ((p.row k h).tasks (suc i) b).falls in
        let this : prio_of m (get_or (row m k) (suc i) 0) ≡ get_or s.prio (get_or (part s.rows k) (suc i) 0) 0 = ap (prio_of m) (row_place k h (few k h) (suc i) b) in
        let prev : prio_of m (get_or (row m k) i 0) ≡ get_or s.prio (get_or (part s.rows k) i 0) 0 = ap (prio_of m) (row_place k h (few k h) i (omega arith)) in
        omega arith))))

    each_flag : each (λ c f. leb f 1) 0 s.flags ≡ true
    each_flag = at_each 0 (λ c f. leb f 1) 0 s.flags (λ j k e l. le-leb (get_or s.flags j 0) 1 (p.row j (subst (λ (x : ℕ). j < x) shape.flags l)).small)

    same_levels : r.levels ≡ levels m
    unfolding consistent
    same_levels =
        ext_get_or 0 r.levels (levels m) (levelled ∙ sym (length_levels m shape.cpus))
        (λ c l. at c (subst (λ (x : ℕ). c < x) levelled l) (ltb c n) refl)
      where
        at : (c : ℕ) → c < cpu_places → (b : Bool) → ltb c n ≡ b → get_or r.levels c 0 ≡ get_or (levels m) c 0
        at c l true e =
            let h : c < n = ltb-true c n e in
            (p.row c h).right ∙ ap (row_level (prio_of m) (idle_level m c)) (queue_row c h (few c h)) ∙ sym (levels_below m c h)
        at c l false e =
            let h : n ≤ c = ltb-false c n e in
            fits_above n c (get_or r.levels c 0) h
            (fit_at n r.levels (both (levels_fit n r.levels) (agrees r) ok).0 c (subst (λ (x : ℕ). c < x) (sym levelled) l))
            ∙ sym (levels_above m c h l)

    pub passes_fit : tables_fit n r s ≡ true
    passes_fit =
        and_both _ _ (and_both _ _ (stored_test s.counts s.rows long stored) (and_both _ _ (and_both _ _ (and_both _ _ each_task each_row) each_flag) up))
        (and_both _ _ ok (is_same r.levels (levels m) same_levels))

  -- ---- what fits passes

  module _ (r : Record) (fit : tables_fit n r s ≡ true) where
    parts : (stored_rows s.counts s.rows && well_formed m ≡ true) × (record_fits m r ≡ true)
    parts = both _ _ fit

    front : (stored_rows s.counts s.rows ≡ true) × (well_formed m ≡ true)
    front = both _ _ parts.0

    back : (consistent n r ≡ true) × (same r.levels (levels m) ≡ true)
    back = both _ _ parts.1

    held : Stored s.counts s.rows
    held = test_stored s.counts s.rows long front.0

    w : WellFormed m
    w = test_well_formed m (shape_shaped m shape) front.1

    inside : {c : ℕ} → c < n → c < length s.counts
    inside {c} h = subst (λ (k : ℕ). c < k) (sym cl) h

    most : (c : ℕ) → c < n → get_or s.counts c 0 ≤ task_places
    most c h = held.counted c (inside h)

    -- the task at place i of row c
    listed : (c i : ℕ) → c < n → i < get_or s.counts c 0 → In (get_or (part s.rows c) i 0) (row m c)
    listed c i h l =
        subst (λ (u : ℕ). In u (row m c)) (row_place c h (most c h) i l) (in_get_or (row m c) i (subst (λ (k : ℕ). i < k) (sym (row_long c h (most c h))) l))

    bounded : (c i : ℕ) → c < n → i < get_or s.counts c 0 → get_or s.prio (get_or (part s.rows c) i 0) 0 ≤ above s.prio (part s.rows c) i
    bounded c zero h l =
        let f : Fit n s.full (task_of m (get_or (part s.rows c) 0 0)) = runnable_fit m (get_or (part s.rows c) 0 0) w (in_row m (get_or (part s.rows c) 0 0) c w (listed c zero h l)).0 in
        let high : get_or s.prio (get_or (part s.rows c) 0 0) 0 ≤ highest_priority = f.prio_high in
        omega arith
    bounded c (suc i) h l =
        let down : prio_of m (get_or (row m c) (suc i) 0) ≤ prio_of m (get_or (row m c) i 0) =
        falling_at (prio_of m) (row m c) (w.falling c) i (suc i) (omega arith) (subst (λ (k : ℕ). suc i < k) (sym (row_long c h (most c h))) l) in
        let this : prio_of m (get_or (row m c) (suc i) 0) ≡ get_or s.prio (get_or (part s.rows c) (suc i) 0) 0 = ap (prio_of m) (row_place c h (most c h) (suc i) l) in
        let prev : prio_of m (get_or (row m c) i 0) ≡ get_or s.prio (get_or (part s.rows c) i 0) 0 = ap (prio_of m) (row_place c h (most c h) i (omega arith)) in
        omega arith

    pub fit_rows : Rows n s.state s.prio s.cpu s.rows s.counts s.flags s.online r.levels
    fit_rows =
        record {
          row = λ c h.
              record {
                most = most c h;
                tasks = λ i l.
                    let u = get_or (part s.rows c) i 0 in
                    let few : get_or s.counts c 0 ≤ task_places = most c h in
                    record {
                      number = subst (λ (x : ℕ). x < task_places) (sym (part_at s.rows c i (omega arith))) (held.used c i (inside h) l);
                      runs = (in_row m u c w (listed c i h l)).0;
                      home = (in_row m u c w (listed c i h l)).1;
                      falls = bounded c i h l;
                    };
                rest = λ i g l. part_at s.rows c i l ∙ held.unused c i (inside h) g l;
                small = w.flags c h;
                right = ap (λ (ls : List ℕ). get_or ls c 0) (same_is r.levels (levels m) back.1) ∙ levels_below m c h
                    ∙ ap (row_level (prio_of m) (idle_level m c)) (sym (queue_row c h (most c h)));
              };
          once = λ u.
              let least : standings s.counts s.rows n u ≤ digit (ltb (task_of m u).cpu n) =
              few_standings s.counts s.rows u (task_of m u) n (λ c h. ap (occ u) (queue_row c h (most c h)) ∙ w.rows u c) in
              omega (arith, digit_le (ltb (task_of m u).cpu n));
        }

    -- a task that stands once in the row of its CPU is in the set
    in_set : (marks : List ℕ) → ((u : ℕ) → mark marks u ≡ standings s.counts s.rows n u) → (u : ℕ) → eqb (occ u (row m (task_of m u).cpu)) 1 ≡ true
        → marked marks u ≡ true
    in_set marks placed u e = go (ltb (task_of m u).cpu n) refl
      where
        one : occ u (row m (task_of m u).cpu) ≡ 1
        one = eqb-true (occ u (row m (task_of m u).cpu)) 1 e

        go : (b : Bool) → ltb (task_of m u).cpu n ≡ b → marked marks u ≡ true
        go true l =
            let h : (task_of m u).cpu < n = ltb-true (task_of m u).cpu n l in
            let here : occ u (queue s.counts s.rows (task_of m u).cpu) ≡ 1 = ap (occ u) (queue_row (task_of m u).cpu h (most (task_of m u).cpu h)) ∙ one in
            digit_one (marked marks u) (omega (arith, placed u, one_standing s.counts s.rows u n (task_of m u).cpu h))
        go false l =
            let none : occ u (row m (task_of m u).cpu) ≡ 0 = ap (occ u) (beyond (task_of m u).cpu (ltb-false (task_of m u).cpu n l)) ∙ occ_nil u in
            absurd (omega (arith, one))

    pub fit_columns : (marks : List ℕ) → ((u : ℕ) → mark marks u ≡ standings s.counts s.rows n u)
        → Columns n s.full s.online s.state s.policy s.prio s.cpu s.slice s.mask marks
    unfolding sound_when
    fit_columns marks placed t h =
        let tests = both _ _ (both _ _ (both _ _ front.1).0).0 in
        sound_more (eqb (occ t (row m (task_of m t).cpu)) 1) (marked marks t) n s.full s.online (task_of m t) (λ z e. in_set marks placed t e)
        (subst (λ (τ : Task). sound_task m t τ ≡ true) (tasks_at m shape t h)
        (each_at free_task (sound_task m) 0 (tasks m) tests.0 t t (omega arith) (subst (λ (x : ℕ). t < x) (sym (tasks_length m shape)) h)))

    pub fit_consistent : consistent n r ≡ true
    fit_consistent = back.0

    pub fit_online : mask_fits n s.online ≡ true
    fit_online =
        (both (each (sound_task m) 0 (tasks m) && each (sound_row m) 0 m.rows && each (λ c f. leb f 1) 0 m.flags) (mask_fits n s.online) front.1
        ).1
