-- Machines whose run queues are in order: well-formed ones, and ones from whose rows a task has been taken.
-- Assumes nothing.
use mathlib.Core.Path.{◌≡◌, refl, sym, ap, ◌∙◌, subst}
use mathlib.Core.Bool.{Bool}
use mathlib.Core.Logic.{◌≢◌, ◌⊎◌, inl, inr}
use mathlib.Core.List.{List, [], ◌∷◌}
use Prim.Native.Nat.{ℕ, ◌*◌, ◌≤◌, ◌<◌}
use native.Mathlib.Nat.{le_of_lt, suc-ne-zero, not-suc-le-zero}
use native.Mathlib.Omega.{arith}
use lib.Dec.{ltb}
use lib.ListN.{length, get_or, set, length-set, length-map}
use Rattle.cpupri.specs.Record.{record_of, Whole}
use Rattle.levels.specs.declared.record.Record.{Record}
use Rattle.rules.specs.Lists.{In, Falling, delete}
use Rattle.rules.specs.Machine.{Machine, task_of, prio_of, row, idle_level, levels, row_level, level_of, queued, entry_key, with_row, task_places, highest_priority}
use Rattle.rules.specs.Tables.{rows_of, flat_of, row_counts}
use Rattle.rules.specs.WellFormed.{WellFormed, Fit}
use Rattle.laws.proofs.Apart.{Apart, in_row, in_other, in_place, room, queued_joins, standing_means, runnable_fit, runnable_place, fit_of}
use Rattle.laws.proofs.Lists.{same?, digit_other, in_here, in_delete, length_delete, occ_insert, length_insert, falling_delete}
use Rattle.laws.proofs.Room.{row_fits}
use Rattle.laws.proofs.Rows.{row_cases}
use Rattle.laws.proofs.Tables.{read_written}
use Rattle.runqueue.specs.Table.{HoldsRows, row_at, rows_with}
use Rattle.runqueue.proofs.Flat.{holds_written, first_place}
use Rattle.placement.specs.Held.{InOrder, Held}
use Rattle.placement.proofs.Levels.{row_level_known, idle_known, whole_levels, levels_row}

pub well_formed_order : (m : Machine) → WellFormed m → InOrder m
well_formed_order m w =
    record {
      cpus = w.shape.cpus;
      rows = w.shape.rows;
      prios = w.shape.prio;
      fits = λ c. row_fits m c w;
      tasks = λ c u i. runnable_place m u w (in_row m u c w i).0;
      high = λ c u i. (runnable_fit m u w (in_row m u c w i).0).prio_high;
      flags = w.flags;
      falling = w.falling;
    }

pub apart_order : (t : ℕ) (m : Machine) → Apart t m → t < task_places → InOrder m
apart_order t m a h =
    record {
      cpus = a.shape.cpus;
      rows = a.shape.rows;
      prios = a.shape.prio;
      fits = λ c. le_of_lt (room t m a h c);
      tasks = λ c u i. in_place t m a c u i;
      high = λ c u i. (fits c u i).prio_high;
      flags = a.flags;
      falling = a.falling;
    }
  where
    fits : (c u : ℕ) → In u (row m c) → Fit m.n m.full (task_of m u)
    fits c u i =
        let n : u ≢ t = in_other t m a c u i in
        let s = (standing_means (task_of m u) c (omega (arith, a.rows u c n))).0 in
        fit_of m.n m.full (task_of m u) (a.tasks u (in_place t m a c u i) n) (λ z. omega arith)

-- ---- what the tables then hold

module _ (m : Machine) (ps ks flat : List ℕ) (r : Record) (held : Held m ps ks flat r) where
  -- the rows are read as the machine's
  pub read_rows : rows_of ks flat ≡ m.rows
  read_rows = ap (λ (l : List ℕ). rows_of l flat) held.counts ∙ ap (rows_of (row_counts m.rows)) held.rows ∙ read_written m.rows held.order.fits

  pub holds : HoldsRows ks flat
  holds =
      subst (λ (l : List ℕ). HoldsRows l flat) (sym held.counts)
      (subst (HoldsRows (row_counts m.rows)) (sym held.rows) (holds_written m.rows held.order.fits))

  pub read_row : (c : ℕ) → get_or (rows_of ks flat) c [] ≡ row m c
  read_row c = ap (λ (l : List (List ℕ)). get_or l c []) read_rows

  pub whole : Whole r
  whole =
      subst Whole (sym held.levels)
      (whole_levels m held.order.cpus (λ c h. row_level_known (prio_of m) (idle_level m c) (row m c) (idle_known m c (held.order.flags c h)) (held.order.high c)))

  pub cpus_counted : length ks ≡ m.n
  cpus_counted = ap length held.counts ∙ length-map m.rows (λ (q : List ℕ). length q) ∙ held.order.rows

-- ---- one row changes

-- a run queue that may stand in a machine's row
pub record Fine (m : Machine) (q : List ℕ) : Type 0 where
  pub fits : length q ≤ task_places
  pub tasks : (u : ℕ) → In u q → u < task_places
  pub high : (u : ℕ) → In u q → prio_of m u ≤ highest_priority
  pub falling : Falling (prio_of m) q

module _ (m : Machine) (c : ℕ) (q : List ℕ) (order : InOrder m) (hc : c < m.n) (fine : Fine m q) where
  here : c < length m.rows
  here = omega (arith, order.rows)

  pub order_row : InOrder (with_row c q m)
  order_row =
      record {
        cpus = order.cpus;
        rows = length-set m.rows c q ∙ order.rows;
        prios = order.prios;
        fits = row_cases m c q (λ d r. length r ≤ task_places) here fine.fits (λ d n. order.fits d);
        tasks = row_cases m c q (λ d r. (u : ℕ) → In u r → u < task_places) here fine.tasks (λ d n. order.tasks d);
        high = row_cases m c q (λ d r. (u : ℕ) → In u r → prio_of m u ≤ highest_priority) here fine.high (λ d n. order.high d);
        flags = order.flags;
        falling = row_cases m c q (λ d r. Falling (prio_of m) r) here fine.falling (λ d n. order.falling d);
      }

-- the tables with that row written hold the machine with that row
pub held_row : (m : Machine) (ps ks flat : List ℕ) (r : Record) (c : ℕ) (q : List ℕ) → Held m ps ks flat r → c < m.n → Fine m q
    → (ks' flat' : List ℕ) → ks' ≡ row_counts (rows_with ks flat c q) → flat' ≡ flat_of (rows_with ks flat c q)
    → Held (with_row c q m) ps ks' flat' (record_of (levels (with_row c q m)))
held_row m ps ks flat r c q held hc fine ks' flat' ek ef =
    record {
      order = order_row m c q held.order hc fine;
      prio = held.prio;
      counts = ek ∙ ap (λ (l : List (List ℕ)). row_counts (set l c q)) (read_rows m ps ks flat r held);
      rows = ef ∙ ap (λ (l : List (List ℕ)). flat_of (set l c q)) (read_rows m ps ks flat r held);
      levels = refl;
    }

-- the record with that row's level is the machine's
pub levels_set : (m : Machine) (ps ks flat : List ℕ) (r : Record) (c : ℕ) (q : List ℕ) → Held m ps ks flat r → c < m.n
    → (v : ℕ) → v ≡ row_level (prio_of m) (idle_level m c) q → set r.levels c v ≡ levels (with_row c q m)
unfolding record_of
levels_set m ps ks flat r c q held hc v e =
    ap (λ (x : Record). set x.levels c v) held.levels ∙ ap (set (levels m) c) e
    ∙ sym (levels_row m c q held.order.cpus held.order.rows hc)

-- what stands in a stored row has a place and a priority
pub above : (m : Machine) (ps ks flat : List ℕ) (r : Record) (h : Held m ps ks flat r) (c : ℕ) → (u : ℕ) → In u (row_at ks flat c) → (u < task_places) × (get_or ps u 0 ≤ highest_priority)
above m ps ks flat r h c u i =
    let j : In u (row m c) = subst (In u) (read_row m ps ks flat r h c) i in
    (h.order.tasks c u j, subst (λ (qs : List ℕ). get_or qs u 0 ≤ highest_priority) (sym h.prio) (h.order.high c u j))

-- a task that leaves, and one that enters
pub fine_delete : (m : Machine) (t c : ℕ) → InOrder m → In t (row m c) → Fine m (delete t (row m c))
fine_delete m t c o i =
    record {
      fits = omega (arith, length_delete t (row m c) i, o.fits c);
      tasks = λ u i. o.tasks c u (in_delete t u (row m c) i);
      high = λ u i. o.high c u (in_delete t u (row m c) i);
      falling = falling_delete (prio_of m) t (row m c) (o.falling c);
    }

pub fine_queued : (m : Machine) (front : Bool) (t c : ℕ) → InOrder m → t < task_places → prio_of m t ≤ highest_priority → length (row m c) < task_places
    → Fine m (queued (entry_key front (prio_of m t)) (prio_of m) t (row m c))
fine_queued m front t c o ht hp room =
    record {
      fits = omega (arith, length_insert test t (row m c));
      tasks = λ u i. go u (λ (v : ℕ). v < task_places) ht (o.tasks c) (same? u t) i;
      high = λ u i. go u (λ (v : ℕ). prio_of m v ≤ highest_priority) hp (o.high c) (same? u t) i;
      falling = (queued_joins front (prio_of m) t (row m c) (o.falling c)).falling;
    }
  where
    test : ℕ → Bool
    test u = ltb (prio_of m u) (entry_key front (prio_of m t))

    go : (u : ℕ) (P : ℕ → Type 0) → P t → ((v : ℕ) → In v (row m c) → P v) → (u ≡ t) ⊎ (u ≢ t)
        → In u (queued (entry_key front (prio_of m t)) (prio_of m) t (row m c)) → P u
    go u P h old (inl e) i = subst P (sym e) h
    go u P h old (inr n) i =
        old u (omega (arith, occ_insert test t u (row m c), digit_other u t n))

-- ---- a row's level, from its first place

pub level_empty : (p : ℕ → ℕ) (f : ℕ) (r : List ℕ) → length r ≡ 0 → f ≡ row_level p f r
level_empty p f [] e = refl
level_empty p f (u ∷ us) e = absurd (suc-ne-zero (length us) e)

module _ (ks flat : List ℕ) (held : HoldsRows ks flat) (c : ℕ) (hc : c < length ks) where
  pub level_first : (p : ℕ → ℕ) (f : ℕ) → 0 < length (row_at ks flat c) → level_of (p (get_or flat (c * task_places) 0)) ≡ row_level p f (row_at ks flat c)
  level_first p f h = go (row_at ks flat c) refl h
    where
      go : (r : List ℕ) → row_at ks flat c ≡ r → 0 < length r → level_of (p (get_or flat (c * task_places) 0)) ≡ row_level p f r
      go [] e h = absurd (not-suc-le-zero h)
      go (u ∷ us) e h = ap (λ (t : ℕ). level_of (p t)) (first_place ks flat held c hc u us e)

  pub first_in : 0 < length (row_at ks flat c) → In (get_or flat (c * task_places) 0) (row_at ks flat c)
  first_in h = go (row_at ks flat c) refl h
    where
      go : (r : List ℕ) → row_at ks flat c ≡ r → 0 < length r → In (get_or flat (c * task_places) 0) r
      go [] e h = absurd (not-suc-le-zero h)
      go (u ∷ us) e h = subst (λ (t : ℕ). In t (u ∷ us)) (sym (first_place ks flat held c hc u us e)) (in_here u us)
