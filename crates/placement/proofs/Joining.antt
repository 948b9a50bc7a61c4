-- A task leaves or enters a row of the lent tables, or takes another place in it: what that needs, and what the tables then hold.
-- Assumes nothing.
use mathlib.Core.Path.{◌≡◌, refl, sym, ap, ◌∙◌, subst}
use mathlib.Core.Bool.{Bool}
use mathlib.Core.List.{List, []}
use Prim.Native.Nat.{ℕ, ◌≤◌, ◌<◌}
use native.Mathlib.Omega.{arith}
use lib.ListN.{length, get_or, set}
use lib.Seq.{get_or-set_same, set-set}
use Rattle.cpupri.specs.Record.{record_of}
use Rattle.levels.specs.declared.record.Record.{Record}
use Rattle.rules.specs.Lists.{In, Falling, delete}
use Rattle.rules.specs.Machine.{Machine, row, levels, with_row, queued, entry_key, enqueue_at, dequeue, task_places, highest_priority}
use Rattle.rules.specs.Tables.{rows_of, flat_of, row_counts}
use Rattle.runqueue.specs.Row.{Reorderable}
use Rattle.runqueue.specs.Table.{HoldsRows, Joinable, row_at, rows_with}
use Rattle.placement.specs.Held.{Held, Queues, Entering}
use Rattle.placement.proofs.Order.{holds, read_row, read_rows, cpus_counted, fine_delete, fine_queued, held_row, above}

-- ---- leaving

module _ (m : Machine) (t : ℕ) {ps ks flat : List ℕ} {r : Record} {c : ℕ} (h : Held m ps ks flat r) (hc : c < m.n) (stands : In t (row m c)) where
  row_read : row_at ks flat c ≡ row m c
  row_read = read_row m ps ks flat r h c

  -- what `runqueue::table::dequeue` asks
  pub can_leave : HoldsRows ks flat × ((c < length ks) × In t (row_at ks flat c))
  can_leave = (holds m ps ks flat r h, (omega (arith, cpus_counted m ps ks flat r h), subst (In t) (sym row_read) stands))

  pub has_left : {ks' flat' : List ℕ} → flat' ≡ flat_of (rows_with ks flat c (delete t (row_at ks flat c)))
      → ks' ≡ row_counts (rows_with ks flat c (delete t (row_at ks flat c))) → Held (dequeue t c m) ps ks' flat' (record_of (levels (dequeue t c m)))
  has_left {ks'} {flat'} ef ek =
      held_row m ps ks flat r c (delete t (row m c)) h hc (fine_delete m t c h.order stands) ks' flat'
      (ek ∙ ap (λ (q : List ℕ). row_counts (rows_with ks flat c (delete t q))) row_read)
      (ef ∙ ap (λ (q : List ℕ). flat_of (rows_with ks flat c (delete t q))) row_read)

-- ---- entering

module _ (m : Machine) {ps ks flat : List ℕ} {r : Record} {t c : ℕ} (l : Entering m ps ks flat r t c) where
  row_is : row_at ks flat c ≡ row m c
  row_is = read_row m ps ks flat r l.held c

  joinable : Falling (λ (u : ℕ). get_or ps u 0) (row_at ks flat c)
  joinable =
      subst (λ (q : List ℕ). Falling (λ (u : ℕ). get_or ps u 0) q) (sym row_is)
      (subst (λ (qs : List ℕ). Falling (λ (u : ℕ). get_or qs u 0) (row m c)) (sym l.held.prio) (l.held.order.falling c))

  -- what `runqueue::table::enqueue` asks
  pub can_enter : HoldsRows ks flat
      × ((c < length ks) × ((t < task_places) × ((length ps ≡ task_places) × ((get_or ps t 0 ≤ highest_priority) × Joinable ps (row_at ks flat c)))))
  can_enter = (
    holds m ps ks flat r l.held,
    (
      omega (arith, cpus_counted m ps ks flat r l.held, l.cpu),
      (
        l.task,
        (
          ap length l.held.prio ∙ l.held.order.prios,
          (
            subst (λ (qs : List ℕ). get_or qs t 0 ≤ highest_priority) (sym l.held.prio) l.high,
            record {
              room = subst (λ (q : List ℕ). length q < task_places) (sym row_is) l.room;
              tasks = λ u i. (above m ps ks flat r l.held c u i).0;
              falling = joinable;
            },
          ),
        ),
      ),
    ),
  )

  -- in front of its equals or behind them
  abbrev joins : Bool → List ℕ → List ℕ → List ℕ
  joins front qs q = queued (entry_key front (get_or qs t 0)) (λ (u : ℕ). get_or qs u 0) t q

  same_queue : (front : Bool) → joins front ps (row_at ks flat c) ≡ joins front m.prio (row m c)
  same_queue front = ap (λ (qs : List ℕ). joins front qs (row_at ks flat c)) l.held.prio ∙ ap (joins front m.prio) row_is

  pub has_entered : (front : Bool) {ks' flat' : List ℕ} → flat' ≡ flat_of (rows_with ks flat c (joins front ps (row_at ks flat c)))
      → ks' ≡ row_counts (rows_with ks flat c (joins front ps (row_at ks flat c)))
      → Held (enqueue_at front t c m) ps ks' flat' (record_of (levels (enqueue_at front t c m)))
  has_entered front {ks'} {flat'} ef ek =
      record {
        order = record {
          cpus = h.order.cpus;
          rows = h.order.rows;
          prios = h.order.prios;
          fits = h.order.fits;
          tasks = h.order.tasks;
          high = h.order.high;
          flags = h.order.flags;
          falling = h.order.falling;
        };
        prio = h.prio;
        counts = h.counts;
        rows = h.rows;
        levels = refl;
      }
    where
      -- entering sets the CPU column besides
      entered : Machine
      entered = with_row c (joins front m.prio (row m c)) m

      h : Held entered ps ks' flat' (record_of (levels entered))
      h =
          held_row m ps ks flat r c (joins front m.prio (row m c)) l.held l.cpu
          (fine_queued m front t c l.held.order l.task l.high l.room) ks' flat'
          (ek ∙ ap (λ (q : List ℕ). row_counts (rows_with ks flat c q)) (same_queue front))
          (ef ∙ ap (λ (q : List ℕ). flat_of (rows_with ks flat c q)) (same_queue front))

-- ---- both at once: another place in the row

-- the task left the row of m, in tables that stand nowhere; m' is the machine that it enters
module _ (m : Machine) {t c : ℕ} {ks flat : List ℕ} (h : Queues m ks flat) (hc : c < m.n) (stands : In t (row m c)) (m' : Machine) {ps : List ℕ} {r : Record}
    (l : let left = rows_with ks flat c (delete t (row_at ks flat c)) in Entering m' ps (row_counts left) (flat_of left) r t c) where
  abbrev left : List (List ℕ)
  left = rows_with ks flat c (delete t (row_at ks flat c))

  left_rows : rows_of (row_counts left) (flat_of left) ≡ left
  left_rows =
      read_rows (dequeue t c m) m.prio (row_counts left) (flat_of left) (record_of (levels (dequeue t c m))) (has_left m t h hc stands refl refl)
      ∙ ap (λ (rs : List (List ℕ)). set rs c (delete t (get_or rs c []))) (sym (read_rows m m.prio ks flat (record_of (levels m)) h))

  others : row_at (row_counts left) (flat_of left) c ≡ delete t (row_at ks flat c)
  others = ap (λ (rs : List (List ℕ)). get_or rs c []) left_rows ∙ get_or-set_same (rows_of ks flat) c (delete t (row_at ks flat c)) [] here
    where
      here : c < length (rows_of ks flat)
      here = omega (arith, ap length (read_rows m m.prio ks flat (record_of (levels m)) h), h.order.rows)

  entered_rows : (q : List ℕ) → rows_with ks flat c q ≡ rows_with (row_counts left) (flat_of left) c q
  entered_rows q = sym (ap (λ (rs : List (List ℕ)). set rs c q) left_rows ∙ set-set (rows_of ks flat) c (delete t (row_at ks flat c)) q)

  -- what `runqueue::table::reorder` asks
  pub can_reorder : HoldsRows ks flat
      × ((c < length ks) × ((length ps ≡ task_places) × ((get_or ps t 0 ≤ highest_priority) × Reorderable ps t (row_at ks flat c))))
  can_reorder =
      let out = can_leave m t h hc stands in
      let in' = can_enter m' l in (
        out.0,
        (
          out.1.0,
          (
            in'.1.1.1.0,
            (
              in'.1.1.1.1.0,
              record {
                stands = out.1.1;
                tasks = λ u i. (above m m.prio ks flat (record_of (levels m)) h c u i).0;
                others = subst (Falling (λ (u : ℕ). get_or ps u 0)) others in'.1.1.1.1.1.falling;
              },
            ),
          ),
        ),
      )

  pub has_reordered : (front : Bool) {ks' flat' : List ℕ} → let place = queued (entry_key front (get_or ps t 0)) (λ (u : ℕ). get_or ps u 0) t (delete t (row_at ks flat c)) in
      flat' ≡ flat_of (rows_with ks flat c place) → ks' ≡ row_counts (rows_with ks flat c place)
      → Held (enqueue_at front t c m') ps ks' flat' (record_of (levels (enqueue_at front t c m')))
  has_reordered front ef ek = has_entered m' l front (ef ∙ ap flat_of same) (ek ∙ ap row_counts same)
    where
      joined : List ℕ → List ℕ
      joined = queued (entry_key front (get_or ps t 0)) (λ (u : ℕ). get_or ps u 0) t

      same : rows_with ks flat c (joined (delete t (row_at ks flat c))) ≡ rows_with (row_counts left) (flat_of left) c (joined (row_at (row_counts left) (flat_of left) c))
      same = entered_rows (joined (delete t (row_at ks flat c))) ∙ ap (λ (q : List ℕ). rows_with (row_counts left) (flat_of left) c (joined q)) (sym others)
