-- `placement::enter` meets its contract.
-- Assumes nothing.
use mathlib.Core.Path.{◌≡◌, refl, sym, ap, ◌∙◌, subst}
use mathlib.Core.Bool.{true, false}
use mathlib.Core.List.{List}
use Prim.Native.Nat.{ℕ, suc, ◌*◌, ◌≤◌, ◌<◌}
use native.Mathlib.Omega.{arith}
use lib.Dec.{ltb}
use lib.ListN.{length, get_or, set}
use Rattle.cpupri.specs.Level.{known}
use Rattle.cpupri.specs.Record.{record_of}
use Rattle.levels.specs.declared.record.Record.{Record}
use Rattle.rules.specs.Machine.{Machine, row, prio_of, idle_level, levels, level_of, row_level, enqueue, queued, task_places, highest_priority}
use Rattle.laws.proofs.Lists.{length_insert}
use Rattle.laws.proofs.Rows.{row_same}
use Rattle.runqueue.specs.Table.{row_at}
use Rattle.runqueue.proofs.Flat.{rows_fit}
use Rattle.placement.specs.Held.{Held, Entering}
use Rattle.placement.proofs.Levels.{row_level_known, idle_known}
use Rattle.placement.proofs.Order.{holds, read_row, whole, cpus_counted, levels_set, above, level_first, first_in}
use Rattle.placement.proofs.Joining.{can_enter, has_entered}
use Rattle.placement.proofs.enter.Goals as goal

module _ {ps ks flat : List ℕ} {r : Record} {t c : ℕ} (m : Machine) (l : Entering m ps ks flat r t c) where
  abbrev joined : List ℕ
  joined = queued (prio_of m t) (prio_of m) t (row m c)

  abbrev entered : Machine
  entered = enqueue t c m

  module _ {ks' flat' : List ℕ} {r' : Record} (h : Held entered ps ks' flat' r') where
    here : c < length ks'
    here = omega (arith, cpus_counted entered ps ks' flat' r' h, l.cpu)

    new_row : row_at ks' flat' c ≡ joined
    new_row = read_row entered ps ks' flat' r' h c ∙ row_same m c joined (omega (arith, l.held.order.rows, l.cpu))

    some : 0 < length (row_at ks' flat' c)
    some =
        let size : length joined ≡ suc (length (row m c)) = length_insert (λ (u : ℕ). ltb (prio_of m u) (prio_of m t)) t (row m c) in
        omega (arith, ap length new_row)

    first_ok : (get_or flat' (c * task_places) 0 < task_places) × (get_or ps (get_or flat' (c * task_places) 0) 0 ≤ highest_priority)
    first_ok = above entered ps ks' flat' r' h c _ (first_in ks' flat' (holds entered ps ks' flat' r' h) c here some)

    module _ {v : ℕ} (e : v ≡ level_of (get_or ps (get_or flat' (c * task_places) 0) 0)) where
      -- the level that was worked out is the CPU's
      level_is : v ≡ row_level (prio_of m) (idle_level m c) joined
      level_is =
          e ∙ level_first ks' flat' (holds entered ps ks' flat' r' h) c here (λ (u : ℕ). get_or ps u 0) (idle_level m c) some
          ∙ ap (λ (qs : List ℕ). row_level (λ (u : ℕ). get_or qs u 0) (idle_level m c) (row_at ks' flat' c)) l.held.prio
          ∙ ap (row_level (prio_of m) (idle_level m c)) new_row

      level_ok : known v ≡ true
      level_ok =
          subst (λ (x : ℕ). known x ≡ true) (sym (level_is ∙ ap (row_level (prio_of m) (idle_level m c)) (sym (row_same m c joined (omega (arith, l.held.order.rows, l.cpu))))))
          (row_level_known (prio_of m) (idle_level m c) (row entered c) (idle_known m c (l.held.order.flags c l.cpu)) (h.order.high c))

      levels_after : set r.levels c v ≡ levels (enqueue t c m)
      levels_after = levels_set m ps ks flat r c joined l.held l.cpu v level_is

-- ---- the needs
pub enqueue-requires : goal.enqueue-requires
enqueue-requires c =
    let all = can_enter c.requires.entering.0 c.requires.entering.1 in record {
      holds_rows = all.0;
      cpu_in_bounds = all.1.0;
      task_lt_task_places = all.1.1.0;
      prio_len = all.1.1.1.0;
      task_bound = all.1.1.1.1.0;
      joinable = all.1.1.1.1.1;
    }

pub first_level-level-requires : goal.first_level-level-requires
first_level-level-requires c =
    let m = c.requires.entering.0 in
    let l = c.requires.entering.1 in
    let h = has_entered m l false c.enqueue.ensures.rows_are c.enqueue.ensures.counts_are in
    let first = first_ok m l h in
    let f = rows_fit _ _ (holds (entered m l) _ _ _ _ h) c.args.cpu (here m l h) in record {
      cpu_has_row = omega arith;
      prio_len = ap length l.held.prio ∙ l.held.order.prios;
      first_is_task = first.0;
      first_priority = first.1;
    }

pub set_level-requires : goal.set_level-requires
set_level-requires c =
    let m = c.requires.entering.0 in
    let l = c.requires.entering.1 in
    let h = has_entered m l false c.enqueue.ensures.rows_are c.enqueue.ensures.counts_are in record {
      whole = whole m _ _ _ _ l.held;
      cpu_lt_cpu_places = omega (arith, l.held.order.cpus, l.cpu);
      number_value = level_ok m l h c.first_level-level.ensures;
    }

pub returns : goal.returns
returns c =
    record {
      held = λ m l.
          let h = has_entered m l false c.enqueue.ensures.rows_are c.enqueue.ensures.counts_are in
          record {
            order = h.order;
            prio = h.prio;
            counts = h.counts;
            rows = h.rows;
            levels = c.set_level.ensures ∙ ap record_of (levels_after m l h c.first_level-level.ensures);
          };
      cpus_set = refl;
    }
