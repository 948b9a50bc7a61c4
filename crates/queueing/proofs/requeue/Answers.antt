-- `queueing::requeue` meets its contract.
-- Assumes nothing.
use mathlib.Core.Path.{◌≡◌, refl, sym, ap, ◌∙◌, subst}
use mathlib.Core.Bool.{Bool, true, false}
use mathlib.Core.List.{List, [], ◌∷◌}
use mathlib.Core.Option.{Option, some}
use Prim.Native.Nat.{ℕ, ◌*◌, ◌<◌}
use native.Mathlib.Omega.{arith}
use lib.Dec.{ltb}
use lib.ListN.{length, get_or}
use borrow.Author.Tests.{eq-eqb, le-ltb}
use Rattle.levels.specs.declared.record.Record.{Record}
use Rattle.rules.specs.Lists.{Falling}
use Rattle.rules.specs.Machine.{Machine, Task, prio_of, row, head, level, levels, task_places}
use Rattle.rules.specs.Plan.{carried, reorder}
use Rattle.laws.specs.Limited.{or_nothing}
use Rattle.laws.proofs.Apart.{in_row}
use Rattle.laws.proofs.Limited.{none_some}
use Rattle.laws.proofs.Record.{levels_below}
use Rattle.placement.specs.Held.{Queues}
use Rattle.placement.proofs.Order.{well_formed_order}
use Rattle.carrying.proofs.Placing.{cpus_kept}
use Rattle.std.specs.Prelude as code
use Rattle.std.specs.Prelude.{None}
use Rattle.std.specs.Bool.{then_some}
use Rattle.hinting.specs.Hinted.{coded}
use Rattle.hinting.specs.Past.{Reading, new_since}
use Rattle.hinting.proofs.Lent.{seen, rows_long, first_is, level_is, new_waits, new_stays}
use Rattle.queueing.specs.Moved.{Moving, Running, Moved}
use Rattle.queueing.proofs.First.{requeued_level}
use Rattle.queueing.proofs.Going.{own, reading, twice, level_kept, state_is, state_after, reading_now, in_rows, few_since, moved, left_out, reorderable, reordered, cpu_home, cpu_kept}
use Rattle.queueing.proofs.requeue.Goals.{After-reorder}
use Rattle.queueing.proofs.requeue.Goals as goal

-- the task that runs is the first of its row
first_of_lem : (r : List ℕ) (t : ℕ) → head r ≡ some t → (ts : List ℕ) × (r ≡ t ∷ ts)
first_of_lem [] t e = absurd (none_some t e)
first_of_lem (x ∷ xs) t e = (xs, let s : x ≡ t = cc in ap (λ (y : ℕ). y ∷ xs) s)

not_below : {x y : ℕ} → y ≡ x → ltb x y ≡ false
not_below {x} {y} e = le-ltb x y (omega arith)

module _ {m : Machine} {t c : ℕ} {τ : Task} {ss qs cs flat ns fs flat' : List ℕ} {r : Record} (k : Moving m (reorder false t c τ) ss qs cs flat ns fs r)
    (e : Queues (carried (reorder false t c τ) m) ns flat') where
  reading_then : Reading (carried (reorder false t c τ) m) cs flat' (levels (carried (reorder false t c τ) m))
  reading_then = reading_now k (left_out k) e (cpu_kept k)

  -- its level stayed, so that no CPU fell
  requeued : Running m t c τ → {new : code.Option ℕ} → new ≡ coded (new_since t c true (carried (reorder false t c τ) m)) → Moved (seen None new) m (reorder false t c τ) cs flat' ns r
  requeued s is =
      moved k (left_out k) e (cpu_kept k) refl (twice k (level_kept k c here same))
      (few_since k c here (in_row m t c k.formed k.ready.leaves.1).1 reading_then true
      (eq-eqb _ t (first_is (reading k) c here ∙ ap (λ (x : Option ℕ). or_nothing x) s.first))
      (sym (ap (λ (b : Bool). then_some b c) (not_below (level_is (reading k) c here ∙ sym same ∙ sym (levels_below (carried (reorder false t c τ) m) c (subst (λ (n : ℕ). c < n) (sym (cpus_kept (own k))) here))))))
      is)
    where
      here : c < m.n
      here = k.ready.leaves.0

      first : (ts : List ℕ) × (row m c ≡ t ∷ ts)
      first = first_of_lem (row m c) t s.first

      same : level (carried (reorder false t c τ) m) c ≡ level m c
      same = requeued_level t τ m c (in_rows k c here) s.prio first.0 first.1 (subst (Falling (prio_of m)) first.1 ((well_formed_order m k.formed).falling c))

-- the row of a CPU has a place
module _ (c : After-reorder) where
  room : let k = c in (k.args.home * 512 < length k.reorder.new.rows) × (k.args.home < 64)
  room =
      let k = c in
      let l = k.requires.1.1.0 in
      let h = l.ready.leaves.0 in
      let long = rows_long (reading_then l (reordered l k.reorder.ensures.rows_are k.reorder.ensures.counts_are)) in
      (omega (arith, long, cpus_kept (own l), h), omega (arith, h, l.formed.shape.cpus))

-- ---- the needs
pub reorder-requires : goal.reorder-requires
reorder-requires c = let all = reorderable c.requires.1.1.0 in record {
  holds_rows = all.0;
  cpu_in_bounds = all.1.0;
  prio_len = all.1.1.0;
  task_bound = all.1.1.1.0;
  reorderable = all.1.1.1.1;
}

pub returns-then-rows-home : goal.returns-then-rows-home
returns-then-rows-home c =
    λ m τ l s.
    let e = reordered l c.reorder.ensures.rows_are c.reorder.ensures.counts_are in
    requeued l e s
    (new_stays (reading_then l e) (state_after l) c.args.task l.ready.task c.args.home true (state_is l ∙ s.state)
    (ap (λ (x : ℕ). get_or c.reorder.new.rows (x * task_places) 0) (cpu_home l) ∙ c.if-rows-home.true) (eq-eqb c.args.home _ (sym (cpu_home l))))

pub returns : goal.returns
returns c =
    λ m τ l s.
    let e = reordered l c.reorder.ensures.rows_are c.reorder.ensures.counts_are in
    requeued l e s
    (new_waits (reading_then l e) (state_after l) c.args.task l.ready.task c.args.home true (state_is l ∙ s.state)
    (λ q. c.if-rows-home.false (ap (λ (x : ℕ). get_or c.reorder.new.rows (x * task_places) 0) (sym (cpu_home l)) ∙ q)))

pub bounds-rows-home : goal.bounds-rows-home
bounds-rows-home c = let r = room (goal.at.bounds-rows-home c).After-reorder in omega (arith, r.0)
