-- A row in which a task has taken another place is the run queue of the others with the task put in.
-- Assumes nothing.
use mathlib.Core.Path.{◌≡◌, refl, sym, ap, ◌∙◌, subst}
use mathlib.Core.Bool.{Bool, true, false}
use mathlib.Core.List.{List}
use Prim.Native.Nat.{ℕ, suc, ◌+◌, ◌-◌, ◌≤◌, ◌<◌}
use native.Mathlib.Omega.{arith}
use lib.Dec.{ltb}
use lib.ListN.{length, get_or, set, take, drop, length-set, length-drop}
use lib.Seq.{get_or-take, get_or-drop, length-take-le}
use borrow.Author.Tests.{ltb-true, ltb-false}
use Rattle.rules.specs.Lists.{place, insert_before, delete}
use Rattle.rules.specs.Machine.{task_places}
use Rattle.rules.specs.Tables.{nothing, padded}
use Rattle.laws.proofs.Lists.{in_get_or, in_delete, falling_at, length_delete}
use Rattle.ranking.specs.Row.{HoldsRow, Ordered, ahead}
use Rattle.runqueue.specs.Row.{Reorderable, Closed, Opened}
use Rattle.ranking.proofs.Places.{delete_before, delete_after, ahead_is, ahead_before, ahead_here, ahead_le}
use Rattle.ranking.proofs.Held.{row_size, in_queue, behind, place_below}
use Rattle.runqueue.proofs.Queued.{inserted_is}
use Rattle.runqueue.proofs.Stored.{stored}

module _ {count : ℕ} {xs : List ℕ} (held : HoldsRow count xs) {prio : List ℕ} (prios : length prio ≡ task_places) {task : ℕ} (may : Reorderable prio task (take count xs)) where
  abbrev pub from : ℕ
  from = place task (take count xs)

  abbrev others : List ℕ
  others = delete task (take count xs)

  pub from_below : from < count
  from_below = place_below count xs held task may.stands

  others_size : suc (length others) ≡ count
  others_size = length_delete task (take count xs) may.stands ∙ held.counted

  -- where each of the others stood
  before_it : (k : ℕ) → k < from → get_or others k 0 ≡ get_or xs k 0
  before_it k h = delete_before task (take count xs) k h ∙ sym (in_queue count xs held k (omega (arith, from_below)))

  behind_it : (k : ℕ) → from ≤ k → suc k < count → get_or others k 0 ≡ get_or xs (suc k) 0
  behind_it k h l = delete_after task (take count xs) k may.stands h ∙ sym (in_queue count xs held (suc k) l)

  -- ---- the others are in order, before it and behind it

  falls : (j k : ℕ) → j ≤ k → k < length others → get_or prio (get_or others k 0) 0 ≤ get_or prio (get_or others j 0) 0
  falls = falling_at (λ (u : ℕ). get_or prio u 0) others may.others

  task_at_lem : (k : ℕ) → k < length others → get_or others k 0 < task_places
  task_at_lem k h = may.tasks (get_or others k 0) (in_delete task (get_or others k 0) (take count xs) (in_get_or others k h))

  -- places that are those of others from one on
  ordered_as : (ys : List ℕ) (d : ℕ) → length ys + d ≤ length others → ((k : ℕ) → k < length ys → get_or ys k 0 ≡ get_or others (k + d) 0) → Ordered prio ys
  ordered_as ys d l e =
      record {
        prios = prios;
        tasks = λ k b. subst (λ (u : ℕ). u < task_places) (sym (e k b)) (task_at_lem (k + d) (omega arith));
        falls = λ j k b c.
            let low : get_or prio (get_or others (k + d) 0) 0 ≤ get_or prio (get_or others (j + d) 0) 0 = falls (j + d) (k + d) (omega arith) (omega arith) in
            omega (arith, ap (λ (u : ℕ). get_or prio u 0) (e k c), ap (λ (u : ℕ). get_or prio u 0) (e j (omega arith)));
      }

  module _ (at : ℕ) (e : at ≡ from) where
    pub ordered_before : Ordered prio (take at xs)
    ordered_before =
        let size : length (take at xs) ≡ at = length-take-le at xs (omega (arith, from_below, row_size count xs held, held.most)) in
        ordered_as (take at xs) 0 (omega (arith, size, from_below, others_size))
        (λ k h.
        let same : k + 0 ≡ k = omega arith in
        get_or-take at xs k 0 (omega (arith, size)) ∙ sym (ap (λ (j : ℕ). get_or others j 0) same ∙ before_it k (omega (arith, size))))

    -- the tasks behind it
    abbrev behind_part : List ℕ
    behind_part = take (count - (at + 1)) (drop (at + 1) xs)

    part_at : (k : ℕ) → k < count - (at + 1) → get_or behind_part k 0 ≡ get_or others (k + from) 0
    part_at k h =
        let same : at + 1 + k ≡ suc (k + from) = omega arith in
        get_or-take (count - (at + 1)) (drop (at + 1) xs) k 0 h ∙ get_or-drop (at + 1) xs k 0
        ∙ ap (λ (j : ℕ). get_or xs j 0) same ∙ sym (behind_it (k + from) (omega arith) (omega arith))

    part_size : length behind_part ≡ count - (at + 1)
    part_size = length-take-le (count - (at + 1)) (drop (at + 1) xs) (omega (arith, length-drop (at + 1) xs, row_size count xs held, held.most))

    pub ordered_behind : Ordered prio behind_part
    ordered_behind = ordered_as behind_part from (omega (arith, part_size, others_size, from_below)) (λ k h. part_at k (omega (arith, part_size)))

  -- ---- how many of the others stand ahead of its new place

  module _ (p : ℕ → Bool) where
    -- one of those before it passes
    pub ahead_early : (at to : ℕ) → at ≡ from → to ≡ ahead p (take at xs) → to < at → to ≡ ahead p others
    ahead_early at to e b h =
        sym
        (ahead_is p others to (omega (arith, from_below, others_size))
        (λ k l. ap p (before_it k (omega arith) ∙ sym (taken k (omega arith))) ∙ ahead_before p (take at xs) k (omega arith))
        (λ l. ap p (before_it to (omega arith) ∙ sym (taken to h) ∙ ap (λ (j : ℕ). get_or (take at xs) j 0) b) ∙ ahead_here p (take at xs) (omega (arith, size))))
      where
        size : length (take at xs) ≡ at
        size = length-take-le at xs (omega (arith, from_below, row_size count xs held, held.most))

        taken : (k : ℕ) → k < at → get_or (take at xs) k 0 ≡ get_or xs k 0
        taken k l = get_or-take at xs k 0 l

    -- none of them does
    pub ahead_late : (at to more : ℕ) (e : at ≡ from) → to ≡ ahead p (take at xs) → at ≤ to → more ≡ ahead p (behind_part at e) → at + more ≡ ahead p others
    ahead_late at to more e b h m =
        sym
        (ahead_is p others (at + more) (omega (arith, most, others_size, from_below))
        (λ k l. go k l (ltb k at) refl)
        (λ l. ap p (sym (same_at more (omega (arith, others_size)))) ∙ ap (λ (j : ℕ). p (get_or (behind_part at e) j 0)) m
        ∙ ahead_here p (behind_part at e) (omega (arith, size, others_size, from_below))))
      where
        size : length (behind_part at e) ≡ count - (at + 1)
        size = part_size at e

        most : more ≤ count - (at + 1)
        most = omega (arith, ahead_le p (behind_part at e), size)

        same_at : (j : ℕ) → j < count - (at + 1) → get_or (behind_part at e) j 0 ≡ get_or others (at + j) 0
        same_at j l =
            let same : j + from ≡ at + j = omega arith in
            part_at at e j l ∙ ap (λ (i : ℕ). get_or others i 0) same

        go : (k : ℕ) → k < at + more → (t : Bool) → ltb k at ≡ t → p (get_or others k 0) ≡ false
        go k l true t =
            let early : k < at = ltb-true k at t in
            ap p (before_it k (omega arith) ∙ sym (get_or-take at xs k 0 early)) ∙ ahead_before p (take at xs) k (omega arith)
        go k l false t =
            let late : at ≤ k = ltb-false k at t in
            let same : at + (k - at) ≡ k = omega arith in
            ap p (ap (λ (j : ℕ). get_or others j 0) (sym same) ∙ sym (same_at (k - at) (omega (arith, most))))
            ∙ ahead_before p (behind_part at e) (k - at) (omega arith)

    pub ahead_most : ahead p others < count
    ahead_most = omega (arith, ahead_le p others, others_size)

    -- ---- the places moved

    unused : (k : ℕ) → suc (length others) ≤ k → k < task_places → get_or xs k 0 ≡ nothing
    unused k h l = behind count xs held k (omega (arith, others_size)) l

    pub raised_is : (at to : ℕ) (ys : List ℕ) → at ≡ from → to ≡ ahead p others → to < at → Opened to at xs ys → set ys to task ≡ padded (insert_before p task others)
    raised_is at to ys e a h o =
        inserted_is p task others (set ys to task) (omega (arith, others_size, held.most)) (length-set ys to task ∙ o.size ∙ row_size count xs held)
        (λ k b. stored ys to task k (get_or others k 0) here (λ q. absurd (early k b q)) (λ d. o.before k (omega arith) ∙ sym (before_it k (omega arith))))
        (stored ys to task (ahead p others) task here (λ q. refl) (λ d. absurd (d (sym a))))
        (λ k b l. stored ys to task (suc k) (get_or others k 0) here (λ q. absurd (late k b q)) (λ d. go k (omega arith) l (ltb k at) refl))
        (λ k b l. stored ys to task k nothing here (λ q. absurd (past k b q)) (λ d. o.after k (omega (arith, others_size, from_below)) ∙ unused k b l))
      where
        here : to < length ys
        here = omega (arith, o.size, row_size count xs held, from_below, held.most)

        early : (k : ℕ) → k < ahead p others → k ≡ to → ⊥
        early k b q = omega arith

        late : (k : ℕ) → ahead p others ≤ k → suc k ≡ to → ⊥
        late k b q = omega arith

        past : (k : ℕ) → suc (length others) ≤ k → k ≡ to → ⊥
        past k b q = omega (arith, others_size, from_below)

        go : (k : ℕ) → to ≤ k → k < length others → (t : Bool) → ltb k at ≡ t → get_or ys (suc k) 0 ≡ get_or others k 0
        go k b l true t = let m : k < at = ltb-true k at t in o.moved k b m ∙ sym (before_it k (omega arith))
        go k b l false t = let m : at ≤ k = ltb-false k at t in o.after (suc k) (omega arith) ∙ sym (behind_it k (omega arith) (omega (arith, others_size)))

    pub lowered_is : (at more : ℕ) (ys : List ℕ) → at ≡ from → at + more ≡ ahead p others → Closed at (at + 1 + more) xs ys
        → set ys (at + more) task ≡ padded (insert_before p task others)
    lowered_is at more ys e a c =
        inserted_is p task others (set ys (at + more) task) (omega (arith, others_size, held.most)) (length-set ys (at + more) task ∙ c.size ∙ row_size count xs held)
        (λ k b. stored ys (at + more) task k (get_or others k 0) here (λ q. absurd (early k b q)) (λ d. go k (omega arith) (ltb k at) refl))
        (stored ys (at + more) task (ahead p others) task here (λ q. refl) (λ d. absurd (d (sym a))))
        (λ k b l. stored ys (at + more) task (suc k) (get_or others k 0) here (λ q. absurd (late k b q))
        (λ d. c.after (suc k) (omega arith) ∙ sym (behind_it k (omega arith) (omega (arith, others_size)))))
        (λ k b l. stored ys (at + more) task k nothing here (λ q. absurd (past k b q)) (λ d. c.after k (omega (arith, most)) ∙ unused k b l))
      where
        most : at + more ≤ length others
        most = omega (arith, ahead_le p others)

        here : at + more < length ys
        here = omega (arith, c.size, row_size count xs held, most, others_size, held.most)

        early : (k : ℕ) → k < ahead p others → k ≡ at + more → ⊥
        early k b q = omega arith

        late : (k : ℕ) → ahead p others ≤ k → suc k ≡ at + more → ⊥
        late k b q = omega arith

        past : (k : ℕ) → suc (length others) ≤ k → k ≡ at + more → ⊥
        past k b q = omega (arith, most)

        go : (k : ℕ) → k < at + more → (t : Bool) → ltb k at ≡ t → get_or ys k 0 ≡ get_or others k 0
        go k b true t = let m : k < at = ltb-true k at t in c.before k m ∙ sym (before_it k (omega arith))
        go k b false t = let m : at ≤ k = ltb-false k at t in c.moved k m (omega arith) ∙ sym (behind_it k (omega arith) (omega (arith, most, others_size)))
