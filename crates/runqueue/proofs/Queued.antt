-- A row after its places have moved is the run queue without the task, or with it.
-- Assumes nothing.
use mathlib.Core.Path.{◌≡◌, refl, sym, ap, ◌∙◌}
use mathlib.Core.Bool.{Bool, true, false}
use mathlib.Core.List.{List}
use Prim.Native.Nat.{ℕ, zero, suc, ◌≤◌, ◌<◌}
use native.Mathlib.Omega.{arith}
use lib.Arith.{lt_of_le-ne}
use lib.Dec.{eqb, ltb}
use lib.ListN.{length, get_or, set, take, length-set}
use lib.Seq.{ext_get_or}
use borrow.Author.Tests.{eqb-true, eqb-false, ltb-true, ltb-false}
use Rattle.rules.specs.Lists.{In, place, insert_before, delete}
use Rattle.rules.specs.Machine.{task_places}
use Rattle.rules.specs.Tables.{nothing, padded}
use Rattle.laws.proofs.Lists.{length_delete, length_insert}
use Rattle.laws.proofs.Tables.{length_padded}
use Rattle.ranking.specs.Row.{HoldsRow, ahead}
use Rattle.ranking.proofs.Places.{delete_before, delete_after, insert_before_lem, insert_at, insert_after, ahead_le, padded_in, padded_out}
use Rattle.ranking.proofs.Held.{row_size, in_queue, behind, place_below}
use Rattle.runqueue.specs.Row.{Closed, Opened}
use Rattle.runqueue.proofs.Stored.{stored}

-- places that hold a run queue with the task put in: those ahead of it, the task, those behind it, and nothing
pub inserted_is : (p : ℕ → Bool) (task : ℕ) (r zs : List ℕ) → length r < task_places → length zs ≡ task_places
    → ((k : ℕ) → k < ahead p r → get_or zs k 0 ≡ get_or r k 0) → get_or zs (ahead p r) 0 ≡ task
    → ((k : ℕ) → ahead p r ≤ k → k < length r → get_or zs (suc k) 0 ≡ get_or r k 0)
    → ((k : ℕ) → suc (length r) ≤ k → k < task_places → get_or zs k 0 ≡ nothing) → zs ≡ padded (insert_before p task r)
inserted_is p task r zs room size before here after rest =
    ext_get_or 0 zs (padded (insert_before p task r)) (size ∙ sym (length_padded (insert_before p task r) (omega (arith, more))))
    (λ k h. go k (omega arith) (ltb k (ahead p r)) refl (ltb (length r) k) refl)
  where
    more : length (insert_before p task r) ≡ suc (length r)
    more = length_insert p task r

    later : (k : ℕ) → ahead p r ≤ k → k ≤ length r → get_or zs k 0 ≡ get_or (insert_before p task r) k 0
    later k h l = at_it (eqb k (ahead p r)) refl
      where
        behind_it : (k : ℕ) → ahead p r < k → k ≤ length r → get_or zs k 0 ≡ get_or (insert_before p task r) k 0
        behind_it zero h l = absurd (native.Mathlib.Nat.not-suc-le-zero h)
        behind_it (suc j) h l = after j (omega arith) (omega arith) ∙ sym (insert_after p task r j (omega arith))

        at_it : (b : Bool) → eqb k (ahead p r) ≡ b → get_or zs k 0 ≡ get_or (insert_before p task r) k 0
        at_it true e =
            let same : k ≡ ahead p r = eqb-true k (ahead p r) e in
            ap (λ (j : ℕ). get_or zs j 0) same ∙ here ∙ sym (insert_at p task r) ∙ ap (λ (j : ℕ). get_or (insert_before p task r) j 0) (sym same)
        at_it false e = behind_it k (lt_of_le-ne h (λ q. eqb-false k (ahead p r) e (sym q))) l

    go : (k : ℕ) → k < task_places → (b : Bool) → ltb k (ahead p r) ≡ b → (b' : Bool) → ltb (length r) k ≡ b' → get_or zs k 0 ≡ get_or (padded (insert_before p task r)) k 0
    go k h true e b' e' =
        let l : k < ahead p r = ltb-true k (ahead p r) e in
        before k l ∙ sym (insert_before_lem p task r k l) ∙ sym (padded_in (insert_before p task r) k (omega (arith, more, ahead_le p r)))
    go k h false e true e' =
        let l : length r < k = ltb-true (length r) k e' in
        rest k l h ∙ sym (padded_out (insert_before p task r) k (omega (arith, more)) h)
    go k h false e false e' =
        let l : k ≤ length r = ltb-false (length r) k e' in
        later k (ltb-false k (ahead p r) e) l ∙ sym (padded_in (insert_before p task r) k (omega (arith, more)))

module _ (count : ℕ) (xs : List ℕ) (held : HoldsRow count xs) where
  module _ (task : ℕ) (i : In task (take count xs)) where
    left_size : suc (length (delete task (take count xs))) ≡ count
    left_size = length_delete task (take count xs) i ∙ held.counted

    pub closed_is : (ys : List ℕ) → Closed (place task (take count xs)) count xs ys → ys ≡ padded (delete task (take count xs))
    closed_is ys c =
        ext_get_or 0 ys (padded (delete task (take count xs)))
        (c.size ∙ row_size count xs held ∙ sym (length_padded (delete task (take count xs)) (omega (arith, left_size, held.most))))
        (λ k h. go k (omega (arith, c.size, row_size count xs held)) (ltb k (place task (take count xs))) refl (ltb (suc k) count) refl (ltb k count) refl)
      where
        go : (k : ℕ) → k < task_places → (b : Bool) → ltb k (place task (take count xs)) ≡ b → (b' : Bool) → ltb (suc k) count ≡ b' → (b'' : Bool) → ltb k count ≡ b''
            → get_or ys k 0 ≡ get_or (padded (delete task (take count xs))) k 0
        go k h true e b' e' b'' e'' =
            let l : k < place task (take count xs) = ltb-true k (place task (take count xs)) e in
            c.before k l ∙ in_queue count xs held k (omega (arith, place_below count xs held task i)) ∙ sym (delete_before task (take count xs) k l)
            ∙ sym (padded_in (delete task (take count xs)) k (omega (arith, left_size, place_below count xs held task i)))
        go k h false e true e' b'' e'' =
            let l : place task (take count xs) ≤ k = ltb-false k (place task (take count xs)) e in
            let m : suc k < count = ltb-true (suc k) count e' in
            c.moved k l m ∙ in_queue count xs held (suc k) m ∙ sym (delete_after task (take count xs) k i l)
            ∙ sym (padded_in (delete task (take count xs)) k (omega (arith, left_size)))
        go k h false e false e' true e'' =
            let m : count ≤ suc k = ltb-false (suc k) count e' in
            let n : k < count = ltb-true k count e'' in
            c.last k (omega arith) ∙ sym (padded_out (delete task (take count xs)) k (omega (arith, left_size)) h)
        go k h false e false e' false e'' =
            let n : count ≤ k = ltb-false k count e'' in
            c.after k n ∙ behind count xs held k n h ∙ sym (padded_out (delete task (take count xs)) k (omega (arith, left_size)) h)

  module _ (p : ℕ → Bool) (task : ℕ) (room : count < task_places) where
    abbrev at : ℕ
    at = ahead p (take count xs)

    pub at_most : at ≤ count
    at_most = omega (arith, ahead_le p (take count xs), held.counted)

    pub opened_is : (ys : List ℕ) → Opened at count xs ys → set ys at task ≡ padded (insert_before p task (take count xs))
    opened_is ys o =
        inserted_is p task (take count xs) (set ys at task) (omega (arith, held.counted)) (length-set ys at task ∙ o.size ∙ row_size count xs held)
        (λ k h. stored ys at task k (get_or (take count xs) k 0) here (λ q. absurd (early k h q)) (λ d. o.before k h ∙ in_queue count xs held k (omega (arith, at_most))))
        (stored ys at task at task here (λ q. refl) (λ d. absurd (d refl)))
        (λ k h l. stored ys at task (suc k) (get_or (take count xs) k 0) here (λ q. absurd (late k h q))
        (λ d. o.moved k h (omega (arith, held.counted)) ∙ in_queue count xs held k (omega (arith, held.counted))))
        (λ k h l. stored ys at task k nothing here (λ q. absurd (past k h q)) (λ d. o.after k (omega (arith, held.counted)) ∙ behind count xs held k (omega (arith, held.counted)) l))
      where
        here : at < length ys
        here = omega (arith, o.size, row_size count xs held, at_most)

        early : (k : ℕ) → k < at → k ≡ at → ⊥
        early k h q = omega arith

        late : (k : ℕ) → at ≤ k → suc k ≡ at → ⊥
        late k h q = omega arith

        past : (k : ℕ) → suc (length (take count xs)) ≤ k → k ≡ at → ⊥
        past k h q = omega (arith, at_most, held.counted)
