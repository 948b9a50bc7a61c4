-- Where a task stands that is queued by a number k. By its own priority these are the paper's words of entering: behind every task of the same or a
-- higher priority and before all lower ones. By one more they are those of a lowered task: behind every higher priority and before all others.
-- Assumes nothing.
use mathlib.Core.Path.{◌≡◌, refl, sym, ap, ◌∙◌, subst}
use mathlib.Core.Bool.{Bool, true, false, cond}
use mathlib.Core.Logic.{◌≢◌, ◌⊎◌, inl, inr}
use mathlib.Core.List.{List, [], ◌∷◌}
use Prim.Native.Nat.{ℕ, suc, ◌≤◌, ◌<◌}
use native.Mathlib.Omega.{arith}
use lib.Dec.{ltb}
use lib.ListN.{length, length-set}
use lib.Seq.{get_or-set_same}
use borrow.Author.Tests.{eq-eqb, ne_eqb, lt-ltb, le-ltb, ltb-true, ltb-false}
use Rattle.rules.specs.Lists.{In, place, Falling, insert_before, delete}
use Rattle.rules.specs.Machine.{Machine, Column, task_of, prio_of, row, store, queued, entry_key, enqueue_at, dequeue, runnable, task_places}
use Rattle.rules.specs.WellFormed.{WellFormed}
use Rattle.rules.specs.Events.{reprioritised}
use Rattle.laws.proofs.Apart.{Apart, runnable_fit, row_in}
use Rattle.laws.proofs.Effects.{apart_prio}
use Rattle.laws.proofs.Lists.{same?, digit_other, in_here, in_there, in_cons, not_in_nil, occ_delete, falling_head}
use Rattle.laws.proofs.Order.{place_here, place_there}
use Rattle.laws.proofs.Rows.{row_same}

-- task t stands in the row r' by k, seen from another task u
pub record Entered (k : ℕ) (p : ℕ → ℕ) (t u : ℕ) (r' : List ℕ) : Type 0 where
  pub behind : k ≤ p u → place u r' < place t r'
  pub before : p u < k → place t r' < place u r'

pub entering : (k : ℕ) (p : ℕ → ℕ) (t : ℕ) (r : List ℕ) → Falling p r → (In t r → ⊥) → (u : ℕ) → In u r → Entered k p t u (queued k p t r)
unfolding insert_before
entering k p t [] f out u i = absurd (not_in_nil u i)
entering k p t (y ∷ ys) f out u i = go (ltb (p y) k) refl (entering k p t ys f.1 (λ j. out (in_there t y ys j)))
  where
    not_y : t ≢ y
    not_y e = out (subst (λ (x : ℕ). In x (y ∷ ys)) (sym e) (in_here y ys))

    not_u : u ≢ t
    not_u e = out (subst (λ (x : ℕ). In x (y ∷ ys)) e i)

    rest : List ℕ
    rest = insert_before (λ v. ltb (p v) k) t ys

    go : (b : Bool) → ltb (p y) k ≡ b → ((u : ℕ) → In u ys → Entered k p t u rest)
        → Entered k p t u (cond b (t ∷ y ∷ ys) (y ∷ rest))
    go true e ih =
        let low : p u ≤ p y = falling_head p y ys f u i in
        record {
          behind = λ h. absurd (omega (arith, ltb-true (p y) k e));
          before = λ h. omega (arith, place_here t t (y ∷ ys) refl, place_there u t (y ∷ ys) not_u);
        }
    go false e ih = pick (same? u y) (in_cons u y ys i)
      where
        pick : (u ≡ y) ⊎ (u ≢ y) → (u ≡ y) ⊎ In u ys → Entered k p t u (y ∷ rest)
        pick (inl s) j =
            let same : p u ≡ p y = ap p s in
            record {
              behind = λ h. omega (arith, place_here u y rest s, place_there t y rest not_y);
              before = λ h. absurd (omega (arith, ltb-false (p y) k e));
            }
        pick (inr n) (inl s) = absurd (n s)
        pick (inr n) (inr j) =
            record {
              behind = λ h. omega (arith, (ih u j).behind h, place_there u y rest n, place_there t y rest not_y);
              before = λ h. omega (arith, (ih u j).before h, place_there u y rest n, place_there t y rest not_y);
            }

-- ---- a runnable task gets another priority

-- task t had the priority `old` and stands in the row r with another, seen from another task u
pub record Changed (old : ℕ) (p : ℕ → ℕ) (t u : ℕ) (r : List ℕ) : Type 0 where
  -- raised: behind every task of the same or a higher priority and before all lower ones
  pub raised_behind : old < p t → p t ≤ p u → place u r < place t r
  pub raised_before : old < p t → p u < p t → place t r < place u r
  -- lowered: behind every higher priority and before all others of the new one
  pub lowered_behind : p t < old → p t < p u → place u r < place t r
  pub lowered_before : p t < old → p u ≤ p t → place t r < place u r

module _ (t v : ℕ) (m : Machine) (w : WellFormed m) (small : t < task_places) (runs : (task_of m t).state ≡ runnable) (other : (task_of m t).prio ≢ v) where
  abbrev was : ℕ
  was = (task_of m t).prio

  abbrev home : ℕ
  home = (task_of m t).cpu

  abbrev lowered : Bool
  lowered = ltb v was

  -- with the number, and in no row
  abbrev gone : Machine
  gone = store Column.prio t v (dequeue t home m)

  apart : Apart t gone
  apart = apart_prio t m w small runs v

  own : prio_of gone t ≡ v
  own = get_or-set_same m.prio t v 0 (omega (arith, w.shape.prio))

  here : home < length m.rows
  here = omega (arith, w.shape.rows, (runnable_fit m t w runs).cpu)

  abbrev key : ℕ
  key = entry_key lowered (prio_of gone t)

  behind_key : was < v → key ≡ v
  behind_key h = ap (λ (b : Bool). entry_key b (prio_of gone t)) (le-ltb v was (omega arith)) ∙ own

  front_key : v < was → key ≡ suc v
  front_key h = ap (λ (b : Bool). entry_key b (prio_of gone t)) (lt-ltb v was h) ∙ ap suc own

  stands : (u : ℕ) → In u (row m home) → u ≢ t → Changed was (prio_of gone) t u (queued key (prio_of gone) t (row gone home))
  stands u i n =
      record {
        raised_behind = λ up h. e.behind (omega (arith, own, behind_key (omega (arith, own))));
        raised_before = λ up h. e.before (omega (arith, own, behind_key (omega (arith, own))));
        lowered_behind = λ down h. e.behind (omega (arith, own, front_key (omega (arith, own))));
        lowered_before = λ down h. e.before (omega (arith, own, front_key (omega (arith, own))));
      }
    where
      left : row gone home ≡ delete t (row m home)
      left = row_same m home (delete t (row m home)) here

      still : In u (row gone home)
      still = subst (In u) (sym left) (omega (arith, occ_delete t u (row m home) (row_in m t w runs), digit_other u t n))

      e : Entered key (prio_of gone) t u (queued key (prio_of gone) t (row gone home))
      e = entering key (prio_of gone) t (row gone home) (apart.falling home) (λ j. omega (arith, apart.absent home)) u still

  pub changed : (u : ℕ) → In u (row m home) → u ≢ t → Changed was (prio_of (reprioritised t v m)) t u (row (reprioritised t v m) home)
  changed u i n = subst (λ (x : Machine). Changed was (prio_of x) t u (row x home)) (sym is) (subst (Changed was (prio_of gone) t u) (sym entered) (stands u i n))
    where
      is : reprioritised t v m ≡ enqueue_at lowered t home gone
      is = rw (eq-eqb (task_of m t).state runnable runs, ne_eqb was v other)

      entered : row (enqueue_at lowered t home gone) home ≡ queued key (prio_of gone) t (row gone home)
      entered =
          row_same gone home (queued key (prio_of gone) t (row gone home))
          (omega (arith, here, length-set m.rows home (delete t (row m home))))
