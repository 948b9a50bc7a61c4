-- Where the tasks below a key start, in a row whose priorities fall.
-- Assumes nothing.
use mathlib.Core.Path.{◌≡◌, refl, sym, ap}
use mathlib.Core.Bool.{Bool, true, false}
use mathlib.Core.List.{List}
use Prim.Native.Nat.{ℕ, ◌+◌, ◌-◌, ◌≤◌, ◌<◌}
use native.Mathlib.Omega.{arith}
use lib.Dec.{ltb}
use lib.ListN.{length, get_or, take}
use lib.Seq.{get_or-take, length-take-le}
use borrow.Author.Tests.{lt-ltb, le-ltb, ltb-true, ltb-false}
use Rattle.laws.proofs.Lists.{falling_at}
use Rattle.rules.specs.Lists.{Falling}
use Rattle.rules.specs.Machine.{task_places}
use Rattle.ranking.specs.Row.{Ordered, LowerFrom, Ends, ahead, prio_at}
use Rattle.ranking.proofs.Places.{ahead_is}

-- ---- rows in order

-- the places of a first part
module _ (row : List ℕ) {n : ℕ} (h : n ≤ length row) where
  first_size : length (take n row) ≡ n
  first_size = length-take-le n row h

  first_at : (prio : List ℕ) (k : ℕ) → k < n → prio_at prio (take n row) k ≡ prio_at prio row k
  first_at prio k l = ap (λ (u : ℕ). get_or prio u 0) (get_or-take n row k 0 l)

-- the tasks of a row, where their priorities fall
pub ordered_row : (prio row : List ℕ) (count : ℕ) → count ≤ length row → length prio ≡ task_places → ((k : ℕ) → k < count → get_or row k 0 < task_places)
    → Falling (λ (u : ℕ). get_or prio u 0) (take count row) → Ordered prio (take count row)
ordered_row prio row count h s t f =
    record {
      prios = s;
      tasks = λ k l.
          let inside : k < count = omega (arith, first_size row h) in
          omega (arith, get_or-take count row k 0 inside, t k inside);
      falls = λ j k m l. falling_at (λ (u : ℕ). get_or prio u 0) (take count row) f j k m l;
    }

module _ {prio row : List ℕ} (o : Ordered prio row) where
  pub ordered_first : (n : ℕ) → n ≤ length row → Ordered prio (take n row)
  ordered_first n h =
      record {
        prios = o.prios;
        tasks = λ k l.
            let inside : k < n = omega (arith, first_size row h) in
            omega (arith, get_or-take n row k 0 inside, o.tasks k (omega arith));
        falls = λ j k m l.
            let inside : k < n = omega (arith, first_size row h) in
            omega (arith, first_at row h prio k inside, first_at row h prio j (omega arith), o.falls j k m (omega arith));
      }

  -- where the others do not end, those from the last of them on are below
  pub not_ended : {key at : ℕ} {ends : Bool} → Ends prio row key at ends → ends ≡ false → (n : ℕ) → at ≤ n + 1 → n ≤ length row → LowerFrom prio row key n
  not_ended {key} {at} e f n h m = record { most = m; lower = λ k b l. omega (arith, (e.no f).1, o.falls (at - 1) k (omega arith) l) }

  -- where they end: so many are not below
  pub rank_is : {key at : ℕ} {ends : Bool} → Ends prio row key at ends → ends ≡ true → LowerFrom prio row key at
      → at ≡ ahead (λ (u : ℕ). ltb (get_or prio u 0) key) row
  rank_is {key} {at} e t w =
      sym (ahead_is (λ (u : ℕ). ltb (get_or prio u 0) key) row at w.most (λ k b. le-ltb _ key (not_lower k b)) (λ b. lt-ltb _ key (w.lower at (omega arith) b)))
    where
      not_lower : (k : ℕ) → k < at → key ≤ prio_at prio row k
      not_lower k b = omega (arith, o.falls k (at - 1) (omega arith) (omega (arith, w.most)), e.yes t (omega arith))

-- ---- the places from one on

module _ {prio row : List ℕ} {key : ℕ} where
  pub lower_end : LowerFrom prio row key (length row)
  lower_end = record { most = omega arith; lower = λ k b l. absurd (none k b l) }
    where
      none : (k : ℕ) → length row ≤ k → k < length row → ⊥
      none k b l = omega arith

  pub lower_later : {at : ℕ} → LowerFrom prio row key at → (n : ℕ) → at ≤ n → n ≤ length row → LowerFrom prio row key n
  lower_later w n h m = record { most = m; lower = λ k b l. w.lower k (omega arith) l }

  -- in the first m places, and from there on
  pub lower_both : {m at : ℕ} → LowerFrom prio (take m row) key at → LowerFrom prio row key m → LowerFrom prio row key at
  lower_both {m} {at} w v = record { most = omega (arith, w.most, first_size row v.most, v.most); lower = λ k b l. go k b l (ltb k m) refl }
    where
      go : (k : ℕ) → at ≤ k → k < length row → (t : Bool) → ltb k m ≡ t → prio_at prio row k < key
      go k b l true e =
          let inside : k < m = ltb-true k m e in
          omega (arith, first_at row v.most prio k inside, w.lower k b (omega (arith, first_size row v.most)))
      go k b l false e = v.lower k (ltb-false k m e) l
