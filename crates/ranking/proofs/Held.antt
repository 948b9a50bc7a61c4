-- A row that holds a run queue, place by place.
-- Assumes nothing.
use mathlib.Core.Path.{◌≡◌, refl, sym, ap, ◌∙◌, subst}
use mathlib.Core.Bool.{Bool, true, false}
use mathlib.Core.Logic.{◌≢◌}
use mathlib.Core.List.{List}
use Prim.Native.Nat.{ℕ, ◌+◌, ◌-◌, ◌≤◌, ◌<◌}
use native.Mathlib.Nat.{le_antisymm}
use native.Mathlib.Omega.{arith}
use lib.Arith.{lt_of_le-ne}
use lib.Dec.{leb}
use lib.ListN.{length, get_or, take}
use lib.Seq.{get_or-take}
use borrow.Author.Tests.{leb-true, leb-false}
use Rattle.rules.specs.Lists.{In, place}
use Rattle.rules.specs.Machine.{task_places}
use Rattle.rules.specs.Tables.{nothing}
use Rattle.laws.proofs.Lists.{in_get_or}
use Rattle.laws.proofs.Order.{place_lt, place_is}
use Rattle.laws.proofs.Tables.{length_padded}
use Rattle.ranking.specs.Row.{HoldsRow, block}
use Rattle.ranking.proofs.Places.{place_le, padded_out}

module _ (count : ℕ) (xs : List ℕ) (held : HoldsRow count xs) where
  pub row_size : length xs ≡ task_places
  row_size = ap length held.written ∙ length_padded (take count xs) (omega (arith, held.most, held.counted))

  -- a place before the count, and one from the count on
  pub in_queue : (k : ℕ) → k < count → get_or xs k 0 ≡ get_or (take count xs) k 0
  in_queue k h = sym (get_or-take count xs k 0 h)

  pub behind : (k : ℕ) → count ≤ k → k < task_places → get_or xs k 0 ≡ nothing
  behind k h l = ap (λ (ys : List ℕ). get_or ys k 0) held.written ∙ padded_out (take count xs) k (omega (arith, held.counted)) l

  module _ (task : ℕ) (i : In task (take count xs)) where
    pub place_below : place task (take count xs) < count
    place_below = omega (arith, place_lt task (take count xs) i, held.counted)

    at_place : get_or xs (place task (take count xs)) 0 ≡ task
    at_place = in_queue (place task (take count xs)) place_below ∙ place_is task (take count xs) i

    -- it stands in the whole row, and at the same place
    pub in_row : In task xs
    in_row =
        subst (λ (u : ℕ). In u xs) at_place (in_get_or xs (place task (take count xs)) (omega (arith, place_below, row_size, held.most)))

    pub row_place : place task xs ≡ place task (take count xs)
    row_place =
        let early : place task xs ≤ place task (take count xs) = place_le task xs (place task (take count xs)) at_place in
        le_antisymm early (place_le task (take count xs) (place task xs)
        (sym (in_queue (place task xs) (omega (arith, early, place_below))) ∙ place_is task xs in_row))

-- ---- a task that is looked for along a row

module _ (xs : List ℕ) (task : ℕ) (i : In task xs) where
  -- it does not stand earlier than this place: it stands here, or later, or behind this block
  pub stands_here : (at : ℕ) → at ≤ place task xs → get_or xs at 0 ≡ task → at ≡ place task xs
  stands_here at h e = le_antisymm h (place_le task xs at e)

  pub stands_later : (at : ℕ) → at ≤ place task xs → get_or xs at 0 ≢ task → at < place task xs
  stands_later at h d = lt_of_le-ne h (λ e. d (ap (λ (k : ℕ). get_or xs k 0) e ∙ place_is task xs i))

  pub stands_behind : (from : ℕ) → from ≤ place task xs → ((k : ℕ) → k < block → get_or xs (from + k) 0 ≢ task) → from + block ≤ place task xs
  stands_behind from h none = go (leb (from + block) (place task xs)) refl
    where
      go : (b : Bool) → leb (from + block) (place task xs) ≡ b → from + block ≤ place task xs
      go true t = leb-true _ _ t
      go false t =
          let inside : place task xs < from + block = leb-false _ _ t in
          let here : from + (place task xs - from) ≡ place task xs = omega arith in
          absurd (none (place task xs - from) (omega arith) (ap (λ (k : ℕ). get_or xs k 0) here ∙ place_is task xs i))
