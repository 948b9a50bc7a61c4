-- One row within the flat table: the part that it is, and the table after that part has changed.
-- Assumes nothing.
use mathlib.Core.Path.{◌≡◌, refl, sym, ap, ap₂, ◌∙◌, subst, subst₂}
use mathlib.Core.List.{List, [], ◌∷◌, ◌++◌}
use Prim.Native.Nat.{ℕ, zero, suc, ◌+◌, ◌-◌, ◌*◌, ◌≤◌, ◌<◌}
use native.Mathlib.Omega.{arith}
use lib.ListN.{length, get_or, set, take, drop, replicate}
use lib.Seq.{take_at, take-take, drop-drop, get_or-drop, get_or-take}
use Rattle.rules.specs.Machine.{task_places}
use Rattle.rules.specs.Tables.{nothing, rows_of, padded, flat_of, row_counts}
use Rattle.laws.proofs.Tables.{Fitting, read_written, length_rows_of, length_flat, flat_row, flat_set, counts_set}
use Rattle.ranking.proofs.Places.{padded_in}
use Rattle.ranking.specs.Row.{HoldsRow}
use Rattle.runqueue.specs.Table.{HoldsRows, row_at, rows_with}

-- ---- counts

pub count_at_lem : (rs : List (List ℕ)) (c : ℕ) → get_or (row_counts rs) c 0 ≡ length (get_or rs c [])
count_at_lem [] c = refl
count_at_lem (r ∷ rs) zero = refl
count_at_lem (r ∷ rs) (suc c) = count_at_lem rs c

-- ---- one row, held

take_row : (r : List ℕ) → take (length r) (padded r) ≡ r
unfolding padded
take_row r = take_at r (replicate (task_places - length r) nothing) (length r) refl

pub holds_row : (r : List ℕ) → length r ≤ task_places → HoldsRow (length r) (padded r)
holds_row r h = record { most = h; written = ap padded (sym (take_row r)); counted = ap length (take_row r) }

-- a table that holds rows, seen at CPU c
module _ (counts rows : List ℕ) (held : HoldsRows counts rows) (c : ℕ) (hc : c < length counts) where
  c_in : c < length (rows_of counts rows)
  c_in = omega (arith, length_rows_of counts rows)

  pub count_is : get_or counts c 0 ≡ length (row_at counts rows c)
  count_is = ap (λ (ks : List ℕ). get_or ks c 0) held.counted ∙ count_at_lem (rows_of counts rows) c

  pub part_row : take task_places (drop (task_places * c) rows) ≡ padded (row_at counts rows c)
  part_row = ap (λ (l : List ℕ). take task_places (drop (task_places * c) l)) held.written ∙ flat_row (rows_of counts rows) held.fits c c_in

  -- the part holds the row, and that is what its count takes
  pub part_held : HoldsRow (get_or counts c 0) (take task_places (drop (task_places * c) rows))
  part_held =
      subst (λ (k : ℕ). HoldsRow k (take task_places (drop (task_places * c) rows))) (sym count_is)
      (subst (HoldsRow (length (row_at counts rows c))) (sym part_row) (holds_row (row_at counts rows c) (held.fits c)))

  pub part_taken : take (get_or counts c 0) (take task_places (drop (task_places * c) rows)) ≡ row_at counts rows c
  part_taken = ap₂ (λ (k : ℕ) (l : List ℕ). take k l) count_is part_row ∙ take_row (row_at counts rows c)

  pub rows_fit : task_places * c + task_places ≤ length rows
  rows_fit =
      let size : length (flat_of (rows_of counts rows)) ≡ task_places * length (rows_of counts rows) = length_flat (rows_of counts rows) held.fits in
      let whole : length rows ≡ length (flat_of (rows_of counts rows)) = ap length held.written in
      omega (arith, c_in)

  -- the part becomes another row's, and the count its length
  pub rows_become : (q : List ℕ) → take (task_places * c) rows ++ (padded q ++ drop task_places (drop (task_places * c) rows)) ≡ flat_of (rows_with counts rows c q)
  rows_become q =
      ap (λ (l : List ℕ). take (task_places * c) rows ++ (padded q ++ l)) (drop-drop task_places (task_places * c) rows)
      ∙ ap (λ (l : List ℕ). take (task_places * c) l ++ (padded q ++ drop (task_places * c + task_places) l)) held.written
      ∙ sym (flat_set (rows_of counts rows) held.fits c q c_in)

  pub counts_become : (q : List ℕ) → set counts c (length q) ≡ row_counts (rows_with counts rows c q)
  counts_become q = ap (λ (ks : List ℕ). set ks c (length q)) held.counted ∙ sym (counts_set (rows_of counts rows) c q)

  -- place i of the row stands at the row's start and i
  pub place_at : (i : ℕ) → i < length (row_at counts rows c) → get_or rows (c * task_places + i) 0 ≡ get_or (row_at counts rows c) i 0
  place_at i h =
      let start : task_places * c + i ≡ c * task_places + i = omega arith in
      let inside : i < task_places = omega (arith, held.fits c) in
      ap (λ (k : ℕ). get_or rows k 0) (sym start) ∙ sym (get_or-drop (task_places * c) rows i 0)
      ∙ sym (get_or-take task_places (drop (task_places * c) rows) i 0 inside)
      ∙ ap (λ (l : List ℕ). get_or l i 0) part_row ∙ padded_in (row_at counts rows c) i h

  -- the first place of a row that is not empty is its first task
  pub first_place : (u : ℕ) (us : List ℕ) → row_at counts rows c ≡ u ∷ us → get_or rows (c * task_places) 0 ≡ u
  first_place u us e =
      let start : c * task_places + 0 ≡ c * task_places = omega arith in
      let some : length (row_at counts rows c) ≡ suc (length us) = ap length e in
      ap (λ (i : ℕ). get_or rows i 0) (sym start) ∙ place_at 0 (omega arith) ∙ ap (λ (l : List ℕ). get_or l 0 0) e

-- what is written is held
pub holds_written : (rs : List (List ℕ)) → Fitting rs → HoldsRows (row_counts rs) (flat_of rs)
holds_written rs f =
    let back : rows_of (row_counts rs) (flat_of rs) ≡ rs = read_written rs f in
    record {
      fits = subst (λ (l : List (List ℕ)). Fitting l) (sym back) f;
      counted = ap row_counts (sym back);
      written = ap flat_of (sym back);
    }

-- as the code counts: the start is c * 512, and the part ends 512 places on
pub as_counted : (c : ℕ) (P : ℕ → ℕ → Type 0) → P (task_places * c) task_places → P (c * 512) (c * 512 + 512 - c * 512)
as_counted c P p =
    let start : task_places * c ≡ c * 512 = omega arith in
    let size : task_places ≡ c * 512 + 512 - c * 512 = omega arith in
    subst₂ P start size p

-- ---- the part as the code lends it

abbrev pub lent_part : List ℕ → ℕ → List ℕ
lent_part rows c = take (c * 512 + 512 - c * 512) (drop (c * 512) rows)

-- the tasks alone in it
abbrev pub lent_tasks : List ℕ → ℕ → ℕ → List ℕ
lent_tasks rows c count = take (c * 512 + count - c * 512) (drop (c * 512) rows)

-- the flat table with another part in its place
abbrev pub with_part : List ℕ → ℕ → List ℕ → List ℕ
with_part rows c part = take (c * 512) rows ++ (part ++ drop (c * 512 + 512 - c * 512) (drop (c * 512) rows))

module _ {counts rows : List ℕ} (held : HoldsRows counts rows) (c : ℕ) (hc : c < length counts) where
  pub lent_held : HoldsRow (get_or counts c 0) (lent_part rows c)
  lent_held = as_counted c (λ (s k : ℕ). HoldsRow (get_or counts c 0) (take k (drop s rows))) (part_held counts rows held c hc)

  pub lent_row : take (get_or counts c 0) (lent_part rows c) ≡ row_at counts rows c
  lent_row = as_counted c (λ (s k : ℕ). take (get_or counts c 0) (take k (drop s rows)) ≡ row_at counts rows c) (part_taken counts rows held c hc)

  pub tasks_row : lent_tasks rows c (get_or counts c 0) ≡ row_at counts rows c
  tasks_row =
      let start : c * 512 ≡ task_places * c = omega arith in
      let size : c * 512 + get_or counts c 0 - c * 512 ≡ get_or counts c 0 = omega arith in
      ap₂ (λ (s n : ℕ). take n (drop s rows)) start size
      ∙ sym (take-take (get_or counts c 0) task_places (drop (task_places * c) rows) lent_held.most) ∙ part_taken counts rows held c hc

  pub lent_become : (q : List ℕ) {part : List ℕ} → part ≡ padded q → with_part rows c part ≡ flat_of (rows_with counts rows c q)
  lent_become q e =
      ap (with_part rows c) e
      ∙ as_counted c (λ (s k : ℕ). take s rows ++ (padded q ++ drop k (drop s rows)) ≡ flat_of (rows_with counts rows c q)) (rows_become counts rows held c hc q)
