-- `rowcheck::row::unused` meets its contract. The loop's invariant: the test says whether the places passed hold nothing.
-- Assumes nothing.
use mathlib.Core.Path.{◌≡◌, sym, ap, ◌∙◌}
use mathlib.Core.List.{List}
use Prim.Native.Nat.{ℕ, ◌+◌, ◌-◌, ◌≤◌, ◌<◌}
use native.Mathlib.Omega.{arith}
use lib.ListN.{length, get_or, take, drop, length-drop}
use lib.Seq.{get_or-take, get_or-drop, length-take-le}
use Rattle.rowcheck.proofs.Saying.{as_well}
use Rattle.rowcheck.proofs.row.unused.Goals as goal

module _ (row : List ℕ) (count : ℕ) (size : length row ≡ 512) (few : count ≤ 512) where
  -- the places that the loop goes over
  abbrev rest : List ℕ
  rest = take (512 - count) (drop count row)

  rest_size : length rest ≡ 512 - count
  rest_size = length-take-le (512 - count) (drop count row) (omega (arith, length-drop count row))

  same : (k : ℕ) → k < 512 - count → get_or rest k 0 ≡ get_or row (count + k) 0
  same k h = get_or-take (512 - count) (drop count row) k 0 h ∙ get_or-drop count row k 0

  same_from : (i : ℕ) → count ≤ i → i < 512 → get_or rest (i - count) 0 ≡ get_or row i 0
  same_from i low high = let back : count + (i - count) ≡ i = omega arith in same (i - count) (omega arith) ∙ ap (λ (j : ℕ). get_or row j 0) back

pub returns : goal.returns
returns c =
    let row = c.args.row.now in
    let count = c.args.count in
    let l = c.loop-place in
    let size = c.requires.row_len in
    let few = c.requires.count_le_task_places in
    let all : l.place-index ≡ 512 - count = omega (arith, rest_size row count size few) in
    as_well l.all (λ p i low high. sym (same_from row count size few i low high) ∙ p (i - count) (omega arith))
    (λ u k h. same row count size few k (omega arith) ∙ u (count + k) (omega arith) (omega arith)) l.invariant
