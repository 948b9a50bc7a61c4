-- `cpupri::find::lowest_found` meets its contract.
-- Assumes nothing.
use mathlib.Core.Path.{◌≡◌, sym, ap, ◌∙◌}
use mathlib.Core.List.{List}
use Prim.Native.Nat.{ℕ, ◌+◌, ◌≤◌, ◌<◌}
use native.Mathlib.Numerals.{add-one}
use native.Mathlib.Omega.{arith}
use Rattle.std.specs.Prelude.{None, Some}
use Rattle.bits.specs.Bit.{count}
use Rattle.levels.specs.Level.{level_count}
use Rattle.cpupri.specs.Found.{allowed_at, lowest_below, occupied_below, found_at, lowest_found, marked, Marked}
use Rattle.cpupri.specs.declared.find.Found.{Found}
use Rattle.cpupri.proofs.Found.{some_below, some_under, none_below, finds, finds_nothing}
use Rattle.cpupri.proofs.Search.{occupied_marked}
use Rattle.cpupri.proofs.find.lowest_found.Goals.{In-Some}
use Rattle.cpupri.proofs.find.lowest_found.Goals as goal

module _ (masks words : List ℕ) (m : Marked masks words) (below mask : ℕ) (most : below ≤ level_count) (read : ℕ) where
  no_level : lowest_below masks below mask ≡ None → read ≡ count (marked words) below → record { lowest = None; read = read } ≡ lowest_found masks below mask
  no_level e q =
      ap (λ (k : ℕ). let f : Found = record { lowest = None; read = k } in f) (q ∙ occupied_marked masks words m below most)
      ∙ sym (finds_nothing masks below mask (none_below masks below mask e))

  some_level : (l : ℕ) → lowest_below masks below mask ≡ Some l → read ≡ count (marked words) (l + 1)
      → record { lowest = Some (record { level = l; mask = allowed_at masks mask l }); read = read } ≡ lowest_found masks below mask
  some_level l e q =
      let is = some_below masks below mask e in
      let small = some_under masks below mask e in
      ap (λ (k : ℕ). let f : Found = record { lowest = Some (record { level = l; mask = allowed_at masks mask l }); read = k } in f)
      (q ∙ occupied_marked masks words m (l + 1) (omega arith) ∙ ap (occupied_below masks) (add-one l))
      ∙ ap (found_at masks mask) is.0
      ∙ sym (finds masks below mask is.1)

pub returns-in-None : goal.returns-in-None
returns-in-None c =
    let x = c.args in
    no_level x.masks.now x.words.now c.requires.marked x.below x.mask c.requires.below_le_level_count c.marked_below.result (sym c.lowest_level.ensures ∙ c.in-None.is)
    c.marked_below.ensures

-- a level that was found is below the asked one
below_asked : (c : In-Some) → let k = c in k.in-Some.level < k.args.below
below_asked c =
    let k = c in
    some_under k.args.masks.now k.args.below k.args.mask (sym k.lowest_level.ensures ∙ k.in-Some.is)

pub overflow_cast-lowest : goal.overflow_cast-lowest
overflow_cast-lowest c = let small = below_asked (goal.at.overflow_cast-lowest c).In-Some in omega (arith, small, c.requires.below_le_level_count)

pub bounds-masks-level : goal.bounds-masks-level
bounds-masks-level c = let small = below_asked (goal.at.bounds-masks-level c).In-Some in omega (arith, small, c.requires.below_le_level_count, c.requires.masks_len)

pub offset_bounds-masks-level : goal.offset_bounds-masks-level
offset_bounds-masks-level c = let small = below_asked (goal.at.offset_bounds-masks-level c).In-Some in omega (arith, small, c.requires.below_le_level_count)

pub overflow_add-level : goal.overflow_add-level
overflow_add-level c = let small = below_asked (goal.at.overflow_add-level c).In-Some in omega (arith, small, c.requires.below_le_level_count)

pub marked_below-requires-in-Some : goal.marked_below-requires-in-Some
marked_below-requires-in-Some c =
    let small = below_asked (goal.at.marked_below-requires-in-Some c).In-Some in
    record { end_le_level_count = omega (arith, small, c.requires.below_le_level_count); words_len = c.requires.masks_len.1 }

pub returns-in-Some : goal.returns-in-Some
unfolding allowed_at
returns-in-Some c =
    let x = c.args in
    some_level x.masks.now x.words.now c.requires.marked x.below x.mask c.requires.below_le_level_count c.marked_below-in-Some.result c.in-Some.level
    (sym c.lowest_level.ensures ∙ c.in-Some.is) c.marked_below-in-Some.ensures
