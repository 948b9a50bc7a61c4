-- `runqueue::row::reorder` meets its contract. Assumes nothing.
use mathlib.Core.Path.{◌≡◌, sym, ◌∙◌}
use mathlib.Core.Bool.{Bool}
use Prim.Native.Nat.{ℕ, ◌+◌, ◌≤◌, ◌<◌}
use native.Mathlib.Omega.{arith}
use lib.Dec.{ltb}
use lib.ListN.{length, get_or, take, length-set}
use lib.Seq.{length-take-le}
use Rattle.rules.specs.Lists.{place, delete}
use Rattle.rules.specs.Machine.{task_places}
use Rattle.ranking.specs.Row.{ahead}
use Rattle.ranking.proofs.Held.{row_size, place_below, in_row, row_place}
use Rattle.runqueue.proofs.Reordered.{ordered_before, ordered_behind, ahead_early, ahead_late, ahead_most, raised_is, lowered_is}
use Rattle.runqueue.proofs.row.reorder.Goals.{After-position-at, After-rank-behind, Start}
use Rattle.runqueue.proofs.row.reorder.Goals as goal

-- ---- what is known of its place

module _ (c : Start) where
  size : length c.args.row.now ≡ task_places
  size = row_size c.args.count c.args.row.now c.requires.holds_row

  most : c.args.count ≤ task_places
  most = c.requires.holds_row.most

  -- who is below the key
  abbrev below : ℕ → Bool
  below u = ltb (get_or c.args.prio.now u 0) c.args.key

-- the place that was found is its place among the tasks
place_is : (c : After-position-at) → let k = c in k.position-at.result ≡ place k.args.task (take k.args.count k.args.row.now)
place_is c =
    let k = c in
    k.position-at.ensures ∙ row_place k.args.count k.args.row.now k.requires.holds_row k.args.task k.requires.reorderable.stands

stands : (c : After-position-at) → let k = c in k.position-at.result < k.args.count
stands c =
    let k = c in
    omega (arith, place_is c, place_below k.args.count k.args.row.now k.requires.holds_row k.args.task k.requires.reorderable.stands)

-- how many of those behind it stay ahead
module _ (c : After-rank-behind) where
  goes : let k = c in k.position-at.result + k.rank-behind.result ≡ ahead (below (goal.at.After-rank-behind k).Start) (delete k.args.task (take k.args.count k.args.row.now))
  goes =
      let k = c in
      ahead_late k.requires.holds_row k.requires.prio_len k.requires.reorderable (below (goal.at.After-rank-behind k).Start) _ _ _ (place_is (goal.at.After-rank-behind k).After-position-at) k.rank-to.ensures k.if-to-at.false k.rank-behind.ensures

  within : let k = c in k.position-at.result + k.rank-behind.result < k.args.count
  within = let k = c in omega (arith, goes, ahead_most k.requires.holds_row k.requires.prio_len k.requires.reorderable (below (goal.at.After-rank-behind k).Start))

-- ---- forward
pub position-at-requires : goal.position-at-requires
position-at-requires c = record {
  row_len = row_size _ _ c.requires.holds_row;
  stands = in_row _ _ c.requires.holds_row _ c.requires.reorderable.stands;
}

pub rank-to-requires : goal.rank-to-requires
rank-to-requires c = ordered_before c.requires.holds_row c.requires.prio_len c.requires.reorderable _ (place_is (goal.at.rank-to-requires c).After-position-at)

pub shift_up-requires : goal.shift_up-requires
shift_up-requires c =
    record {
      at_le_count = omega (arith, c.if-to-at.true);
      count_in_bounds = omega (arith, stands (goal.at.shift_up-requires c).After-position-at, size (goal.at.shift_up-requires c).Start, most (goal.at.shift_up-requires c).Start);
    }

pub shape_of-row-then-to-at : goal.shape_of-row-then-to-at
shape_of-row-then-to-at c = length-set c.shift_up.new.row _ _ ∙ c.shift_up.ensures.size

pub returns-then-to-at : goal.returns-then-to-at
returns-then-to-at c =
    let less = c.if-to-at.true in
    let p = place_is (goal.at.returns-then-to-at c).After-position-at in
    raised_is c.requires.holds_row c.requires.prio_len c.requires.reorderable (below (goal.at.returns-then-to-at c).Start) _ _ c.shift_up.new.row p
    (ahead_early c.requires.holds_row c.requires.prio_len c.requires.reorderable (below (goal.at.returns-then-to-at c).Start) _ _ p c.rank-to.ensures less) less c.shift_up.ensures

pub rank-behind-requires : goal.rank-behind-requires
rank-behind-requires c = ordered_behind c.requires.holds_row c.requires.prio_len c.requires.reorderable _ (place_is (goal.at.rank-behind-requires c).After-position-at)

pub shift_down-requires : goal.shift_down-requires
shift_down-requires c = record {
  at_lt_count = omega arith;
  count_in_bounds = omega (arith, within (goal.at.shift_down-requires c).After-rank-behind, size (goal.at.shift_down-requires c).Start, most (goal.at.shift_down-requires c).Start);
}

pub shape_of-row : goal.shape_of-row
shape_of-row c = length-set c.shift_down.new.row _ _ ∙ c.shift_down.ensures.size

pub returns : goal.returns
returns c =
    lowered_is c.requires.holds_row c.requires.prio_len c.requires.reorderable (below (goal.at.returns c).Start) _ _ c.shift_down.new.row (place_is (goal.at.returns c).After-position-at) (goes (goal.at.returns c).After-rank-behind) c.shift_down.ensures

pub offset_bounds-row-to : goal.offset_bounds-row-to
offset_bounds-row-to c = omega (arith, c.if-to-at.true, stands (goal.at.offset_bounds-row-to c).After-position-at, most (goal.at.offset_bounds-row-to c).Start)

pub bounds-row-to : goal.bounds-row-to
bounds-row-to c =
    omega (arith, c.if-to-at.true, stands (goal.at.bounds-row-to c).After-position-at, most (goal.at.bounds-row-to c).Start, c.shift_up.ensures.size, size (goal.at.bounds-row-to c).Start)

pub overflow_add-next : goal.overflow_add-next
overflow_add-next c = omega (arith, stands (goal.at.overflow_add-next c).After-position-at, most (goal.at.overflow_add-next c).Start)

pub offset_bounds-row-next : goal.offset_bounds-row-next
offset_bounds-row-next c = omega (arith, stands (goal.at.offset_bounds-row-next c).After-position-at, most (goal.at.offset_bounds-row-next c).Start)

pub slice_bounds-rank-count : goal.slice_bounds-rank-count
slice_bounds-rank-count c = omega (arith, stands (goal.at.slice_bounds-rank-count c).After-position-at, most (goal.at.slice_bounds-rank-count c).Start)

pub slice_bounds-rank-start : goal.slice_bounds-rank-start
slice_bounds-rank-start c = omega (arith, stands (goal.at.slice_bounds-rank-start c).After-position-at, most (goal.at.slice_bounds-rank-start c).Start)

pub slice_bounds-rank-end : goal.slice_bounds-rank-end
slice_bounds-rank-end c =
    omega (arith, stands (goal.at.slice_bounds-rank-end c).After-position-at, size (goal.at.slice_bounds-rank-end c).Start, most (goal.at.slice_bounds-rank-end c).Start)

pub slice_bounds-rank-end-2 : goal.slice_bounds-rank-end-2
slice_bounds-rank-end-2 c =
    sym
    (length-take-le c.position-at.result c.args.row.now
    (omega (arith, stands (goal.at.slice_bounds-rank-end-2 c).After-position-at, size (goal.at.slice_bounds-rank-end-2 c).Start, most (goal.at.slice_bounds-rank-end-2 c).Start)))

pub overflow_add-next-2 : goal.overflow_add-next-2
overflow_add-next-2 c = omega (arith, within (goal.at.overflow_add-next-2 c).After-rank-behind, most (goal.at.overflow_add-next-2 c).Start)

pub overflow_add-row : goal.overflow_add-row
overflow_add-row c = omega (arith, within (goal.at.overflow_add-row c).After-rank-behind, most (goal.at.overflow_add-row c).Start)

pub offset_bounds-row-at : goal.offset_bounds-row-at
offset_bounds-row-at c = omega (arith, within (goal.at.offset_bounds-row-at c).After-rank-behind, most (goal.at.offset_bounds-row-at c).Start)

pub bounds-row-at : goal.bounds-row-at
bounds-row-at c =
    omega (arith, within (goal.at.bounds-row-at c).After-rank-behind, most (goal.at.bounds-row-at c).Start, c.shift_down.ensures.size, size (goal.at.bounds-row-at c).Start)
