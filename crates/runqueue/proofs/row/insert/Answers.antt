-- `runqueue::row::insert` meets its contract. Assumes nothing.
use mathlib.Core.Path.{◌≡◌, ap, ◌∙◌, subst}
use Prim.Native.Nat.{ℕ, ◌≤◌}
use mathlib.Core.Bool.{Bool}
use native.Mathlib.Omega.{arith}
use lib.Dec.{ltb}
use lib.ListN.{length, get_or, set, take, length-set}
use Rattle.ranking.specs.Row.{ahead}
use Rattle.runqueue.specs.Row.{Opened}
use Rattle.ranking.proofs.Below.{ordered_row}
use Rattle.ranking.proofs.Held.{row_size}
use Rattle.runqueue.proofs.Queued.{at_most, opened_is}
use Rattle.runqueue.proofs.row.insert.Goals.{After-rank-at}
use Rattle.runqueue.proofs.row.insert.Goals as goal

-- the place that the task takes is at most the count
rank_most : (c : After-rank-at) → let k = c in k.rank-at.result ≤ k.args.count
rank_most c =
    let k = c in
    let a = k.args in
    let test : ℕ → Bool = λ u. ltb (get_or a.prio.now u 0) a.key in
    omega (arith, k.rank-at.ensures, at_most a.count a.row.now k.requires.holds_row test a.task k.requires.count_lt_task_places)

pub rank-at-requires : goal.rank-at-requires
rank-at-requires c =
    let a = c.args in
    let fits : a.count ≤ length a.row.now = omega (arith, row_size a.count a.row.now c.requires.holds_row, c.requires.holds_row.most) in
    ordered_row a.prio.now a.row.now a.count fits c.requires.prio_len c.requires.task_numbers c.requires.falling

pub shift_up-requires : goal.shift_up-requires
shift_up-requires c =
    let a = c.args in record {
      at_le_count = rank_most (goal.at.shift_up-requires c).After-rank-at;
      count_in_bounds = omega (arith, row_size a.count a.row.now c.requires.holds_row, c.requires.count_lt_task_places);
    }

pub shape_of-row : goal.shape_of-row
shape_of-row c = length-set c.shift_up.new.row _ _ ∙ c.shift_up.ensures.size

pub returns : goal.returns
returns c =
    let a = c.args in
    let ys = c.shift_up.new.row in
    let test : ℕ → Bool = λ u. ltb (get_or a.prio.now u 0) a.key in
    let rank : c.rank-at.result ≡ ahead test (take a.count a.row.now) = c.rank-at.ensures in
    ap (λ (k : ℕ). set ys k a.task) rank
    ∙ opened_is a.count a.row.now c.requires.holds_row test a.task c.requires.count_lt_task_places ys
    (subst (λ (k : ℕ). Opened k a.count a.row.now ys) rank c.shift_up.ensures)

pub offset_bounds-row-at : goal.offset_bounds-row-at
offset_bounds-row-at c = omega (arith, rank_most (goal.at.offset_bounds-row-at c).After-rank-at, c.requires.count_lt_task_places)

pub bounds-row-at : goal.bounds-row-at
bounds-row-at c =
    let a = c.args in
    omega (arith, rank_most (goal.at.bounds-row-at c).After-rank-at, c.requires.count_lt_task_places, c.shift_up.ensures.size, row_size a.count a.row.now c.requires.holds_row)
