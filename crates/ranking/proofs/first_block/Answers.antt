-- `ranking::first_block` meets its contract. The loop's invariant: the task does not stand before the block. Assumes nothing.
use mathlib.Core.Path.{◌≡◌, sym}
use Prim.Native.Nat.{◌+◌, ◌*◌, ◌≤◌, ◌<◌}
use native.Mathlib.Omega.{arith}
use lib.Dec.{eqb}
use lib.ListN.{length, get_or}
use mathlib.Core.Bool.{false}
use Rattle.std.proofs.Common.{rules}
use borrow.Author.Tests.{eqb-false}
use Rattle.rules.specs.Lists.{place}
use Rattle.laws.proofs.Order.{place_lt}
use Rattle.ranking.proofs.Held.{stands_behind}
use Rattle.ranking.proofs.first_block.Goals.{In-loop-task, Start}
use Rattle.ranking.proofs.first_block.Goals as goal

-- the task stands among the places of the row
module _ (c : Start) where
  within : place c.args.task c.args.row.now < 512
  within = omega (arith, c.requires.row_len, place_lt c.args.task c.args.row.now c.requires.stands)

  size : length c.args.row.now ≡ 512
  size = c.requires.row_len

-- the task does not stand in the block
passed : (c : In-loop-task) → let k = c in k.loop-task.block * 16 + 16 ≤ place k.args.task k.args.row.now
passed c =
    let k = c in
    let a = k.args in
    stands_behind a.row.now a.task k.requires.stands (k.loop-task.block * 16) k.loop-task.invariant
    (λ i h.
    let said = k.any_in_block.ensures.none k.loop-task-test.true i h in
    let other : false ≡ eqb (get_or a.row.now (k.loop-task.block * 16 + i) 0) a.task = search rules in
    eqb-false _ _ (sym other))

pub any_in_block-requires-clause-block_in_bounds : goal.any_in_block-requires-clause-block_in_bounds
any_in_block-requires-clause-block_in_bounds c = omega (arith, within (goal.at.any_in_block-requires-clause-block_in_bounds c).Start, size (goal.at.any_in_block-requires-clause-block_in_bounds c).Start)

pub loop-task-smaller : goal.loop-task-smaller
loop-task-smaller c = omega (arith, passed c)

pub loop-task-preserved : goal.loop-task-preserved
loop-task-preserved c = omega (arith, passed c)

pub returns : goal.returns
returns c = c.loop-task.invariant

pub overflow_mul-block : goal.overflow_mul-block
overflow_mul-block c = omega (arith, within (goal.at.overflow_mul-block c).Start)

pub overflow_add-block : goal.overflow_add-block
overflow_add-block c = omega (arith, within (goal.at.overflow_add-block c).Start)

pub overflow_mul-result : goal.overflow_mul-result
overflow_mul-result c = omega (arith, within (goal.at.overflow_mul-result c).Start)
