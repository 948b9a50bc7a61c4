-- `ranking::far_position` meets its contract. The loop's invariant: the task does not stand earlier. Assumes nothing.
use Prim.Native.Nat.{◌<◌}
use native.Mathlib.Omega.{arith}
use lib.ListN.{length}
use Rattle.rules.specs.Lists.{place}
use Rattle.laws.proofs.Order.{place_lt}
use Rattle.ranking.proofs.Held.{stands_here, stands_later}
use Rattle.ranking.proofs.far_position.Goals.{In-loop-at, Start}
use Rattle.ranking.proofs.far_position.Goals as goal

-- the place is within the row
within : (c : Start) → place c.args.task c.args.row.now < length c.args.row.now
within c =
    let a = c.args in
    place_lt a.task a.row.now c.requires.stands

-- the task is not at this place, so it stands later
later : (c : In-loop-at) → let k = c in k.loop-at.at < place k.args.task k.args.row.now
later c =
    let k = c in
    let a = k.args in
    stands_later a.row.now a.task k.requires.stands k.loop-at.at k.loop-at.invariant k.loop-at-test.true

pub first_block-at-requires : goal.first_block-at-requires
first_block-at-requires c = record {
  row_len = c.requires.row_len;
  stands = c.requires.stands;
}

pub loop-at-init : goal.loop-at-init
loop-at-init c = c.first_block-at.ensures

pub loop-at-smaller : goal.loop-at-smaller
loop-at-smaller c = omega (arith, later c)

pub loop-at-preserved : goal.loop-at-preserved
loop-at-preserved c = omega (arith, later c)

pub returns : goal.returns
returns c =
    let a = c.args in
    stands_here a.row.now a.task c.requires.stands c.loop-at.at c.loop-at.invariant c.loop-at-test.false

pub offset_bounds-row-at : goal.offset_bounds-row-at
offset_bounds-row-at c = omega (arith, within (goal.at.offset_bounds-row-at c).Start, c.loop-at.invariant)

pub bounds-row-at : goal.bounds-row-at
bounds-row-at c = omega (arith, within (goal.at.bounds-row-at c).Start, c.loop-at.invariant)

pub overflow_add-at : goal.overflow_add-at
overflow_add-at c = omega (arith, within (goal.at.overflow_add-at c).Start, c.loop-at.invariant)
