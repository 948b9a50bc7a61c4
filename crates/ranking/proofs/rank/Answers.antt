-- `ranking::rank` meets its contract. The loop's invariant: the tasks from `at` on are below the key. Assumes nothing.
use native.Mathlib.Omega.{arith}
use Rattle.ranking.specs.Row.{Ordered}
use Rattle.ranking.proofs.Below.{ordered_first, not_ended, rank_is, lower_end, lower_both}
use Rattle.ranking.proofs.rank.Goals.{Start}
use Rattle.ranking.proofs.rank.Goals as goal

ordered : (c : Start) → Ordered c.args.prio.now c.args.row.now
ordered c = c.requires

pub ends_at-requires : goal.ends_at-requires
ends_at-requires c = record { ordered = c.requires; at_in_row = omega arith }

pub returns-then-ends_at : goal.returns-then-ends_at
returns-then-ends_at c = rank_is (ordered (goal.at.returns-then-ends_at c).Start) c.ends_at.ensures c.if-ends_at.true lower_end

pub bound-at-requires : goal.bound-at-requires
bound-at-requires c = ordered_first (ordered (goal.at.bound-at-requires c).Start) _ (omega arith)

pub loop-at-init : goal.loop-at-init
loop-at-init c =
    lower_both c.bound-at.ensures (not_ended (ordered (goal.at.loop-at-init c).Start) c.ends_at.ensures c.if-ends_at.false _ (omega arith) (omega arith))

pub ends_at-requires-in-loop-at : goal.ends_at-requires-in-loop-at
ends_at-requires-in-loop-at c = record { ordered = c.requires; at_in_row = c.loop-at.invariant.most }

pub loop-at-smaller : goal.loop-at-smaller
loop-at-smaller c = omega (arith, (c.ends_at-in-loop-at.ensures.no c.loop-at-test.true).0)

pub loop-at-preserved : goal.loop-at-preserved
loop-at-preserved c =
    not_ended (ordered (goal.at.loop-at-preserved c).Start) c.ends_at-in-loop-at.ensures c.loop-at-test.true _ (omega arith) (omega (arith, c.loop-at.invariant.most))

pub returns : goal.returns
returns c =
    rank_is (ordered (goal.at.returns c).Start) c.ends_at-in-loop-at.ensures c.loop-at-test.false c.loop-at.invariant
