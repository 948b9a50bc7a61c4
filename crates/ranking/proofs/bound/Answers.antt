-- `ranking::bound` meets its contract. Assumes nothing.
use native.Mathlib.Omega.{arith}
use Rattle.ranking.proofs.Below.{ordered_first, not_ended, lower_end, lower_both}
use Rattle.ranking.proofs.bound.Goals as goal

pub returns-then-count-le-NEAR : goal.returns-then-count-le-NEAR
returns-then-count-le-NEAR c = lower_end

pub ends_at-requires : goal.ends_at-requires
ends_at-requires c = record { ordered = c.requires; at_in_row = omega arith }

pub returns-then-ends_at : goal.returns-then-ends_at
returns-then-ends_at c = lower_end

pub search-requires : goal.search-requires
search-requires c = ordered_first c.requires _ (omega arith)

pub returns : goal.returns
returns c =
    lower_both c.search.ensures (not_ended c.requires c.ends_at.ensures c.if-ends_at.false _ (omega arith) (omega arith))
