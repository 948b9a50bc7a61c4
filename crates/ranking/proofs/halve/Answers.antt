-- `ranking::halve` meets its contract. Assumes nothing.
use native.Mathlib.Omega.{arith}
use Rattle.ranking.proofs.Below.{not_ended, lower_later}
use Rattle.ranking.proofs.halve.Goals as goal

pub ends_at-requires : goal.ends_at-requires
ends_at-requires c = record { ordered = c.requires.ordered; at_in_row = omega (arith, c.requires.lower_from.most, c.requires.lt_size) }

pub returns-then-ends_at : goal.returns-then-ends_at
returns-then-ends_at c =
    let w = c.requires.lower_from in
    lower_later w _ (omega arith) (omega (arith, w.most))

pub returns : goal.returns
returns c =
    let w = c.requires.lower_from in
    not_ended c.requires.ordered c.ends_at.ensures c.if-ends_at.false _ (omega arith) (omega (arith, w.most))
