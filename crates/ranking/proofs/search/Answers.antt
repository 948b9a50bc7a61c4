-- `ranking::search` meets its contract. The loop's invariant: those behind the part that is left are below the key. Assumes nothing.
use native.Mathlib.Omega.{arith}
use Rattle.ranking.proofs.Below.{lower_end, lower_later}
use Rattle.ranking.proofs.search.Goals as goal

pub loop-size-init : goal.loop-size-init
loop-size-init c = lower_later lower_end _ (omega arith) (omega arith)

pub halve-start-requires : goal.halve-start-requires
halve-start-requires c = record {
  ordered = c.requires;
  lower_from = c.loop-size.invariant;
  lt_size = omega arith;
}

pub loop-size-preserved : goal.loop-size-preserved
loop-size-preserved c = c.halve-start.ensures

pub returns : goal.returns
returns c = c.loop-size.invariant
