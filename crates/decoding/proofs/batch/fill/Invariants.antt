-- The loop of `decoding::batch::fill`: so many events are in the batch, and the rest is read from this place on.
-- Assumes nothing.
use Rattle.decoding.proofs.Filling.{Filling}
use Rattle.decoding.proofs.batch.fill.Given as goal

abbrev pub invariant-loop-count : goal.invariant-loop-count
invariant-loop-count l = Filling l.room l.from l.bytes l.events l.count l.place
