-- `whole::eights::same_u8` meets its contract. The loop's invariant: the word has the differences of the places passed, and of the last eight.
-- Assumes nothing.
use Rattle.whole.proofs.Blocks.{Looked}
use Rattle.whole.proofs.eights.same_u8.Given as goal

abbrev pub invariant-loop-i : goal.invariant-loop-i
invariant-loop-i l = Looked l.a l.b 0 l.last l.word l.i
