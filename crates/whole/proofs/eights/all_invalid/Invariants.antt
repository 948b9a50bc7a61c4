-- `whole::eights::all_invalid` meets its contract. The loop's invariant: the word has the differences to INVALID of the places passed, and of the
-- last eight.
-- Assumes nothing.
use Rattle.whole.specs.Whole.{invalid_from}
use Rattle.whole.proofs.Blocks.{Looked}
use Rattle.whole.proofs.eights.all_invalid.Given as goal

abbrev pub invariant-loop-i : goal.invariant-loop-i
invariant-loop-i l = Looked l.s (invalid_from l.start l.s) l.start l.last l.word l.i
