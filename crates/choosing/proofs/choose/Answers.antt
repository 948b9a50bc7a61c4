-- `choosing::choose` meets its contract.
-- Assumes nothing.
use Rattle.choosing.proofs.Steps.{words_mark}
use Rattle.choosing.proofs.choose.Goals as goal

pub step_of-requires-clause-marked : goal.step_of-requires-clause-marked
step_of-requires-clause-marked c = words_mark c.requires.1.0
