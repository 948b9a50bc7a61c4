-- `decoding::number::one` meets its contract.
-- Assumes nothing.
use mathlib.Core.Path.{sym, ◌∙◌}
use Rattle.decoding.proofs.Numbers.{number_one}
use Rattle.decoding.proofs.number.one.Goals as goal

pub returns : goal.returns
returns c =
    (c.widened.ensures.0 ∙ sym (number_one c.args.at c.args.bytes.now c.requires), c.widened.ensures.1)
