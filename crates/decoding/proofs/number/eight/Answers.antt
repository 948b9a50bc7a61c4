-- `decoding::number::eight` meets its contract.
-- Assumes nothing.
use mathlib.Core.Path.{sym, ◌∙◌}
use Prim.Native.Nat.{◌+◌, ◌*◌}
use Rattle.decoding.proofs.Numbers.{number_eight}
use Rattle.decoding.proofs.number.eight.Goals as goal

pub returns : goal.returns
returns c =
    (λ i. c.four.ensures.0 i + 4294967296 * c.four-2.ensures.0 i) ∙ sym (number_eight c.args.at c.args.bytes.now c.requires)
