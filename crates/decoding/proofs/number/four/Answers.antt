-- `decoding::number::four` meets its contract.
-- Assumes nothing.
use mathlib.Core.Path.{sym, ◌∙◌}
use Prim.Native.Nat.{◌+◌, ◌*◌}
use native.Mathlib.Omega.{arith}
use Rattle.decoding.proofs.Numbers.{number_four}
use Rattle.decoding.proofs.number.four.Goals as goal

pub returns : goal.returns
returns c =
    ((λ i. c.two.ensures.0 i + 65536 * c.two-2.ensures.0 i) ∙ sym (number_four c.args.at c.args.bytes.now c.requires), omega (arith, c.two.ensures.1, c.two-2.ensures.1))
