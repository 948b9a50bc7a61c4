-- `decoding::number::two` meets its contract.
-- Assumes nothing.
use mathlib.Core.Path.{sym, ◌∙◌}
use Prim.Native.Nat.{◌+◌, ◌*◌}
use native.Mathlib.Omega.{arith}
use Rattle.decoding.proofs.Numbers.{number_two}
use Rattle.decoding.proofs.number.two.Goals as goal

pub returns : goal.returns
returns c =
    ((λ i. c.one.ensures.0 i + 256 * c.one-2.ensures.0 i) ∙ sym (number_two c.args.at c.args.bytes.now c.requires), omega (arith, c.one.ensures.1, c.one-2.ensures.1))
