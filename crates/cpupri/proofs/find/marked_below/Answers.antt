-- `cpupri::find::marked_below` meets its contract.
-- Assumes nothing.
use mathlib.Core.Path.{ap, ap₂, ◌∙◌}
use Prim.Native.Nat.{ℕ, ◌+◌, ◌≤◌}
use native.Mathlib.Omega.{arith}
use lib.ListN.{get_or}
use Rattle.bits.specs.Bit.{bit, weight}
use Rattle.bits.proofs.Search.{count_le}
use Rattle.cpupri.proofs.Search.{count_low, count_high}
use Rattle.cpupri.proofs.find.marked_below.Goals as goal

-- at most 64 bits of a word are set
weight_le : (m : ℕ) → weight 64 m ≤ 64
unfolding weight
weight_le m = count_le (bit m) 64

pub returns-then-end-le-BITS : goal.returns-then-end-le-BITS
returns-then-end-le-BITS c =
    c.count_bits.ensures ∙ ap (weight 64) c.low_bits.ensures ∙ count_low c.args.words.now c.args.end c.if-end-le-BITS.true

pub returns : goal.returns
returns c =
    ap₂ ◌+◌ c.count_bits-2.ensures (c.count_bits-3.ensures ∙ ap (weight 64) c.low_bits-2.ensures)
    ∙ count_high c.args.words.now c.args.end (omega (arith, c.if-end-le-BITS.false)) c.requires.end_le_level_count

pub overflow_add-result : goal.overflow_add-result
overflow_add-result c =
    omega (arith, c.count_bits-2.ensures, c.count_bits-3.ensures, weight_le (get_or c.args.words.now 0 0), weight_le c.low_bits-2.result)
