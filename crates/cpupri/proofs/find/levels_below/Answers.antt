-- `cpupri::find::levels_below` meets its contract.
-- Assumes nothing.
use mathlib.Core.Path.{ap, ◌∙◌}
use Prim.Native.Nat.{ℕ, ◌-◌}
use native.Mathlib.Omega.{arith}
use Rattle.bits.specs.Bit.{bit}
use Rattle.bits.proofs.Search.{bit_mod_below, bit_mod_above}
use Rattle.bits.proofs.Word.{bit_of_zero}
use Rattle.cpupri.proofs.find.levels_below.Goals as goal

pub returns-then-below-base : goal.returns-then-below-base
returns-then-below-base c = record {
  kept = (λ i h l. absurd (let no : ⊥ = omega (arith, c.if-below-base.true, l) in no));
  cut = (λ i h l. bit_of_zero i);
}

pub returns : goal.returns
returns c =
    let x = c.args in
    let levels = x.below - x.base in record {
      kept = (λ i h l. ap (λ (m : ℕ). bit m i) c.low_bits.ensures ∙ bit_mod_below levels x.word i (omega (arith, c.if-below-base.false, l)));
      cut = (λ i h l. ap (λ (m : ℕ). bit m i) c.low_bits.ensures ∙ bit_mod_above levels x.word i (omega (arith, c.if-below-base.false, l)));
    }
