-- `cpupri::find::lowest_level` meets its contract.
-- Assumes nothing.
use native.Mathlib.Omega.{arith}
use Rattle.cpupri.proofs.Search.{passed_low, passed_high, lowest_low, lowest_out, lowest_high}
use Rattle.cpupri.proofs.find.lowest_level.Goals as goal

pub lowest_in-requires : goal.lowest_in-requires
lowest_in-requires c =
    let x = c.args in record {
      base_bound = (omega arith, c.requires.below_le_level_count);
      passed = passed_low x.masks.now x.words.now x.mask c.requires.marked;
      masks_len = c.requires.masks_len.0;
    }

pub returns-in-Some : goal.returns-in-Some
returns-in-Some c =
    let x = c.args in
    lowest_low x.masks.now x.mask x.below c.in-Some.level c.in-Some.ensures

pub returns-then-below-le-BITS : goal.returns-then-below-le-BITS
returns-then-below-le-BITS c =
    let x = c.args in
    lowest_out x.masks.now x.mask x.below c.in_default.ensures c.if-below-le-BITS.true

pub lowest_in-requires-2 : goal.lowest_in-requires-2
lowest_in-requires-2 c =
    let x = c.args in record {
      base_bound = (omega arith, c.requires.below_le_level_count);
      passed = passed_high x.masks.now x.words.now x.mask c.requires.marked;
      masks_len = c.requires.masks_len.0;
    }

pub returns : goal.returns
returns c =
    let x = c.args in
    lowest_high x.masks.now x.mask x.below c.in_default.ensures c.requires.below_le_level_count c.lowest_in-2.result c.lowest_in-2.ensures
