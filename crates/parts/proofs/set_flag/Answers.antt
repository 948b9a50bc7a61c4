-- `parts::set_flag` meets its contract.
-- Assumes nothing.
use mathlib.Core.Path.{refl, sym, ◌∙◌}
use mathlib.Core.Bool.{true, false}
use Rattle.rules.specs.Machine.{with_flag}
use Rattle.parts.proofs.Flags.{whole, small, following, levels_flagged, is_up}
use Rattle.parts.proofs.set_flag.Goals as goal

pub test_bit-requires : goal.test_bit-requires
test_bit-requires c = small c.requires.1

pub returns-then-not-test_bit : goal.returns-then-not-test_bit
returns-then-not-test_bit c =
    record {
      flags_set = refl;
      record_follows = λ m l. levels_flagged l false (sym c.if-not-test_bit.true ∙ c.test_bit.ensures) (whole l).same;
    }

pub follow-requires : goal.follow-requires
follow-requires c =
    let l = c.requires.1 in record {
      following = (with_flag c.args.cpu c.args.work c.requires.0, following l refl (is_up l (sym c.if-not-test_bit.false ∙ c.test_bit.ensures)));
      whole = whole l;
    }

pub returns : goal.returns
returns c =
    record {
      flags_set = refl;
      record_follows = λ m l.
          let up = sym c.if-not-test_bit.false ∙ c.test_bit.ensures in
          levels_flagged l true up (c.follow.ensures (with_flag c.args.cpu c.args.work m) (following l refl (is_up l up)));
    }
