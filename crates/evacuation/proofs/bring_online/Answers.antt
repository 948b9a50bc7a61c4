-- `evacuation::bring_online` meets its contract.
-- Assumes nothing.
use Rattle.rules.specs.Machine.{with_cpu}
use Rattle.evacuation.proofs.Leaves.{small_back, whole_back, back_follows, levels_back}
use Rattle.evacuation.proofs.bring_online.Goals as goal

pub set_bit-requires : goal.set_bit-requires
set_bit-requires c = small_back c.requires.1

pub follow-requires : goal.follow-requires
follow-requires c =
    let l = c.requires.1 in record {
      following = (with_cpu c.args.cpu c.requires.0, back_follows l);
      whole = whole_back l;
    }

pub returns : goal.returns
returns c =
    record {
      online_set = c.set_bit.ensures;
      record_follows = λ m l. levels_back l (c.follow.ensures (with_cpu c.args.cpu m) (back_follows l));
    }
