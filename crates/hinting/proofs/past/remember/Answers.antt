-- `hinting::past::remember` meets its contract.
-- Assumes nothing.
use mathlib.Core.Path.{◌∙◌}
use Rattle.hinting.proofs.Lent.{able_task, able_gone, decided_past}
use Rattle.hinting.proofs.past.remember.Goals as goal

pub standing-requires : goal.standing-requires
standing-requires c =
    record {
      task_lt_task_places = able_task c.requires.0 c.args.decision c.requires.1.1 c.in-Place.is;
      reading = (c.requires.0, c.requires.1.0);
    }

pub runner-requires : goal.runner-requires
runner-requires c =
    (c.requires.0, (c.requires.1.0, able_gone c.requires.0 c.args.decision c.requires.1.1 c.in-Offline.is))

pub returns-in-Place : goal.returns-in-Place
returns-in-Place c = λ m r. c.standing.ensures m r ∙ decided_past m c.args.decision _ c.in-Place.is

pub returns-in-Flag : goal.returns-in-Flag
returns-in-Flag c = λ m r. decided_past m c.args.decision _ c.in-Flag.is

pub returns-in-Nothing : goal.returns-in-Nothing
returns-in-Nothing c = λ m r. decided_past m c.args.decision _ c.in-Nothing.is

pub returns-in-Offline : goal.returns-in-Offline
returns-in-Offline c = λ m r. c.runner.ensures m r ∙ decided_past m c.args.decision _ c.in-Offline.is

pub returns-in-Online : goal.returns-in-Online
returns-in-Online c = λ m r. decided_past m c.args.decision _ c.in-Online.is
