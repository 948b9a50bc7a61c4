-- `hinting::past::since` meets its contract.
-- Assumes nothing.
use mathlib.Core.Path.{sym, ap, subst}
use Rattle.hinting.specs.Past.{Standing, candidates_since}
use Rattle.hinting.specs.declared.past.Past.{Past}
use Rattle.hinting.proofs.Lent.{since_is, unlevelled}
use Rattle.hinting.proofs.past.since.Goals as goal

pub new_task-requires : goal.new_task-requires
new_task-requires c =
    let p = c.requires.1 in record {
      task_lt_task_places = (subst (Standing c.requires.0) c.in-Task.is p.2).0;
      reading = (c.requires.0, (unlevelled p.0, p.1));
    }

pub returns-in-Task : goal.returns-in-Task
returns-in-Task c =
    λ m r is s.
    let g = c.in-Task in
    since_is r g.task g.at g.level g.ran c.args.past g.is (subst (Standing m) g.is s).1 c.then_some.ensures (c.new_task.ensures m (unlevelled r) is)

pub returns-in-Untouched : goal.returns-in-Untouched
returns-in-Untouched c = λ m r is s. ap (λ (p : Past). candidates_since p m) (sym c.in-Untouched.is)

pub returns-in-Back : goal.returns-in-Back
returns-in-Back c = λ m r is s. ap (λ (p : Past). candidates_since p m) (sym c.in-Back.is)
