-- `hinting::past::runner` meets its contract.
-- Assumes nothing.
use mathlib.Core.Path.{◌∙◌, sym, subst}
use Prim.Native.Nat.{ℕ, ◌<◌}
use native.Mathlib.Omega.{arith}
use Rattle.hinting.proofs.Lent.{rows_long, same_cpus, none_runs, one_runs}
use Rattle.hinting.proofs.past.runner.Goals as goal

pub returns-in_default : goal.returns-in_default
returns-in_default c =
    λ m r.
    none_runs r c.args.at (subst (λ (n : ℕ). c.args.at < n) (same_cpus c.requires.1.0 r) c.requires.1.1) (sym c.task_in.ensures ∙ c.in_default.is)

pub standing-requires : goal.standing-requires
standing-requires c =
    record {
      task_lt_task_places = (one_runs c.requires.1.0 c.args.at c.requires.1.1 (sym c.task_in.ensures ∙ c.in-Some.is)).0;
      reading = (c.requires.0, c.requires.1.0);
    }

pub returns : goal.returns
returns c =
    λ m r.
    c.standing.ensures m r
    ∙ (one_runs r c.args.at (subst (λ (n : ℕ). c.args.at < n) (same_cpus c.requires.1.0 r) c.requires.1.1) (sym c.task_in.ensures ∙ c.in-Some.is)).1

pub bounds-rows-at : goal.bounds-rows-at
bounds-rows-at c = omega (arith, rows_long c.requires.1.0, c.requires.1.1)
