-- The task that runs on a CPU.
-- Assumes nothing.
use Rattle.std.specs.Prelude.{◌≡◌, Option, Some, None, IfSome, option_map, List, [], ◌∷◌, ℕ}
use Rattle.rules.specs.Machine.{Machine, task_of, row}
use Rattle.rules.specs.WellFormed.{WellFormed}
use Rattle.plans.specs.Decided.{as_task}
use Rattle.percpu.specs.declared.Runner.{Runner}

-- the first of a row, if there is one
abbrev pub first_of : List ℕ → Option ℕ
first_of [] = None
first_of (t ∷ ts) = Some t

-- the task that runs on CPU c, with its columns, if one does
pub record Runs (m : Machine) (c : ℕ) (runner : Option Runner) : Type 0 where
  pub formed : WellFormed m
  pub first : option_map (λ r. r.task) runner ≡ first_of (row m c)
  pub columns : IfSome runner (λ r. as_task r.columns ≡ task_of m r.task)
