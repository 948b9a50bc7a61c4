-- A plan whose columns are written, and whose task then goes where it says. Lists are named after the columns: ss states, qs priorities, cs CPUs, flat rows,
-- ns counts, fs flags; r is the CPU-priority record.
-- Assumes nothing.
use Rattle.std.specs.Prelude.{◌≡◌, List, ℕ, set}
use Rattle.std.proofs.Math.Option.{some}
use Rattle.cpupri.specs.Record.{record_of}
use Rattle.levels.specs.declared.record.Record.{Record}
use Rattle.rules.specs.Machine.{Machine, Task, task_of, prio_of, running, levels, runnable}
use Rattle.rules.specs.Plan.{Plan, carried, Doable}
use Rattle.rules.specs.Tables.{flat_of, row_counts}
use Rattle.rules.specs.WellFormed.{WellFormed}
use Rattle.hinting.specs.Past.{past_of, candidates_since}
use Rattle.hinting.specs.declared.hint.Candidates.{Candidates}

-- the columns are written, and nothing else yet
pub record Moving (m : Machine) (p : Plan) (ss qs cs flat ns fs : List ℕ) (r : Record) : Type 0 where
  pub formed : WellFormed m
  pub ready : Doable m p
  pub after : WellFormed (carried p m)
  -- the CPU is entering's to set
  pub home : p.becomes.cpu ≡ (task_of m p.task).cpu
  pub state : ss ≡ set m.state p.task p.becomes.state
  pub prio : qs ≡ set m.prio p.task p.becomes.prio
  pub cpu : cs ≡ m.cpu
  pub rows : flat ≡ flat_of m.rows
  pub counts : ns ≡ row_counts m.rows
  pub flags : fs ≡ m.flags
  pub levels : r ≡ record_of (levels m)

-- task t runs on CPU c, and goes on to be runnable with its priority
pub record Running (m : Machine) (t c : ℕ) (τ : Task) : Type 0 where
  pub first : running m c ≡ some t
  pub state : τ.state ≡ runnable
  pub prio : τ.prio ≡ prio_of m t

-- the rest is done too; x are the candidates since
pub record Moved (x : Candidates) (m : Machine) (p : Plan) (cs flat ns : List ℕ) (r : Record) : Type 0 where
  pub cpu : cs ≡ (carried p m).cpu
  pub rows : flat ≡ flat_of (carried p m).rows
  pub counts : ns ≡ row_counts (carried p m).rows
  pub levels : r ≡ record_of (levels (carried p m))
  pub few : x ≡ candidates_since (past_of m p.task) (carried p m)
