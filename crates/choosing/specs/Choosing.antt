-- The step that applies, as numbers, and what it is chosen from.
-- Assumes nothing.
use Rattle.std.specs.Prelude.{◌≡◌, cond, Option, Some, None, IfSome, List, ℕ, ◌≤◌, ◌<◌, ltb, get_or}
use Rattle.std.proofs.Math.Option as maybe
use Rattle.bits.specs.Bit.{lowest}
use Rattle.cpupri.specs.Level.{level_of}
use Rattle.cpupri.specs.Found.{lowest_level, allowed_at}
use Rattle.cpupri.specs.Record.{masks_of, counts_of, words_of}
use Rattle.rules.specs.Machine.{Machine, levels, task_places, highest_priority}
use Rattle.rules.specs.Migration.{Move, next}
use Rattle.movelog.specs.Entry.{move_by}
use Rattle.mover.specs.Foremost.{Looking}
use Rattle.movelog.specs.declared.Step.{Step}

-- the lent tables hold the machine m of n CPUs: besides, the tasks' CPUs and the record's masks, words and levels
pub record Choosing (m : Machine) (n : ℕ) (ps cs ms ks flat lm lw ls : List ℕ) : Type 0 where
  pub looking : Looking m ps ms ks flat
  pub cpus : n ≡ m.n
  pub cpu : cs ≡ m.cpu
  pub masks : lm ≡ masks_of (levels m)
  pub words : lw ≡ words_of (counts_of (levels m))
  pub levels : ls ≡ levels m

-- the same where the tasks' masks and their CPUs are not lent, and no level is read
pub record Watching (m : Machine) (n : ℕ) (ps ks flat lm lw : List ℕ) : Type 0 where
  pub looking : Looking m ps m.mask ks flat
  pub cpus : n ≡ m.n
  pub masks : lm ≡ masks_of (levels m)
  pub words : lw ≡ words_of (counts_of (levels m))

-- ---- steps

abbrev pub as_move : Option Step → maybe.Option Move
as_move None = maybe.none
as_move (Some s) = maybe.some (move_by s)

-- the step of the task t, with the destination and the level that the finder gives, if it gives one
unfoldable pub step_by : List ℕ → List ℕ → List ℕ → List ℕ → ℕ → maybe.Option Move
step_by masks ps cs ms t =
    let below : ℕ = level_of (get_or ps t 0) in
    let k : ℕ = get_or ms t 0 in
    let l : ℕ = lowest_level masks below k in
    cond (ltb l below) (maybe.some (record { task = t; origin = get_or cs t 0; target = lowest 64 (allowed_at masks k l); displaced = l })) maybe.none

-- the step of a task that there may be
abbrev pub step_if : List ℕ → List ℕ → List ℕ → List ℕ → Option ℕ → maybe.Option Move
step_if masks ps cs ms None = maybe.none
step_if masks ps cs ms (Some t) = step_by masks ps cs ms t

-- who moves in a step
abbrev pub mover_of : maybe.Option Move → maybe.Option ℕ
mover_of maybe.none = maybe.none
mover_of (maybe.some v) = maybe.some v.task

-- the step of the task is the one that applies to the machine m, or neither is; and the task can be looked up
pub record Leads (m : Machine) (masks ps cs ms : List ℕ) (task : Option ℕ) : Type 0 where
  pub step : step_if masks ps cs ms task ≡ next m
  pub stored : IfSome task (λ t. (t < task_places) × (get_or ps t 0 ≤ highest_priority))
