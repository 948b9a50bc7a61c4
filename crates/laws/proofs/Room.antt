-- No row has more than 512 tasks, and the one that a mover enters at most 511.
-- Assumes nothing.
use mathlib.Core.Path.{◌≡◌}
use mathlib.Core.Option.{some}
use Prim.Native.Nat.{ℕ, ◌≤◌, ◌<◌}
use lib.ListN.{length}
use Rattle.rules.specs.Machine.{Machine, row, task_places, dequeue}
use Rattle.rules.specs.WellFormed.{WellFormed}
use Rattle.rules.specs.Migration.{Move, next}
use Rattle.laws.proofs.Lists.{pigeonhole}
use Rattle.laws.proofs.Apart.{in_row, once, runnable_place}
use Rattle.laws.proofs.Choice.{chosen}
use Rattle.laws.proofs.Step.{step_room}

-- W3's counts: no row has more than 512 tasks
pub row_fits : (m : Machine) (c : ℕ) → WellFormed m → length (row m c) ≤ task_places
row_fits m c w = pigeonhole task_places (row m c) (λ u. once m u c w) (λ u i. runnable_place m u w (in_row m u c w i).0)

-- migration: the mover has left its row, and enters the destination's
pub room_step : (m : Machine) (v : Move) → WellFormed m → next m ≡ some v → length (row (dequeue v.task v.origin m) v.target) < task_places
room_step m v w e = step_room m v w (chosen m v w e)
