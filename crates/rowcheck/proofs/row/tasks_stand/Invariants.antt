-- `rowcheck::row::tasks_stand` meets its contract. The loop's invariant: the tasks passed may stand where they do, they have joined the
-- set, and `bound` is the priority of the last. Assumes nothing.
use mathlib.Core.Path.{◌≡◌}
use Rattle.rowcheck.specs.Placed.{above, AllStand, Marks}
use Rattle.rowcheck.proofs.row.tasks_stand.Given as goal

abbrev pub invariant-loop-place : goal.invariant-loop-place
invariant-loop-place l =
    (l.bound ≡ above l.prio l.row l.place-index) × (AllStand l.state l.prio l.cpu l.row l.c l.place-index) × (Marks l.initial.marks l.row l.place-index l.marks)
