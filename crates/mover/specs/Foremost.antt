-- Of the waiting tasks of the first rows that pass a test, the one that the walk over the CPUs finds.
-- Assumes nothing.
use Rattle.std.specs.Prelude.{◌≡◌, Bool, true, false, Option, Some, None, ℕ, ◌≤◌, ◌<◌}
use mathlib.Core.List.{List, tail}
use Rattle.cpupri.specs.Level.{level_of}
use Rattle.rules.specs.Lists.{In, place}
use Rattle.rules.specs.Machine.{Machine, prio_of, row}
use Rattle.rules.specs.Tables.{flat_of, row_counts}
use Rattle.rules.specs.WellFormed.{WellFormed}
use Rattle.mover.specs.declared.pick.Mover.{Mover}
use Rattle.mover.specs.declared.pick.Above.{Above}
use Rattle.mover.specs.declared.pick.Above.TheVariants.{Nobody, One, Several}

-- the lent tables hold the machine m: priorities, affinity masks, counts and rows
pub record Looking (m : Machine) (ps ms ks flat : List ℕ) : Type 0 where
  pub well : WellFormed m
  pub prio : ps ≡ m.prio
  pub mask : ms ≡ m.mask
  pub counts : ks ≡ row_counts m.rows
  pub rows : flat ≡ flat_of m.rows

-- b is the task of highest priority that waits in the rows below c and passes the test q; among equals the one on the lowest-numbered CPU; among
-- those the earliest in the row
pub record Foremost (q : ℕ → Bool) (m : Machine) (c : ℕ) (b : Mover) : Type 0 where
  pub cpu : b.origin < c
  pub waits : In b.task (tail (row m b.origin))
  pub passes : q b.task ≡ true
  pub prio : b.priority ≡ prio_of m b.task
  pub highest : (d : ℕ) → d < c → (u : ℕ) → In u (tail (row m d)) → q u ≡ true → prio_of m u ≤ b.priority
  pub lowest_cpu : (d : ℕ) → d < c → (u : ℕ) → In u (tail (row m d)) → q u ≡ true → b.priority ≤ prio_of m u → b.origin ≤ d
  pub earliest : (u : ℕ) → In u (tail (row m b.origin)) → q u ≡ true → b.priority ≤ prio_of m u
      → place b.task (row m b.origin) ≤ place u (row m b.origin)

-- of those who wait in the rows below c, the foremost that passes, or None: none passes
abbrev pub BestOf : (ℕ → Bool) → Machine → ℕ → Option Mover → Type 0
BestOf q m c None = (d : ℕ) → d < c → (u : ℕ) → In u (tail (row m d)) → q u ≡ false
BestOf q m c (Some b) = Foremost q m c b

-- b is the task of highest priority that waits in row c and passes, among equals the earliest; and it is above the priority p
pub record Higher (q : ℕ → Bool) (m : Machine) (c p : ℕ) (b : Mover) : Type 0 where
  pub origin : b.origin ≡ c
  pub waits : In b.task (tail (row m c))
  pub passes : q b.task ≡ true
  pub prio : b.priority ≡ prio_of m b.task
  pub above : p < b.priority
  pub highest : (u : ℕ) → In u (tail (row m c)) → q u ≡ true → prio_of m u ≤ b.priority
  pub earliest : (u : ℕ) → In u (tail (row m c)) → q u ≡ true → b.priority ≤ prio_of m u → place b.task (row m c) ≤ place u (row m c)

-- that task, or None: who waits in row c and passes is not above p
abbrev pub HigherIn : (ℕ → Bool) → Machine → ℕ → ℕ → Option Mover → Type 0
HigherIn q m c p None = (u : ℕ) → In u (tail (row m c)) → q u ≡ true → prio_of m u ≤ p
HigherIn q m c p (Some b) = Higher q m c p b

-- of those who wait in the rows below c only the task t is above the level l, and it waits
pub record Alone (m : Machine) (l c t : ℕ) : Type 0 where
  pub waits : (d : ℕ) × (d < c) × In t (tail (row m d))
  pub only : (d : ℕ) → d < c → (u : ℕ) → In u (tail (row m d)) → l < level_of (prio_of m u) → u ≡ t

-- how many are, unless several may be
abbrev pub OnlyAbove : Machine → ℕ → ℕ → Above → Type 0
OnlyAbove m l c Nobody = (d : ℕ) → d < c → (u : ℕ) → In u (tail (row m d)) → level_of (prio_of m u) ≤ l
OnlyAbove m l c (One t) = Alone m l c t
OnlyAbove m l c Several = Unit {0}

-- of those who wait in row c only the first can be above the level l
abbrev pub FirstAlone : Machine → ℕ → ℕ → Type 0
FirstAlone m l c = (u : ℕ) → In u (tail (row m c)) → l < level_of (prio_of m u) → place u (tail (row m c)) ≡ 0
