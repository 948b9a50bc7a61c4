-- A task's columns written as they are, and with one that is new.
-- Assumes nothing.
use mathlib.Core.Path.{◌≡◌}
use Prim.Native.Nat.{ℕ}
use lib.Seq.{set-get_or}
use Rattle.rules.specs.Machine.{Machine, Column, task_of, store, write}
use Rattle.rules.specs.Plan.{with_state, with_prio, with_slice, with_mask}

pub write_self : (t : ℕ) (m : Machine) → write t (task_of m t) m ≡ m
write_self t m = simp set-get_or

module _ (t v : ℕ) (m : Machine) where
  pub write_state : write t (with_state v (task_of m t)) m ≡ store Column.state t v m
  write_state = simp set-get_or

  pub write_prio : write t (with_prio v (task_of m t)) m ≡ store Column.prio t v m
  write_prio = simp set-get_or

  pub write_slice : write t (with_slice v (task_of m t)) m ≡ store Column.slice t v m
  write_slice = simp set-get_or

  pub write_mask : write t (with_mask v (task_of m t)) m ≡ store Column.mask t v m
  write_mask = simp set-get_or
