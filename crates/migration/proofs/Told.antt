-- What goes with the search for a movable task, from step to step: the CPUs below each level, and a level that no CPU is below.
-- Assumes nothing.
use mathlib.Core.Path.{◌≡◌, refl, sym, ap, ◌∙◌, subst}
use mathlib.Core.List.{List}
use Prim.Native.Nat.{ℕ, ◌-◌, ◌^◌, ◌≤◌, ◌<◌}
use native.Mathlib.Nat.{le_trans}
use native.Mathlib.Omega.{arith}
use lib.ListN.{length, get_or, set}
use Rattle.cpupri.specs.Level.{level_count}
use Rattle.cpupri.specs.Found.{lowest_level}
use Rattle.cpupri.specs.Record.{masks_of}
use Rattle.under.specs.Under.{under_of}
use Rattle.under.proofs.Below.{length_under}
use Rattle.rules.specs.Machine.{Machine, prio_of, row, idle_level, level, level_of, levels, cpu_places, highest_priority}
use Rattle.rules.specs.Migration.{Move, Chosen, migrate}
use Rattle.rules.specs.WellFormed.{WellFormed}
use Rattle.laws.proofs.Apart.{runnable_fit}
use Rattle.laws.proofs.Finder.{lowest_of_all}
use Rattle.laws.proofs.Record.{length_levels, levels_below}
use Rattle.laws.proofs.Step.{level_head, same_runs, target_level, levels_rise}
use Rattle.placement.proofs.Levels.{levels_change}
use Rattle.waiting.specs.Wanted.{Told}
use Rattle.waiting.specs.declared.scan.Test.TheVariants.{Movable}

-- before the first step
pub told_start : (m : Machine) → WellFormed m → (l : ℕ) → l ≡ lowest_level (masks_of (levels m)) level_count (2 ^ 64 - 1) → (under : List ℕ) → under ≡ under_of (levels m)
    → Told m (Movable l) under
told_start m w l is under e = (e, λ c h. subst (λ (i : ℕ). i ≤ level m c) (sym is) (lowest_of_all m w c h))

-- after a step
module _ (m : Machine) (w : WellFormed m) (v : Move) (k : Chosen m v) where
  -- the destination's level becomes the mover's, and no other changes
  pub levels_migrated : levels (migrate v m) ≡ set (levels m) v.target (level_of (prio_of m v.task))
  levels_migrated =
      levels_change m (migrate v m) v.target (level_of (prio_of m v.task)) w.shape.cpus refl k.small
      (λ d h apart. level_head (prio_of m) (idle_level m d) (row (migrate v m) d) (row m d) (same_runs m v w k d apart))
      (target_level m v w k)

  -- the level that it has then
  pub new_level : get_or (levels (migrate v m)) v.target 0 ≡ level_of (prio_of m v.task)
  new_level = levels_below (migrate v m) v.target k.small ∙ target_level m v w k

  pub rises : (v.displaced ≤ get_or (levels (migrate v m)) v.target 0) × (get_or (levels (migrate v m)) v.target 0 < level_count)
  rises =
      let high : prio_of m v.task ≤ highest_priority = (runnable_fit m v.task w k.runs).prio_high in
      (omega (arith, new_level, k.displaced, k.below), omega (arith, new_level))

  pub was_level : get_or (levels m) v.target 0 ≡ v.displaced
  was_level = levels_below m v.target k.small ∙ sym k.displaced

  pub told_after : (l : ℕ) (under under' : List ℕ) → Told m (Movable l) under
      → ((ls : List ℕ) → under ≡ under_of ls → length ls ≡ cpu_places → get_or ls v.target 0 ≡ v.displaced → under' ≡ under_of (set ls v.target (get_or (levels (migrate v m)) v.target 0)))
      → Told (migrate v m) (Movable l) under'
  told_after l under under' told risen = (
    risen (levels m) told.0 (length_levels m w.shape.cpus) was_level
        ∙ ap (λ (x : ℕ). under_of (set (levels m) v.target x)) new_level ∙ ap under_of (sym levels_migrated),
    λ c h. le_trans (told.1 c h) (levels_rise m v w k c),
  )

pub told_size : (m : Machine) (l : ℕ) (under : List ℕ) → Told m (Movable l) under → length under ≡ level_count
told_size m l under told = ap length told.0 ∙ length_under (levels m)
