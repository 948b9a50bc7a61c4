-- What the pass over one stored row looks for: W3 to W6, place by place.
-- Assumes nothing.
use Rattle.std.specs.Prelude.{◌≡◌, Bool, List, ℕ, zero, suc, ◌+◌, ◌/◌, ◌%◌, ◌≤◌, ◌<◌, length, get_or, take}
use Rattle.bits.specs.Bit.{bit, digit}
use Rattle.rules.specs.Lists.{occ}
use Rattle.rules.specs.Machine.{task_places, runnable, row_level}
use Rattle.rules.specs.Tables.{nothing}

-- ---- a set of task numbers, 64 to a word

abbrev pub set_words : ℕ
set_words = 8

unfoldable pub marked : List ℕ → ℕ → Bool
marked marks u = bit (get_or marks (u / 64) 0) (u % 64)

-- 1 for a task in the set, else 0
abbrev pub mark : List ℕ → ℕ → ℕ
mark marks u = digit (marked marks u)

-- ---- one row

-- no priority is above this one
abbrev pub top : ℕ
top = 255

-- what the priority at place i may not exceed: that of the place before
abbrev pub above : List ℕ → List ℕ → ℕ → ℕ
above prio row zero = top
above prio row (suc i) = get_or prio (get_or row i 0) 0

-- task u may stand in row c, behind a task of priority `bound`
pub record Stands (state prio cpu : List ℕ) (c bound u : ℕ) : Type 0 where
  pub number : u < task_places
  pub runs : get_or state u 0 ≡ runnable
  pub home : get_or cpu u 0 ≡ c
  pub falls : get_or prio u 0 ≤ bound

-- each of the first `count` places of row c holds such a task
abbrev pub AllStand : List ℕ → List ℕ → List ℕ → List ℕ → ℕ → ℕ → Type 0
AllStand state prio cpu row c count = (i : ℕ) → i < count → Stands state prio cpu c (above prio row i) (get_or row i 0)

-- none of them is in the set or stands there twice
abbrev pub Once : List ℕ → List ℕ → ℕ → Type 0
Once marks row count = (u : ℕ) → mark marks u + occ u (take count row) ≤ 1

-- the set with them
abbrev pub Marks : List ℕ → List ℕ → ℕ → List ℕ → Type 0
Marks marks row count marks' = (length marks' ≡ set_words) × ((u : ℕ) → mark marks' u ≡ mark marks u + occ u (take count row))

-- the other places hold nothing
abbrev pub Unused : List ℕ → ℕ → Type 0
Unused row count = (i : ℕ) → count ≤ i → i < task_places → get_or row i 0 ≡ nothing

-- the row of CPU c in its places, with the CPU's flag, its level, and the level `idle` that it has without a task
pub record Row (state prio cpu row : List ℕ) (c count flag idle level : ℕ) : Type 0 where
  pub most : count ≤ task_places
  pub tasks : AllStand state prio cpu row c count
  pub rest : Unused row count
  pub small : flag ≤ 1
  pub right : level ≡ row_level (λ u. get_or prio u 0) idle (take count row)
