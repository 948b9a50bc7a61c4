-- Well-formed, W1 to W5: as a record of propositions, and as a test that computes. W6 is one equation about the caller's record: it is
-- the record that `levels m` determines. W3's counts and places are about the stored rows; of the rows as lists they follow from W4.
-- Assumes nothing.
use Rattle.std.specs.Prelude.{◌≡◌, Bool, true, cond, ◌&&◌, ◌||◌, List, [], ◌∷◌, ℕ, ◌≤◌, ◌<◌, ◌^◌, eqb, leb, ltb, length}
use Rattle.bits.specs.Bit.{digit}
use Rattle.cpupri.specs.Found.{size_fits, mask_fits}
use Rattle.rules.specs.Lists.{occ, Falling, each}
use Rattle.rules.specs.Machine.{Machine, Task, task_of, free_task, prio_of, row, flag, allows, allowed, free, asleep, runnable, fifo, rr, task_places, cpu_places}
use Rattle.rules.specs.Machine.{lowest_priority, highest_priority, longest_slice}

-- ---- as propositions

-- N, the full slice and the tables' lengths
pub record Shape (m : Machine) : Type 0 where
  pub some_cpu : 1 ≤ m.n
  pub cpus : m.n ≤ cpu_places
  pub some_tick : 1 ≤ m.full
  pub ticks : m.full ≤ longest_slice
  pub state : length m.state ≡ task_places
  pub policy : length m.policy ≡ task_places
  pub prio : length m.prio ≡ task_places
  pub cpu : length m.cpu ≡ task_places
  pub slice : length m.slice ≡ task_places
  pub mask : length m.mask ≡ task_places
  pub rows : length m.rows ≡ m.n
  pub flags : length m.flags ≡ m.n

-- W2's columns of a place that is not free; a mask without bits at N or above is one below 2 ^ N
pub record Fit (n full : ℕ) (τ : Task) : Type 0 where
  pub policy_low : fifo ≤ τ.policy
  pub policy_high : τ.policy ≤ rr
  pub prio_low : lowest_priority ≤ τ.prio
  pub prio_high : τ.prio ≤ highest_priority
  pub cpu : τ.cpu < n
  pub slice_low : 1 ≤ τ.slice
  pub slice_high : τ.slice ≤ full
  pub mask_some : 0 < τ.mask
  pub mask_fits : τ.mask < 2 ^ n

-- W1 and W2 of one place
pub data Sound (n full : ℕ) (τ : Task) : Type 0 where
  is_free : τ ≡ free_task → Sound n full τ
  is_asleep : τ.state ≡ asleep → Fit n full τ → Sound n full τ
  is_runnable : τ.state ≡ runnable → Fit n full τ → Sound n full τ

-- how often a task has to stand in row c: once if it is runnable and c is its CPU, else never
abbrev pub standing : Task → ℕ → ℕ
standing τ c = digit (eqb τ.state runnable && eqb τ.cpu c)

-- what `shaped` and `wellFormed` below test, in the paper's words: proofs/Test.antt
pub record WellFormed (m : Machine) : Type 0 where
  pub shape : Shape m
  -- W1, W2
  pub tasks : (t : ℕ) → t < task_places → Sound m.n m.full (task_of m t)
  -- W3
  pub flags : (c : ℕ) → c < m.n → flag m c ≤ 1
  -- W4, for every number t: no other number stands in a row; allowed is a CPU that is online, so the rows of others are empty
  pub rows : (t c : ℕ) → occ t (row m c) ≡ standing (task_of m t) c
  pub home : (t : ℕ) → (task_of m t).state ≡ runnable → allowed m t (task_of m t).cpu ≡ true
  -- W5
  pub falling : (c : ℕ) → Falling (prio_of m) (row m c)
  -- some CPU is online, and no number from N on
  pub online_some : 0 < m.online
  pub online_fits : m.online < 2 ^ m.n

-- ---- as a test: one walk over the six columns together, one over the rows, one over the flags, and the online mask

-- a full slice of 1 to 1000 ticks
abbrev pub slice_fits : ℕ → Bool
slice_fits full = leb 1 full && leb full longest_slice

abbrev pub shaped : Machine → Bool
shaped m =
    size_fits m.n && slice_fits m.full && eqb (length m.state) task_places && eqb (length m.policy) task_places
    && eqb (length m.prio) task_places && eqb (length m.cpu) task_places && eqb (length m.slice) task_places
    && eqb (length m.mask) task_places && eqb (length m.rows) m.n && eqb (length m.flags) m.n

-- the task places, from the six columns
unfoldable pub gathered : List ℕ → List ℕ → List ℕ → List ℕ → List ℕ → List ℕ → List Task
gathered [] ps qs cs ls ks = []
gathered (s ∷ ss) [] qs cs ls ks = []
gathered (s ∷ ss) (p ∷ ps) [] cs ls ks = []
gathered (s ∷ ss) (p ∷ ps) (q ∷ qs) [] ls ks = []
gathered (s ∷ ss) (p ∷ ps) (q ∷ qs) (c ∷ cs) [] ks = []
gathered (s ∷ ss) (p ∷ ps) (q ∷ qs) (c ∷ cs) (l ∷ ls) [] = []
gathered (s ∷ ss) (p ∷ ps) (q ∷ qs) (c ∷ cs) (l ∷ ls) (k ∷ ks) =
    record { state = s; policy = p; prio = q; cpu = c; slice = l; mask = k } ∷ gathered ss ps qs cs ls ks

abbrev pub tasks : Machine → List Task
tasks m = gathered m.state m.policy m.prio m.cpu m.slice m.mask

abbrev pub zeros : Task → Bool
zeros τ = eqb τ.policy 0 && eqb τ.prio 0 && eqb τ.cpu 0 && eqb τ.slice 0 && eqb τ.mask 0

abbrev pub fits : ℕ → ℕ → Task → Bool
fits n full τ =
    leb fifo τ.policy && leb τ.policy rr && leb lowest_priority τ.prio && leb τ.prio highest_priority && ltb τ.cpu n
    && leb 1 τ.slice && leb τ.slice full && mask_fits n τ.mask

-- W1 and W2, and of a runnable task W4: it stands once in the row of its CPU, which is allowed
abbrev pub sound_task : Machine → ℕ → Task → Bool
sound_task m t τ =
    cond (eqb τ.state free) (zeros τ)
    (fits m.n m.full τ && (eqb τ.state asleep || (eqb τ.state runnable && eqb (occ t (row m τ.cpu)) 1 && allows m τ.mask τ.cpu)))

-- W5, neighbour by neighbour
unfoldable pub falls : (ℕ → ℕ) → List ℕ → Bool
falls p [] = true
falls p (t ∷ []) = true
falls p (t ∷ u ∷ us) = leb (p u) (p t) && falls p (u ∷ us)

-- W4 and W5 of row c: each task in it is runnable and has c as its CPU
abbrev pub sound_row : Machine → ℕ → List ℕ → Bool
sound_row m c r = each (λ i u. eqb (standing (task_of m u) c) 1) 0 r && falls (prio_of m) r

-- W1 to W5 of a machine whose N, full slice and lengths are right, and its online mask
abbrev pub well_formed : Machine → Bool
well_formed m =
    each (sound_task m) 0 (tasks m) && each (sound_row m) 0 m.rows && each (λ c f. leb f 1) 0 m.flags
    && mask_fits m.n m.online
