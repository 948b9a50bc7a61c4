-- Refusals 3 to 12: for each kind a list of checks in the paper's order; the answer is the first that fails, or 0. A check is the finder's:
-- whether it fails, and its number. The finder's mask check is the events' too.
-- Assumes nothing.
use Rattle.std.specs.Prelude.{◌≡◌, Bool, true, false, ◌&&◌, ◌||◌, not, List, [], ◌∷◌, ◌⊎◌, ℕ, ◌≤◌, eqb, leb}
pub use Rattle.cpupri.specs.Found.{Check}
unfoldable pub use Rattle.cpupri.specs.Found.{first_failing}
use Rattle.cpupri.specs.Found.{mask_fits}
use Rattle.rules.specs.Lists.{any}
use Rattle.rules.specs.Machine.{Machine, task_of, row, is_online, stranded, without_cpu, free, asleep, runnable, fifo, rr}
use Rattle.rules.specs.Machine.{task_places, lowest_priority, highest_priority}
use Rattle.rules.specs.Events.{Event, Kind, kind_of, by_kind}
use Rattle.rules.specs.Events.{add, remove, wake, sleep, set_priority, set_affinity, tick, yield, set_ordinary, take_offline, bring_online}

-- ---- the numbers

abbrev pub bad_size : ℕ
bad_size = 1

abbrev pub ill_formed : ℕ
ill_formed = 2

abbrev pub unknown_kind : ℕ
unknown_kind = 3

abbrev pub bad_number : ℕ
bad_number = 4

abbrev pub wrong_state : ℕ
wrong_state = 5

abbrev pub bad_policy : ℕ
bad_policy = 6

abbrev pub bad_value : ℕ
bad_value = 7

abbrev pub bad_mask : ℕ
bad_mask = 8

abbrev pub empty_row : ℕ
empty_row = 9

abbrev pub nowhere : ℕ
nowhere = 10

abbrev pub wrong_cpu_state : ℕ
wrong_cpu_state = 11

abbrev pub last_cpu : ℕ
last_cpu = 12

-- ---- checks

-- every check passes
abbrev pub Passes : List Check → Type 0
Passes [] = Unit {0}
Passes (c ∷ cs) = (c.fails ≡ false) × Passes cs

-- the number k applies: a check of this number fails
abbrev pub Applies : ℕ → List Check → Type 0
Applies k [] = ⊥
Applies k (c ∷ cs) = ((c.fails ≡ true) × (c.number ≡ k)) ⊎ Applies k cs

-- k is the first number that applies: so the answer, in the paper's words (proofs/First.antt)
pub record First (k : ℕ) (cs : List Check) : Type 0 where
  pub applies : Applies k cs
  pub least : (j : ℕ) → Applies j cs → k ≤ j

-- the one check of a number that is no kind
abbrev pub no_kind : Check
no_kind = record { number = unknown_kind; fails = true }

module _ (m : Machine) (e : Event) where
  abbrev no_task : Check
  no_task = record { number = bad_number; fails = leb task_places e.who }

  abbrev no_cpu : Check
  no_cpu = record { number = bad_number; fails = leb m.n e.who }

  abbrev is_not_in : ℕ → Check
  is_not_in s = record { number = wrong_state; fails = not (eqb (task_of m e.who).state s) }

  abbrev is_free_place : Check
  is_free_place = record { number = wrong_state; fails = eqb (task_of m e.who).state free }

  abbrev no_policy : Check
  no_policy = record { number = bad_policy; fails = not (eqb e.a fifo || eqb e.a rr) }

  abbrev no_priority : Check
  no_priority = record { number = bad_value; fails = not (leb lowest_priority e.b && leb e.b highest_priority) }

  abbrev no_flag : Check
  no_flag = record { number = bad_value; fails = not (leb e.b 1) }

  -- 0, or a bit at N or above
  abbrev no_mask : Check
  no_mask = record { number = bad_mask; fails = not (mask_fits m.n e.mask) }

  abbrev is_empty : List ℕ → Bool
  is_empty [] = true
  is_empty (t ∷ ts) = false

  -- of an offline CPU 11 is said instead
  abbrev nothing_runs : Check
  nothing_runs = record { number = empty_row; fails = is_online m e.who && is_empty (row m e.who) }

  -- the task woken
  abbrev nowhere_to_wake : Check
  nowhere_to_wake = record { number = nowhere; fails = stranded m (task_of m e.who).mask }

  -- the runnable task whose mask changes
  abbrev nowhere_allowed : Check
  nowhere_allowed = record { number = nowhere; fails = eqb (task_of m e.who).state runnable && stranded m e.mask }

  -- a task of the CPU that goes; every other runnable task has its CPU still (laws: Online)
  abbrev nowhere_to_go : Check
  nowhere_to_go = record { number = nowhere; fails = any (λ t. stranded (without_cpu e.who m) (task_of m t).mask) (row m e.who) }

  abbrev is_offline : Check
  is_offline = record { number = wrong_cpu_state; fails = not (is_online m e.who) }

  abbrev is_back : Check
  is_back = record { number = wrong_cpu_state; fails = is_online m e.who }

  -- no CPU is online without it
  abbrev only_one : Check
  only_one = record { number = last_cpu; fails = eqb (without_cpu e.who m).online 0 }

  abbrev pub checks : Kind → List Check
  checks add = no_task ∷ is_not_in free ∷ no_policy ∷ no_priority ∷ no_mask ∷ []
  checks remove = no_task ∷ is_not_in asleep ∷ []
  checks wake = no_task ∷ is_not_in asleep ∷ nowhere_to_wake ∷ []
  checks sleep = no_task ∷ is_not_in runnable ∷ []
  checks set_priority = no_task ∷ is_free_place ∷ no_priority ∷ []
  checks set_affinity = no_task ∷ is_free_place ∷ no_mask ∷ nowhere_allowed ∷ []
  checks tick = no_cpu ∷ is_offline ∷ []
  checks yield = no_cpu ∷ nothing_runs ∷ is_offline ∷ []
  checks set_ordinary = no_cpu ∷ no_flag ∷ []
  checks take_offline = no_cpu ∷ nowhere_to_go ∷ is_offline ∷ only_one ∷ []
  checks bring_online = no_cpu ∷ is_back ∷ []

  -- the checks of an event
  abbrev pub event_checks : List Check
  event_checks = by_kind (no_kind ∷ []) checks (kind_of e.kind)

  -- the answer, of a well-formed machine
  abbrev pub refusal : ℕ
  refusal = first_failing event_checks
