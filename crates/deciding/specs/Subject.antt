-- What an event is decided from, and the right decision.
-- Assumes nothing.
use Rattle.std.specs.Prelude.{◌≡◌, Bool, ◌≢◌, Result, List, ℕ, get_or}
use Rattle.rules.specs.Machine.{Machine, Task}
use Rattle.rules.specs.Tables.{flat_of, row_counts}
use Rattle.rules.specs.WellFormed.{WellFormed}
use Rattle.rules.specs.Events.{Event, effect}
use Rattle.rules.specs.Refusals.{refusal}
use Rattle.rules.specs.declared.answer.Refusal.{Refusal}
use Rattle.plans.specs.Decided.{Decided}
use Rattle.stranding.specs.Stranding.{strands_by}
use Rattle.plans.specs.declared.plan.Decision.{Decision}

-- the task at a place of the six columns; a number that is no place reads as a free one
abbrev pub entries : List ℕ → List ℕ → List ℕ → List ℕ → List ℕ → List ℕ → ℕ → Task
entries ss ps qs cs ls ks t =
    record { state = get_or ss t 0; policy = get_or ps t 0; prio = get_or qs t 0; cpu = get_or cs t 0; slice = get_or ls t 0; mask = get_or ks t 0 }

unfoldable pub Decides : Machine → Event → Result Decision Refusal → Type 0
Decides m e d = Decided (refusal m e) (effect e m) m d

-- a kind that is decided with others: none of 3 to 8
pub record Rare (k : ℕ) : Type 0 where
  pub wake : k ≢ 3
  pub sleep : k ≢ 4
  pub set_priority : k ≢ 5
  pub set_affinity : k ≢ 6
  pub tick : k ≢ 7
  pub yield : k ≢ 8

-- ---- what is lent

pub record Lent (m : Machine) (n on full : ℕ) (ss ps qs cs ls ks : List ℕ) (b : Bool) (kind who : ℕ) : Type 0 where
  pub formed : WellFormed m
  pub cpus : n ≡ m.n
  pub online : on ≡ m.online
  pub ticks : full ≡ m.full
  pub state : ss ≡ m.state
  pub policy : ps ≡ m.policy
  pub prio : qs ≡ m.prio
  pub cpu : cs ≡ m.cpu
  pub slice : ls ≡ m.slice
  pub mask : ks ≡ m.mask
  pub stranding : b ≡ strands_by m kind who

pub record LentRows (m : Machine) (n : ℕ) (flat ns : List ℕ) : Type 0 where
  pub formed : WellFormed m
  pub cpus : n ≡ m.n
  pub rows : flat ≡ flat_of m.rows
  pub counts : ns ≡ row_counts m.rows
