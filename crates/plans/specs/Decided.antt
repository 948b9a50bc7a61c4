-- What a decision says of an event on a well-formed machine, and what each kind is decided from.
-- Assumes nothing.
use Rattle.std.specs.Prelude.{◌≡◌, Bool, false, ◌⊎◌, Option, None, Some, Result, Ok, Err, is_some, unwrap_or, option_map, ℕ, ◌≤◌, ◌<◌}
use Rattle.rules.specs.Lists.{In, any}
use Rattle.rules.specs.Machine.{Machine, Task, task_of, row, stranded, with_flag, without_cpu, with_cpu}
use Rattle.rules.specs.WellFormed.{WellFormed}
use Rattle.rules.specs.Events.{Event, Kind, taken_offline, effect_of}
use Rattle.rules.specs.Plan.{Plan, carried, rewrite, shift, reorder, Carries}
use Rattle.rules.specs.Refusals.{first_failing, checks}
use Rattle.rules.specs.Answers.{number_of}
use Rattle.rules.specs.declared.answer.Refusal.{Refusal}
use Rattle.plans.specs.declared.event.Event.{Event as FiveNumbers}
use Rattle.plans.specs.declared.plan.Task.{Task as Columns}
use Rattle.plans.specs.declared.plan.Plan.{Plan as Written}
use Rattle.plans.specs.declared.plan.Decision.{Decision}
use Rattle.plans.specs.declared.plan.Decision.TheVariants.{Nothing, Place, Flag, Offline, Online}

-- ---- the code's records as the rules'

abbrev pub as_task : Columns → Task
as_task τ = record { state = τ.state; policy = τ.policy; prio = τ.prio; cpu = τ.cpu; slice = τ.slice; mask = τ.mask }

abbrev pub as_plan : Written → Plan
as_plan p =
    record {
      task = p.task;
      leaves = is_some p.leaves;
      origin = unwrap_or p.leaves 0;
      becomes = as_task p.becomes;
      enters = is_some p.enters;
      front = unwrap_or (option_map (λ e. e.front) p.enters) false;
      target = unwrap_or (option_map (λ e. e.target) p.enters) 0;
    }

abbrev pub as_event : FiveNumbers → Event
as_event e = record { kind = e.kind; who = e.who; a = e.a; b = e.b; mask = e.mask }

-- ---- what is known

-- the columns τ of the task t that an event names
pub record Named (m : Machine) (t : ℕ) (τ : Columns) : Type 0 where
  pub formed : WellFormed m
  pub columns : as_task τ ≡ task_of m t

-- ---- decisions

-- what a decision does to the machine
abbrev pub did : Decision → Machine → Machine
did Nothing m = m
did (Place p) m = carried (as_plan p) m
did (Flag c b) m = with_flag c b m
did (Offline c) m = taken_offline c m
did (Online c) m = with_cpu c m

-- a task of CPU c would have nowhere to go without it
abbrev pub strands : Machine → ℕ → Bool
strands m c = any (λ t. stranded (without_cpu c m) (task_of m t).mask) (row m c)

-- CPU c can go: each of its tasks has another
pub record Goable (m : Machine) (c : ℕ) : Type 0 where
  pub cpu : c < m.n
  pub placed : (t : ℕ) → In t (row m c) → stranded (without_cpu c m) (task_of m t).mask ≡ false

-- the own effect, which leaves `done`, is what a decision does, and it can be carried out
abbrev pub Does : Machine → Machine → Decision → Type 0
Does done m Nothing = done ≡ m
Does done m (Place p) = Carries done m (as_plan p)
Does done m (Flag c b) = (done ≡ with_flag c b m) × (c < m.n) × (b ≤ 1)
Does done m (Offline c) = (done ≡ taken_offline c m) × Goable m c
Does done m (Online c) = (done ≡ with_cpu c m) × (c < m.n)

-- the same of a plan for one task, and of one that there may be
abbrev pub Places : Machine → Machine → Written → Type 0
Places done m p = Carries done m (as_plan p)

abbrev pub PlacesOrNot : Machine → Machine → Option Written → Type 0
PlacesOrNot done m None = done ≡ m
PlacesOrNot done m (Some p) = Places done m p

-- the right answer where the first check that fails is r: a refusal with that number, or, of what is accepted, P
abbrev pub Judged : {A : Type 0} → ℕ → (A → Type 0) → Result A Refusal → Type 0
Judged r P (Ok x) = (0 ≡ r) × P x
Judged r P (Err e) = number_of e ≡ r

abbrev pub Decided : ℕ → Machine → Machine → Result Decision Refusal → Type 0
Decided r done m d = Judged r (Does done m) d

abbrev pub Planned : ℕ → Machine → Machine → Result Written Refusal → Type 0
Planned r done m p = Judged r (Places done m) p

abbrev pub PlannedOrNot : ℕ → Machine → Machine → Result (Option Written) Refusal → Type 0
PlannedOrNot r done m p = Judged r (PlacesOrNot done m) p

-- ---- shapes of a plan

-- task t becomes τ, and stays where it is or takes another place in row c
abbrev pub Reorders : ℕ → ℕ → Task → Plan → Type 0
Reorders t c τ p = (p ≡ rewrite t τ) ⊎ ((f : Bool) × (p ≡ reorder f t c τ))

-- and stays where it is, or goes behind its equals in row c
abbrev pub Requeues : ℕ → ℕ → Task → Plan → Type 0
Requeues t c τ p = (p ≡ rewrite t τ) ⊎ (p ≡ reorder false t c τ)

-- and stays where it is, or goes from row c to another
abbrev pub Shifts : ℕ → ℕ → Task → Plan → Type 0
Shifts t c τ p = (p ≡ rewrite t τ) ⊎ ((d : ℕ) × (p ≡ shift t c τ d))

-- ---- by kind

abbrev pub DecidedAs : Kind → Machine → Event → Result Decision Refusal → Type 0
DecidedAs k m e d = Decided (first_failing (checks m e k)) (effect_of k e m) m d

abbrev pub PlannedAs : Kind → Machine → Event → Result Written Refusal → Type 0
PlannedAs k m e p = Planned (first_failing (checks m e k)) (effect_of k e m) m p

abbrev pub PlannedOrNotAs : Kind → Machine → Event → Result (Option Written) Refusal → Type 0
PlannedOrNotAs k m e p = PlannedOrNot (first_failing (checks m e k)) (effect_of k e m) m p
