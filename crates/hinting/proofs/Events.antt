-- After an event's own effect on a settled machine: who can move is among the candidates from what was read before.
-- Assumes nothing.
use mathlib.Core.Path.{◌≡◌, refl, sym, ap, ◌∙◌, subst, subst₂}
use mathlib.Core.Bool.{Bool, cond}
use mathlib.Core.List.{List, [], ◌∷◌}
use mathlib.Core.Option.{Option, none, some}
use Prim.Native.Nat.{ℕ, ◌<◌}
use native.Mathlib.Omega.{arith}
use lib.Dec.{eqb}
use Rattle.rules.specs.Machine.{Machine, Task as Columns, task_of, row, running, runnable, task_places}
use Rattle.rules.specs.Migration.{next}
use Rattle.rules.specs.Plan.{carried}
use Rattle.rules.specs.WellFormed.{WellFormed, Sound, is_free, is_asleep, is_runnable}
use Rattle.laws.specs.Limited.{Limited, holds, second, fallen_cpu, new_task}
use Rattle.rules.specs.Lists.{In}
use Rattle.laws.proofs.Apart.{in_row, runnable_place}
use Rattle.laws.proofs.Hotplug.{limited_back, limited_left, limited_gone}
use Rattle.laws.proofs.Lists.{in_here}
use Rattle.laws.proofs.Touched.{ran_there, limited_touched, touches_carried, limited_settled, limited_flag}
use Rattle.plans.specs.Decided.{as_plan, did}
use Rattle.plans.specs.declared.plan.Decision.{Decision}
use Rattle.plans.specs.declared.plan.Decision.TheVariants.{Nothing, Place, Flag, Offline, Online}
use Rattle.hinting.specs.Hinted.{Among}
use Rattle.hinting.specs.Past.{past_of, past_of_row, past_by, Able, Standing, new_since, candidates_since}
use Rattle.hinting.proofs.Hints.{ruled_coded}

-- the CPU of any task is one of the N
pub cpu_small : (m : Machine) (t : ℕ) → WellFormed m → t < task_places → (task_of m t).cpu < m.n
cpu_small m t w h = go (w.tasks t h)
  where
    go : Sound m.n m.full (task_of m t) → (task_of m t).cpu < m.n
    go (is_free e) = let z : (task_of m t).cpu ≡ 0 = ap (λ (τ : Columns). τ.cpu) e in omega (arith, w.shape.some_cpu)
    go (is_asleep s f) = f.cpu
    go (is_runnable s f) = f.cpu

-- the first of a row is a task
pub first_place : (m : Machine) (c t : ℕ) (ts : List ℕ) → WellFormed m → row m c ≡ t ∷ ts → t < task_places
first_place m c t ts w e = runnable_place m t w (in_row m t c w (subst (In t) (sym e) (in_here t ts))).0

-- what was read before, and is read after, are the two options of the rules
module _ (t : ℕ) (m m' : Machine) (w : WellFormed m) where
  abbrev from : ℕ
  from = (task_of m t).cpu

  abbrev to : ℕ
  to = (task_of m' t).cpu

  abbrev ran : Bool
  ran = holds (running m from) t

  new_is : new_since t from ran m' ≡ new_task t m m'
  new_is =
      ap (λ (b : Bool). cond (eqb (task_of m' t).state runnable) (cond (holds (running m' to) t) (cond b none (second (row m' to))) (some t)) none)
      (sym (ran_there m t to w))

  pub hinted_task : Limited m' (fallen_cpu t m m') (new_task t m m') → Among m' (candidates_since (past_of m t) m')
  hinted_task l =
      subst₂ (λ (a b : Option ℕ). Limited m' a b) (sym (ruled_coded (fallen_cpu t m m'))) (sym (ruled_coded (new_since t from ran m') ∙ new_is)) l

-- whatever was decided
module _ (m : Machine) (w : WellFormed m) (still : next m ≡ none) where
  pub event_among : (d : Decision) → Able m d → WellFormed (did d m) → Among (did d m) (candidates_since (past_by m d) (did d m))
  event_among Nothing k w' = limited_settled m still
  event_among (Place p) k w' =
      hinted_task p.task m (carried (as_plan p) m) w
      (limited_touched p.task m (carried (as_plan p) m) w w' (touches_carried m (as_plan p) w k) still)
  event_among (Flag c b) k w' = limited_flag m c b w still
  event_among (Offline c) k w' = go (row m c) refl
    where
      go : (r : List ℕ) → row m c ≡ r → Among (did (Offline c) m) (candidates_since (past_of_row m r) (did (Offline c) m))
      go [] e = limited_left c m w k.cpu w' still e
      go (t ∷ ts) e = hinted_task t m (did (Offline c) m) w (limited_gone c m w k.cpu w' still k.placed t ts e)
  event_among (Online c) k w' = limited_back c m still k

-- what was read before can be looked up after
pub past_stands : (m m' : Machine) (d : Decision) → WellFormed m → m'.n ≡ m.n → Able m d → Standing m' (past_by m d)
past_stands m m' Nothing w e k = tt
past_stands m m' (Place p) w e k = (k.task, subst (λ (n : ℕ). (task_of m p.task).cpu < n) (sym e) (cpu_small m p.task w k.task))
past_stands m m' (Flag c b) w e k = tt
past_stands m m' (Offline c) w e k = go (row m c) refl
  where
    go : (r : List ℕ) → row m c ≡ r → Standing m' (past_of_row m r)
    go [] q = tt
    go (t ∷ ts) q = let place = first_place m c t ts w q in (place, subst (λ (n : ℕ). (task_of m t).cpu < n) (sym e) (cpu_small m t w place))
past_stands m m' (Online c) w e k = tt
