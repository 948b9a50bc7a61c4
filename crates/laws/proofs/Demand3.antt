-- Demand 3 holds of every accepted event of all eleven kinds, on every well-formed machine, settled or not.
-- Assumes nothing.
use mathlib.Core.Path.{◌≡◌, refl, sym, ◌∙◌, subst}
use mathlib.Core.Bool.{Bool, true, false, true≢false}
use mathlib.Core.List.{List, [], ◌∷◌}
use mathlib.Core.Logic.{◌≢◌}
use mathlib.Core.Option.{none}
use Prim.Native.Nat.{ℕ, zero, suc, ◌≤◌, ◌<◌}
use native.Mathlib.Omega.{arith}
use lib.Dec.{ltb}
use lib.ListN.{length}
use borrow.Author.Tests.{ltb-true, ltb-false}
use Rattle.rules.specs.Lists.{In, occ}
use Rattle.rules.specs.Machine.{Machine, task_of, prio_of, row, level, level_of, allowed, runnable, fresh, cpu_places, longest_slice}
use Rattle.rules.specs.WellFormed.{WellFormed}
use Rattle.rules.specs.Events.{Event, effect}
use Rattle.rules.specs.Refusals.{refusal}
use Rattle.rules.specs.Migration.{Move, waiting, next, settle_all}
use Rattle.rules.specs.Outcome.{Outcome, outcome, answered}
use Rattle.rules.specs.Cases.{played}
use Rattle.rules.specs.Demand3.{Demand3, Steps, none_left, Outdone}
use Rattle.laws.proofs.Checks.{outcome_accepted}
use Rattle.laws.proofs.Effects.{keep_effect, fresh_well_formed}
use Rattle.laws.proofs.Choice.{movable_by, none_movable}
use Rattle.laws.proofs.Online.{idle_online, allows_online}
use Rattle.laws.proofs.Step.{running_level}
use Rattle.laws.proofs.Runs.{Run, out, stop, step, settle_run, settle_ends, run_few, run_movers, run_receivers, run_falling, run_well_formed}
use Rattle.laws.proofs.Apart.{standing_home, standing_away, runnable_fit}

-- where no task is movable, no waiting task is higher than what runs on a CPU it is allowed
pub nothing_movable : (m : Machine) → WellFormed m → next m ≡ none → (t c : ℕ) → In t (waiting m) → c < m.n → allowed m t c ≡ true → Outdone m t c
nothing_movable m w n t c i h a = running_level m c (prio_of m t) (omega (arith, idle_online m c (allows_online m (task_of m t).mask c a), w.flags c h)) (go (ltb (level m c) (level_of (prio_of m t))) refl)
  where
    go : (b : Bool) → ltb (level m c) (level_of (prio_of m t)) ≡ b → level_of (prio_of m t) ≤ level m c
    go true e =
        absurd (true≢false (sym (movable_by m t c h a (ltb-true (level m c) (level_of (prio_of m t)) e)) ∙ none_movable m t n i))
    go false e = ltb-false (level m c) (level_of (prio_of m t)) e

-- a run that ends because nothing is movable is the steps, in order
run_steps : {k : ℕ} {m : Machine} {l : List Move} {e : Machine} → Run k m l e → next e ≡ none → Steps m l e
run_steps out n = none_left n
run_steps (stop h) n = none_left n
run_steps (step h r) n = Steps.step h (run_steps r n)

-- a runnable task stands in the row of its CPU, once, and in no other
stands_once : (m : Machine) → WellFormed m → (t : ℕ) → (task_of m t).state ≡ runnable
    → (c : ℕ) × (c < m.n) × (occ t (row m c) ≡ 1) × ((d : ℕ) → d ≢ c → occ t (row m d) ≡ 0)
stands_once m w t s = (
  (task_of m t).cpu,
  (runnable_fit m t w s).cpu,
  w.rows t (task_of m t).cpu ∙ standing_home (task_of m t) (task_of m t).cpu s refl,
  λ d n. w.rows t d ∙ standing_away (task_of m t) d (λ e. n (sym e)),
)

-- the steps from any well-formed machine
pub settled_well_formed : (m : Machine) → WellFormed m → WellFormed (settle_all m).machine
settled_well_formed m w = run_well_formed w (settle_run m.n m)

pub settled_demand : (m : Machine) → WellFormed m → Demand3 m (length (settle_all m).log) (settle_all m).log (settle_all m).machine
settled_demand m w =
    let r = settle_run m.n m in
    let e : WellFormed (settle_all m).machine = settled_well_formed m w in
    let ends : next (settle_all m).machine ≡ none = settle_ends m.n m w (omega arith) in
    record {
      few = omega (arith, run_few w r);
      no_cpu_twice = run_receivers w r;
      no_task_twice = run_movers w r;
      falling = run_falling w r;
      counted = (refl, run_steps r ends);
      closing = nothing_movable (settle_all m).machine e ends;
      stands = stands_once (settle_all m).machine e;
    }

-- an accepted event: its own effect, then the steps
pub demand3 : (m : Machine) (e : Event) → WellFormed m → refusal m e ≡ 0 → Demand3 (effect e m) (outcome m e).moves (outcome m e).log (outcome m e).machine
demand3 m e w h =
    subst (λ (o : Outcome). Demand3 (effect e m) o.moves o.log o.machine) (sym (outcome_accepted m e h)) (settled_demand (effect e m) (keep_effect m e w h))

-- any event, accepted or refused, keeps the machine well-formed
pub keep_outcome : (m : Machine) (e : Event) → WellFormed m → WellFormed (outcome m e).machine
unfolding outcome
keep_outcome m e w = go (refusal m e) refl
  where
    go : (r : ℕ) → refusal m e ≡ r → WellFormed (answered r e m).machine
    go zero h = settled_well_formed (effect e m) (keep_effect m e w h)
    go (suc r) h = w

-- so is every machine that events reach from a fresh one
pub keep_played : (es : List Event) (m : Machine) → WellFormed m → WellFormed (played es m)
unfolding played
keep_played [] m w = w
keep_played (e ∷ es) m w = keep_played es (outcome m e).machine (keep_outcome m e w)

pub reached_well_formed : (n full : ℕ) (es : List Event) → 1 ≤ n → n ≤ cpu_places → 1 ≤ full → full ≤ longest_slice → WellFormed (played es (fresh n full))
reached_well_formed n full es h l low high = keep_played es (fresh n full) (fresh_well_formed n full h l low high)
