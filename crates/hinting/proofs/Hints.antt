-- Candidates before a step give those after it.
-- Assumes nothing.
use mathlib.Core.Path.{◌≡◌, refl, sym, ap, subst, subst₂}
use mathlib.Core.Bool.{Bool, true, false, cond}
use mathlib.Core.Option.{Option, none, some}
use Prim.Native.Nat.{ℕ, ◌<◌}
use native.Mathlib.Omega.{arith}
use borrow.Author.Tests.{ne_eqb}
use Rattle.rules.specs.Machine.{Machine, row, running, task_places}
use Rattle.rules.specs.Migration.{Move, next, migrate}
use Rattle.rules.specs.Tables.{nothing}
use Rattle.rules.specs.WellFormed.{WellFormed}
use Rattle.laws.specs.Limited.{Limited, holds, displaced, or_else, or_nothing}
use Rattle.laws.proofs.Bools.{both}
use Rattle.laws.proofs.Apart.{in_row, runnable_place}
use Rattle.laws.proofs.Choice.{chosen}
use Rattle.laws.proofs.Limited.{first_in, limited_step, limited_none}
use Rattle.runqueue.specs.Row.{task_in}
use Rattle.std.specs.Prelude as code
use Rattle.std.specs.Prelude.{Some, None, is_none}
use Rattle.hinting.specs.Hinted.{ruled, coded, candidates, Among, nobody_in, candidates_after}
use Rattle.hinting.specs.declared.hint.Candidates.{Candidates}

-- ---- options of the code and of the rules

pub ruled_coded : {X : Type 0} (o : Option X) → ruled (coded o) ≡ o
ruled_coded none = refl
ruled_coded (some x) = refl

-- what a place holds
pub task_in_place : (o : Option ℕ) → ((t : ℕ) → o ≡ some t → t < task_places) → task_in (or_nothing o) ≡ coded o
task_in_place none h = refl
task_in_place (some t) h = let small : t < task_places = h t refl in ap (λ (b : Bool). cond b None (Some t)) (ne_eqb t nothing (λ e. omega arith))

-- who runs is a task
pub runs_task : (m : Machine) → WellFormed m → (c t : ℕ) → running m c ≡ some t → t < task_places
runs_task m w c t e = runnable_place m t w (in_row m t c w (first_in t (row m c) e)).0

-- ---- after a step

module _ (m : Machine) (w : WellFormed m) (v : Move) (n : next m ≡ some v) where
  -- the task that is displaced, as the rows show it
  pub displaced_is : task_in (or_nothing (displaced m v)) ≡ coded (displaced m v)
  displaced_is = task_in_place (displaced m v) (λ t e. runs_task m w v.target t e)

  pub among_after : (few : Candidates) → Among m few → Among (migrate v m) (candidates_after few v.task v.target (displaced m v))
  among_after few l = go (holds (ruled few.fallen) v.target) (limited_step m (ruled few.fallen) (ruled few.new) w v (chosen m v w n) l)
    where
      out : Option ℕ
      out = displaced m v

      kept : Option ℕ
      kept = or_else v.task (ruled few.new) out

      go : (b : Bool) → Limited (migrate v m) (cond b none (ruled few.fallen)) (cond b kept out)
          → Among (migrate v m) (cond b (candidates none kept) (candidates (ruled few.fallen) out))
      go true s = subst (λ (o : Option ℕ). Limited (migrate v m) none o) (sym (ruled_coded kept)) s
      go false s =
          subst₂ (λ (f o : Option ℕ). Limited (migrate v m) f o) (sym (ruled_coded (ruled few.fallen))) (sym (ruled_coded out)) s

-- ---- nobody can move

pub nobody_moves : (m : Machine) → WellFormed m → (few : Candidates) → Among m few → nobody_in few ≡ true → next m ≡ none
nobody_moves m w few l e =
    let b : (is_none few.fallen ≡ true) × (is_none few.new ≡ true) = both (is_none few.fallen) (is_none few.new) e in
    limited_none m w (subst₂ (λ (c t : Option ℕ). Limited m c t) (absent few.fallen b.0) (absent few.new b.1) l)
  where
    absent : (o : code.Option ℕ) → is_none o ≡ true → ruled o ≡ none
    absent None h = refl
    absent (Some x) h = absurd (let bad : ◌≡◌ {A = ℕ} 0 1 = ap (λ (b : Bool). cond b 0 1) (sym h) in omega arith)
