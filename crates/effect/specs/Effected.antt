-- An event's own effect on lent tables. Lists are named after the columns: ss states, ps policies, qs priorities, cs CPUs, ls slices, ks masks, flat rows,
-- ns counts, fs flags; `on` is the online mask and r the CPU-priority record.
-- Assumes nothing.
use Rattle.std.specs.Prelude.{◌≡◌, cond, Result, IfOk, List, ℕ, eqb}
use Rattle.std.proofs.Math.Option.{none}
use Rattle.levels.specs.declared.record.Record.{Record}
use Rattle.rules.specs.Machine.{Machine}
use Rattle.rules.specs.WellFormed.{WellFormed}
use Rattle.rules.specs.Events.{Event, effect}
use Rattle.rules.specs.Migration.{next}
use Rattle.rules.specs.Refusals.{refusal}
use Rattle.rules.specs.Answers.{answer_of}
use Rattle.rules.specs.declared.answer.Refusal.{Refusal}
use Rattle.carrying.specs.Holds.{Holds}
use Rattle.hinting.specs.Hinted.{Among}
use Rattle.hinting.specs.declared.hint.Candidates.{Candidates}

-- the tables of a well-formed machine
pub record Lends (m : Machine) (ss ps qs cs ls ks flat ns fs : List ℕ) (on : ℕ) (r : Record) : Type 0 where
  pub formed : WellFormed m
  pub holds : Holds m ss ps qs cs ls ks flat ns fs on r

-- what the event e, answered with o, leaves of it: refused, the same machine; else its own effect
pub record Effected (m : Machine) (e : Event) (o : Result Candidates Refusal) (ss ps qs cs ls ks flat ns fs : List ℕ) (on : ℕ) (r : Record) : Type 0 where
  pub answer : answer_of o ≡ refusal m e
  pub holds : Holds (cond (eqb (refusal m e) 0) (effect e m) m) ss ps qs cs ls ks flat ns fs on r
  -- if nobody could move before, nobody can but these
  pub few : IfOk o (λ f. next m ≡ none → Among (effect e m) f)
