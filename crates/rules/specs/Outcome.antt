-- What an event gives: the answer, the number of moves, the machine and the log.
-- Assumes nothing.
use Rattle.std.specs.Prelude.{List, [], ◌∷◌, ◌++◌, ℕ, zero, suc, length, drop}
use Rattle.rules.specs.Machine.{Machine}
use Rattle.rules.specs.Events.{Event, effect}
use Rattle.rules.specs.Refusals.{refusal}
use Rattle.rules.specs.Migration.{Move, Settled, settle_all}

pub record Outcome : Type 0 where
  pub answer : ℕ
  pub moves : ℕ
  pub machine : Machine
  pub log : List Move

-- a refusal reports 0 moves and changes nothing
abbrev pub refused : ℕ → Machine → Outcome
refused r m = record { answer = r; moves = 0; machine = m; log = [] }

-- accepted is 0 with the number of moves
abbrev pub concluded : Settled → Outcome
concluded s = record { answer = 0; moves = length s.log; machine = s.machine; log = s.log }

-- an accepted event: its own effect, then the steps
abbrev pub accepted : Event → Machine → Outcome
accepted e m = concluded (settle_all (effect e m))

abbrev pub answered : ℕ → Event → Machine → Outcome
answered zero e m = accepted e m
answered (suc r) e m = refused (suc r) m

-- an event on a well-formed machine
unfoldable pub outcome : Machine → Event → Outcome
outcome m e = answered (refusal m e) e m

-- ---- the move log as numbers

-- the numbers of a log entry: task, from, to, the level of the destination before the move
abbrev pub entry_numbers : Move → List ℕ
entry_numbers v = v.task ∷ v.origin ∷ v.target ∷ v.displaced ∷ []

-- how many they are
abbrev pub entry_width : ℕ
entry_width = 4

-- as many entries as an event can have moves on 64 CPUs
abbrev pub log_entries : ℕ
log_entries = 63

unfoldable pub log_numbers : List Move → List ℕ
log_numbers [] = []
log_numbers (v ∷ vs) = entry_numbers v ++ log_numbers vs

-- the log table after the moves vs: entries from their number on stay as they were
abbrev pub logged : List Move → List ℕ → List ℕ
logged vs old = log_numbers vs ++ drop (length (log_numbers vs)) old
