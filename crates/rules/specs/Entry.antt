-- The three public entries over what the caller lends: make a fresh machine, check, and event. Each gives its answer and all that it hands
-- back, on a refusal too.
-- Assumes nothing.
use Rattle.std.specs.Prelude.{◌≡◌, not, List, [], ◌∷◌, ℕ, zero, suc, ◌*◌, length, replicate}
use Rattle.cpupri.specs.Record.{record_of}
use Rattle.levels.specs.declared.record.Record.{Record}
use Rattle.rules.specs.Machine.{Machine, fresh, levels, task_places}
use Rattle.rules.specs.WellFormed.{WellFormed}
use Rattle.rules.specs.Events.{Event}
use Rattle.rules.specs.Refusals.{Check, first_failing, event_checks, bad_size, ill_formed}
use Rattle.rules.specs.Outcome.{Outcome, outcome, logged}
use Rattle.rules.specs.Tables.{Tables, machine_of, tables_of, lengths_fit, tables_fit, Stored, nothing, log_places}

-- what comes back
pub record Result : Type 0 where
  pub answer : ℕ
  pub moves : ℕ
  pub cpupri : Record
  pub tables : Tables

abbrev pub result_of : ℕ → ℕ → Record → Tables → Result
result_of a k r s = record { answer = a; moves = k; cpupri = r; tables = s }

-- refused, or nothing to change: all as it was lent
abbrev pub kept : ℕ → Record → Tables → Result
kept a r s = result_of a 0 r s

-- a machine written back, with its record
abbrev pub written : ℕ → Machine → List ℕ → Result
written k m log = result_of 0 k (record_of (levels m)) (tables_of m log)

-- ---- the checks before an event's own: 1, then 2

abbrev pub size_check : ℕ → Tables → Check
size_check n s = record { number = bad_size; fails = not (lengths_fit n s) }

abbrev pub form_check : ℕ → Record → Tables → Check
form_check n r s = record { number = ill_formed; fails = not (tables_fit n r s) }

-- W1 to W6 of what is lent, and its lengths: what `checked` tests, in the paper's words (proofs/Entry.antt)
pub record Good (n : ℕ) (r : Record) (s : Tables) : Type 0 where
  pub machine : WellFormed (machine_of n s)
  pub rows : length s.rows ≡ task_places * n
  pub counts : length s.counts ≡ n
  pub log : length s.log ≡ log_places
  pub stored : Stored s.counts s.rows
  pub levels : r ≡ record_of (levels (machine_of n s))

-- the public checker: 0, exactly if the tables are good, or 1 or 2
unfoldable pub checked : ℕ → Record → Tables → ℕ
checked n r s = first_failing (size_check n s ∷ form_check n r s ∷ [])

-- all checks of an event: 1, 2, then 3 to 12
abbrev pub all_checks : ℕ → Record → Tables → Event → List Check
all_checks n r s e = size_check n s ∷ form_check n r s ∷ event_checks (machine_of n s) e

-- the answer to an event is the first that fails
unfoldable pub event_answer : ℕ → Record → Tables → Event → ℕ
event_answer n r s e = first_failing (all_checks n r s e)

-- ---- make a fresh machine: refuses only with 1, and old contents do not matter

abbrev pub made_by : ℕ → ℕ → Record → Tables → Result
made_by zero n r s = written 0 (fresh n s.full) (replicate log_places nothing)
made_by (suc a) n r s = kept (suc a) r s

unfoldable pub made : ℕ → Record → Tables → Result
made n r s = made_by (first_failing (size_check n s ∷ [])) n r s

-- what the maker says of the full slice, by its answer: the number that it was given, or 0 on a refusal
abbrev pub handed_back : ℕ → ℕ → ℕ
handed_back zero full = full
handed_back (suc a) full = 0

-- ---- event

abbrev pub handled_by : ℕ → ℕ → Record → Tables → Event → Result
handled_by zero n r s e =
    let o : Outcome = outcome (machine_of n s) e in written o.moves o.machine (logged o.log s.log)
handled_by (suc a) n r s e = kept (suc a) r s

unfoldable pub handled : ℕ → Record → Tables → Event → Result
handled n r s e = handled_by (event_answer n r s e) n r s e
