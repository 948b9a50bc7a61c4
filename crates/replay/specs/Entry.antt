-- The replay as a C caller has it: the ending is a number, the record is lent as four tables, and the times as a table of any length.
-- Assumes nothing.
use Rattle.std.specs.Prelude.{cond, ◌&&◌, List, ℕ, eqb, replicate}
use Rattle.levels.specs.declared.record.Record.{Record}
use Rattle.rules.specs.Machine.{cpu_places}
use Rattle.rules.specs.Refusals.{bad_size}
use Rattle.rules.specs.Tables.{Tables}
use Rattle.lentrecord.specs.Lent.{lent_fits}
use Rattle.recording.specs.declared.Ending.{Ending}
use Rattle.recording.specs.declared.Ending.TheVariants.{Whole, Cut, Stopped}
use Rattle.recording.specs.Replay.{Replayed, with_slice, replayed}

abbrev pub ending_number : Ending → ℕ
ending_number Whole = 0
ending_number Cut = 1
ending_number Stopped = 2

pub record Told : Type 0 where
  pub answer : ℕ
  pub ending : ℕ
  pub place : ℕ
  pub n : ℕ
  pub times : List ℕ
  pub moves : ℕ
  pub refused : ℕ
  pub cpupri : Record
  pub tables : Tables

abbrev pub told : ℕ → ℕ → ℕ → ℕ → List ℕ → ℕ → ℕ → Record → Tables → Told
told a x p n ts k f r s = record { answer = a; ending = x; place = p; n = n; times = ts; moves = k; refused = f; cpupri = r; tables = s }

abbrev pub told_of : Replayed → Told
told_of o = told o.answer (ending_number o.ending) o.place o.n o.times o.moves o.refused o.cpupri o.tables

-- refused with 1: all that is reported is 0 but the ending, also each of so many times
abbrev pub untold : Record → Tables → ℕ → Told
untold r s places = told bad_size (ending_number Stopped) 0 0 (replicate places 0) 0 0 r (with_slice 0 s)

unfoldable pub lent_replayed : List ℕ → Record → Tables → ℕ → Told
lent_replayed bs r s places = cond (lent_fits r && eqb places cpu_places) (told_of (replayed bs r s)) (untold r s places)
