-- What a replay relies on between two events: tables that pass the check and are settled, and room in the totals for the events that are left.
-- Assumes nothing.
use Rattle.std.specs.Prelude.{◌≡◌, ℕ, ◌+◌, ◌*◌, ◌^◌, ◌<◌, length, slice_index}
use Rattle.rules.specs.Machine.{cpu_places}
use Rattle.rules.specs.Entry.{checked}
use Rattle.laws.specs.Still.{Still}
use Rattle.recording.specs.declared.Course.{Course}
use Rattle.recording.specs.declared.Event.{Event}
use Rattle.recording.specs.Layout.{recorded}
use Rattle.recording.specs.Replay.{Run}

-- what stands for an event where there is none
abbrev pub no_event : Event
no_event = recorded 0 0 0 0 0 0

-- what the code carries along of a run
abbrev pub course_of : Run → Course
course_of u = record { full = u.tables.full; moves = u.moves; refused = u.refused; last = u.last }

pub record Ready (n left : ℕ) (u : Run) : Type 0 where
  pub good : checked n u.cpupri u.tables ≡ 0
  pub still : Still n u.tables
  pub places : length u.times ≡ cpu_places
  pub times : (c : ℕ) → slice_index u.times c + 2 ^ 32 * left < 2 ^ 64
  pub moves : u.moves + cpu_places * left < 2 ^ 64
  pub refused : u.refused + left < 2 ^ 32
