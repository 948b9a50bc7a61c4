-- A batch of a reading: its first events, and where the rest begins or how it ends.
-- Assumes nothing.
use Rattle.std.specs.Prelude.{◌≡◌, Option, Some, None, List, [], ◌∷◌, ℕ, ◌-◌, ◌≤◌, ◌<◌, take}
use Rattle.recording.specs.declared.Event.{Event}
use Rattle.recording.specs.declared.Ending.{Ending}
use Rattle.recording.specs.Reading.{Reading, ends, before, read_from}
use Rattle.decoding.specs.declared.batch.Batch.{Batch}

-- events, and then a reading
unfoldable pub follows : List Event → Reading → Reading
follows [] x = x
follows (e ∷ es) x = before e (follows es x)

-- so many events at most
abbrev pub batch_places : ℕ
batch_places = 64

abbrev pub events_of : Batch → List Event
events_of b = take b.count b.events

-- where the batch ends: the recording ends there too, or there is a reading that goes on
abbrev pub ended : ℕ → Reading → Option Ending → Reading
ended p x (Some e) = ends e p
ended p x None = x

abbrev pub rest_of : ℕ → List ℕ → Batch → Reading
rest_of room bs b = ended b.place (read_from (room - b.count) b.place bs) b.ending

-- b has the first events of what is read from place p on, where at most `room` records may come
pub record Filled (room p : ℕ) (bs : List ℕ) (b : Batch) : Type 0 where
  pub reads : read_from room p bs ≡ follows (events_of b) (rest_of room bs b)
  pub few : b.count ≤ batch_places
  pub fit : b.count ≤ room
  pub some : b.ending ≡ None → 0 < b.count
