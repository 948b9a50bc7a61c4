-- A replay event by event: demand 3 on the way.
-- Assumes nothing.
use Rattle.std.specs.Prelude.{◌≡◌, ℕ, ◌+◌, ◌-◌, ◌*◌, ◌<◌, ◌≤◌, List, [], ◌∷◌, length, take, ◌==◌, slice_index_or}
use Rattle.bits.specs.Bit.{digit}
use Rattle.rules.specs.Entry.{checked}
use Rattle.rules.specs.Events.{effect}
use Rattle.rules.specs.LentDemand3.{LentDemand3}
use Rattle.rules.specs.Tables.{machine_of}
use Rattle.laws.specs.Still.{Still}
use Rattle.recording.specs.declared.Event.{Event}
use Rattle.recording.specs.Replay.{Run, asked, answered, next, runs}
use Rattle.playing.specs.Ready.{no_event}

-- an event that finds the run u leaves tables that are well-formed and settled; if it is accepted, demand 3 holds of them
pub record After (n : ℕ) (e : Event) (u : Run) : Type 0 where
  pub good : checked n (next n e u).cpupri (next n e u).tables ≡ 0
  pub still : Still n (next n e u).tables
  pub demand : (answered n e u).answer ≡ 0
      → LentDemand3 n (answered n e u).moves (effect (asked e) (machine_of n u.tables)) (next n e u).tables

-- how many of the events are accepted
unfoldable pub accepted : ℕ → List Event → Run → ℕ
accepted n [] u = 0
accepted n (e ∷ es) u = digit ((answered n e u).answer == 0) + accepted n es (next n e u)

pub record Way (n : ℕ) (es : List Event) (u : Run) : Type 0 where
  -- of every event
  pub each : (k : ℕ) → k < length es → After n (slice_index_or es k no_event) (runs n (take k es) u)
  -- every one is accepted or refused
  pub counted : u.refused + length es ≡ (runs n es u).refused + accepted n es u
  -- the moves that they add are at most N - 1 for each that is accepted
  pub few : (runs n es u).moves ≤ u.moves + accepted n es u * (n - 1)
