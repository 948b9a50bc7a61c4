-- Reading a recording: its first record, then the events, up to where it ends, is cut, or has a record that stops the replay.
-- Assumes nothing.
use Rattle.std.specs.Prelude.{cond, Result, Ok, Err, List, [], ◌∷◌, ℕ, zero, suc, ◌+◌, ◌-◌, eqb, ltb, length, drop}
use Rattle.std.proofs.Math.Option.{Option, none, some}
use Rattle.cpupri.specs.Found.{size_fits}
use Rattle.rules.specs.WellFormed.{slice_fits}
use Rattle.recording.specs.declared.Event.{Event}
use Rattle.recording.specs.declared.Layout.{Layout}
use Rattle.recording.specs.declared.Ending.{Ending}
use Rattle.recording.specs.declared.Ending.TheVariants.{Whole, Cut, Stopped}
use Rattle.recording.specs.declared.Held.{Held}
use Rattle.recording.specs.declared.Opening.{Opening}
use Rattle.recording.specs.Layout.{layout_of, body_length, number, decoded}

-- ---- the first record: N, and the full slice where its kind names one

-- kind 0: one byte, N
abbrev pub plain_kind : ℕ
plain_kind = 0

-- kind 12: three bytes, N and then the full slice
abbrev pub sliced_kind : ℕ
sliced_kind = 12

-- the full slice where none is named
abbrev pub recorded_slice : ℕ
recorded_slice = 100

-- what it opens; or else how the recording ends: cut, or stopped
abbrev pub First : Type 0
First = Result Opening Ending

abbrev pub opens : ℕ → ℕ → ℕ → First
opens n full p = Ok (record { n = n; full = full; end = p })

-- N is known, and may be bad before it is seen whether a slice is there
abbrev pub sized : List ℕ → (ℕ → List ℕ → First) → First
sized [] rest = Err Cut
sized (n ∷ bs) rest = cond (size_fits n) (rest n bs) (Err Stopped)

abbrev pub unnamed : ℕ → List ℕ → First
unnamed n bs = opens n recorded_slice 2

abbrev pub named : ℕ → List ℕ → First
named n bs = cond (ltb (length bs) 2) (Err Cut) (cond (slice_fits (number 0 2 bs)) (opens n (number 0 2 bs) 4) (Err Stopped))

abbrev pub first_by : ℕ → List ℕ → First
first_by k bs = cond (eqb k plain_kind) (sized bs unnamed) (cond (eqb k sliced_kind) (sized bs named) (Err Stopped))

unfoldable pub first_of : List ℕ → First
first_of [] = Err Cut
first_of (k ∷ bs) = first_by k bs

-- ---- an event record

-- an event, with the place behind its record; or how the recording ends
abbrev pub Item : Type 0
Item = Result Held Ending

abbrev pub holds : Event → ℕ → Item
holds e q = Ok (record { event = e; end = q })

-- of kind k, with its body at the front of bs: an unknown kind stops the replay, before it is seen whether a body is whole
abbrev pub bodied : ℕ → ℕ → List ℕ → Option Layout → Item
bodied p k bs none = Err Stopped
bodied p k bs (some l) = cond (ltb (length bs) (body_length l)) (Err Cut) (holds (decoded k l bs) (p + suc (body_length l)))

-- what stands at place p, with the bytes from there on
abbrev pub item_in : ℕ → List ℕ → Item
item_in p [] = Err Whole
item_in p (k ∷ bs) = bodied p k bs (layout_of k)

-- where no record more may come, any byte stops the replay
abbrev pub no_item : List ℕ → Item
no_item [] = Err Whole
no_item (k ∷ bs) = Err Stopped

-- what stands at place p, where so many records more may come
unfoldable pub item_at : ℕ → ℕ → List ℕ → Item
item_at zero p bs = no_item (drop p bs)
item_at (suc room) p bs = item_in p (drop p bs)

-- ---- all of them

-- the first one included
abbrev pub most_records : ℕ
most_records = 65536

-- behind the first one
abbrev pub most_events : ℕ
most_events = most_records - 1

-- The events of the whole records; how the recording ends; and the place where those records end, which is also the place of the
-- first byte of a record that stops the replay or is cut.
pub record Reading : Type 0 where
  pub events : List Event
  pub ending : Ending
  pub place : ℕ

abbrev pub ends : Ending → ℕ → Reading
ends x p = record { events = []; ending = x; place = p }

abbrev pub before : Event → Reading → Reading
before e r = record { events = e ∷ r.events; ending = r.ending; place = r.place }

abbrev pub goes_on : ℕ → (ℕ → Reading) → Item → Reading
goes_on p rest (Err x) = ends x p
goes_on p rest (Ok h) = before h.event (rest h.end)

-- from place p on, at most so many records
unfoldable pub read_from : ℕ → ℕ → List ℕ → Reading
read_from zero p bs = goes_on p (ends Stopped) (item_at zero p bs)
read_from (suc room) p bs = goes_on p (λ q. read_from room q bs) (item_at (suc room) p bs)

-- all that follows the first record, which ends at place p
abbrev pub reading : ℕ → List ℕ → Reading
reading p bs = read_from most_events p bs
