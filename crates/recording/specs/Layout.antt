-- The bodies of records: their lengths, and the numbers in them. Numbers are low byte first.
-- Assumes nothing.
use Rattle.std.specs.Prelude.{List, [], ◌∷◌, ℕ, zero, suc, ◌+◌, ◌*◌, take, drop}
use Rattle.std.proofs.Math.Option.{Option, none}
use Rattle.std.proofs.Math.ListN.{get_elem?}
use Rattle.recording.specs.declared.Event.{Event}
use Rattle.recording.specs.declared.Layout.{Layout}

-- the number that bytes are
unfoldable pub little : List ℕ → ℕ
little [] = 0
little (b ∷ bs) = b + 256 * little bs

-- the number in w bytes from place i on
abbrev pub number : ℕ → ℕ → List ℕ → ℕ
number i w bs = little (take w (drop i bs))

-- ---- widths by kind

-- a body opens with the stamp
abbrev pub stamp_width : ℕ
stamp_width = 4

abbrev pub widths : ℕ → ℕ → ℕ → ℕ → Layout
widths w a b m = record { who = w; a = a; b = b; mask = m }

-- a task number alone, a CPU number alone
abbrev pub of_task : Layout
of_task = widths 2 0 0 0

abbrev pub of_cpu : Layout
of_cpu = widths 1 0 0 0

-- by kind, from 1: add; remove, wake, sleep; priority; mask; tick, yield; ordinary work; offline, online
abbrev pub layouts : List Layout
layouts =
    widths 2 1 1 8 ∷ of_task ∷ of_task ∷ of_task ∷ widths 2 0 1 0 ∷ widths 2 0 0 8 ∷ of_cpu ∷ of_cpu ∷ widths 1 0 1 0 ∷ of_cpu ∷ of_cpu ∷ []

-- none: an unknown kind; a later 0 or 12 is one
abbrev pub layout_of : ℕ → Option Layout
layout_of zero = none
layout_of (suc i) = get_elem? layouts i

abbrev pub body_length : Layout → ℕ
body_length l = stamp_width + l.who + l.a + l.b + l.mask

-- ---- the event in a body

-- document 01's numbers, and the stamp
abbrev pub recorded : ℕ → ℕ → ℕ → ℕ → ℕ → ℕ → Event
recorded kind who a b k stamp = record { kind = kind; who = who; a = a; b = b; mask = k; stamp = stamp }

abbrev pub decoded : ℕ → Layout → List ℕ → Event
decoded k l bs =
    let w : ℕ = stamp_width in
    let a : ℕ = w + l.who in
    let b : ℕ = a + l.a in
    let m : ℕ = b + l.b in
    recorded k (number w l.who bs) (number a l.a bs) (number b l.b bs) (number m l.mask bs) (number 0 stamp_width bs)
