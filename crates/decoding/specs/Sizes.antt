-- The two numbers of a first record, each alone; or how a recording without it ends.
-- Assumes nothing.
use Rattle.std.specs.Prelude.{cond, Result, Ok, Err, List, [], ◌∷◌, ℕ, ltb, length}
use Rattle.cpupri.specs.Found.{size_fits}
use Rattle.rules.specs.WellFormed.{slice_fits}
use Rattle.recording.specs.declared.Ending.{Ending}
use Rattle.recording.specs.declared.Ending.TheVariants.{Cut, Stopped}
use Rattle.recording.specs.Layout.{number}

-- N, at the front
abbrev pub size_in : List ℕ → Result ℕ Ending
size_in [] = Err Cut
size_in (n ∷ bs) = cond (size_fits n) (Ok n) (Err Stopped)

-- the full slice, at the front
abbrev pub slice_in : List ℕ → Result ℕ Ending
slice_in bs = cond (ltb (length bs) 2) (Err Cut) (cond (slice_fits (number 0 2 bs)) (Ok (number 0 2 bs)) (Err Stopped))
