-- What is known of the movable tasks: it says where to look for the mover.
-- Assumes nothing.
use Rattle.std.specs.Prelude.{Bool, cond, ◌&&◌, Option, Some, None, is_none, ℕ}
use Rattle.std.proofs.Math.Option as maybe
use Rattle.rules.specs.Machine.{Machine}
use Rattle.laws.specs.Limited.{Limited, holds, or_else}
use Rattle.hinting.specs.declared.hint.Candidates.{Candidates}

-- ---- options

-- an option of the code as one of the rules
abbrev pub ruled : {X : Type 0} → Option X → maybe.Option X
ruled None = maybe.none
ruled (Some x) = maybe.some x

-- and back
abbrev pub coded : {X : Type 0} → maybe.Option X → Option X
coded maybe.none = None
coded (maybe.some x) = Some x

-- ---- candidates

abbrev pub candidates : maybe.Option ℕ → maybe.Option ℕ → Candidates
candidates fallen new = record { fallen = coded fallen; new = coded new }

-- who is movable is among the candidates
abbrev pub Among : Machine → Candidates → Type 0
Among m few = Limited m (ruled few.fallen) (ruled few.new)

-- the hint is true of the machine
abbrev pub Hinted : Machine → Option Candidates → Type 0
Hinted m None = Unit {0}
Hinted m (Some few) = Among m few

-- these candidates, if the machine was settled before
abbrev pub known_if : Bool → Candidates → Option Candidates
known_if settled few = cond settled (Some few) None

-- there is no candidate
abbrev pub nobody_in : Candidates → Bool
nobody_in few = is_none few.fallen && is_none few.new

-- after a step of the task t to CPU d, which displaced the task x
abbrev pub candidates_after : Candidates → ℕ → ℕ → maybe.Option ℕ → Candidates
candidates_after few t d x =
    cond (holds (ruled few.fallen) d) (candidates maybe.none (or_else t (ruled few.new) x)) (candidates (ruled few.fallen) x)
