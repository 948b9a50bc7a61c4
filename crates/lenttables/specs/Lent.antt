-- The ten tables that a caller lends, put together with the full slice and the online mask, and their lengths.
-- Assumes nothing.
use Rattle.std.specs.Prelude.{Bool, ◌&&◌, ℕ, ◌*◌, eqb}
use Rattle.cpupri.specs.Found.{size_fits}
use Rattle.rules.specs.Machine.{task_places}
use Rattle.rules.specs.Tables.{log_places}
use Rattle.rules.specs.WellFormed.{slice_fits}
pub use Rattle.rules.specs.Tables.{lent}

-- `lengthsFit` of a full slice and tables of these lengths
unfoldable pub sizes_fit : ℕ → ℕ → ℕ → ℕ → ℕ → ℕ → ℕ → ℕ → ℕ → ℕ → ℕ → ℕ → Bool
sizes_fit n full state policy prio cpu slice mask rows counts flags log =
    size_fits n && slice_fits full && eqb state task_places && eqb policy task_places && eqb prio task_places && eqb cpu task_places && eqb slice task_places
    && eqb mask task_places && eqb rows (task_places * n) && eqb counts n && eqb flags n && eqb log log_places
