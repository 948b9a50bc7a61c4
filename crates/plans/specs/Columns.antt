-- The six task columns with their lengths: states, policies, priorities, CPUs, slices, masks.
-- Assumes nothing.
use Rattle.std.specs.Prelude.{◌≡◌, List, ℕ, length}
use Rattle.rules.specs.Machine.{task_places}

pub record Sized (ss ps qs cs ls ks : List ℕ) : Type 0 where
  pub state : length ss ≡ task_places
  pub policy : length ps ≡ task_places
  pub prio : length qs ≡ task_places
  pub cpu : length cs ≡ task_places
  pub slice : length ls ≡ task_places
  pub mask : length ks ≡ task_places
