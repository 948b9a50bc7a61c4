-- What the passes over all rows and over the columns look for: W3 to W6 of every stored row, and W1, W2 and the rest of W4 of the columns.
-- Assumes nothing.
use Rattle.std.specs.Prelude.{◌≡◌, Bool, true, cond, ◌&&◌, ◌||◌, List, ℕ, zero, suc, ◌+◌, ◌*◌, ◌≤◌, ◌<◌, eqb, get_or, take, drop}
use Rattle.bits.specs.Bit.{bit}
use Rattle.rules.specs.Lists.{occ}
use Rattle.rules.specs.Machine.{Task, task_places, free, asleep, runnable, invalid}
use Rattle.rules.specs.WellFormed.{zeros, fits}
use Rattle.rowcheck.specs.Placed.{marked, Row}

-- ---- all rows

-- the places of row c, and those in use
abbrev pub part : List ℕ → ℕ → List ℕ
part rows c = take task_places (drop (task_places * c) rows)

abbrev pub queue : List ℕ → List ℕ → ℕ → List ℕ
queue counts rows c = take (get_or counts c 0) (part rows c)

-- how often task u stands in the first k rows
unfoldable pub standings : List ℕ → List ℕ → ℕ → ℕ → ℕ
standings counts rows zero u = 0
standings counts rows (suc k) u = standings counts rows k u + occ u (queue counts rows k)

pub record Rows (n : ℕ) (state prio cpu rows counts flags : List ℕ) (online : ℕ) (levels : List ℕ) : Type 0 where
  pub row : (c : ℕ) → c < n
      → Row state prio cpu (part rows c) c (get_or counts c 0) (get_or flags c 0) (cond (bit online c) (get_or flags c 0) invalid) (get_or levels c 0)
  pub once : (u : ℕ) → standings counts rows n u ≤ 1

-- ---- the columns

abbrev pub task : ℕ → ℕ → ℕ → ℕ → ℕ → ℕ → Task
task state policy prio cpu slice mask = record { state = state; policy = policy; prio = prio; cpu = cpu; slice = slice; mask = mask }

abbrev pub task_at : List ℕ → List ℕ → List ℕ → List ℕ → List ℕ → List ℕ → ℕ → Task
task_at state policy prio cpu slice mask t =
    task (get_or state t 0) (get_or policy t 0) (get_or prio t 0) (get_or cpu t 0) (get_or slice t 0) (get_or mask t 0)

-- W2
unfoldable pub ranges_fit : ℕ → ℕ → ℕ → ℕ → ℕ → ℕ → ℕ → Bool
ranges_fit n full policy prio cpu slice mask = fits n full (task runnable policy prio cpu slice mask)

-- W1 and W2, and of a runnable task W4: it is placed, and its CPU is allowed and online
unfoldable pub sound_when : Bool → ℕ → ℕ → ℕ → Task → Bool
sound_when placed n full online τ =
    cond (eqb τ.state free) (zeros τ)
    (fits n full τ && (eqb τ.state asleep || (eqb τ.state runnable && placed && (bit τ.mask τ.cpu && bit online τ.cpu))))

abbrev pub Columns : ℕ → ℕ → ℕ → List ℕ → List ℕ → List ℕ → List ℕ → List ℕ → List ℕ → List ℕ → Type 0
Columns n full online state policy prio cpu slice mask marks =
    (t : ℕ) → t < task_places → sound_when (marked marks t) n full online (task_at state policy prio cpu slice mask t) ≡ true
