-- The time that is added in a turn.
-- Assumes nothing.
use mathlib.Core.Path.{◌≡◌, refl, ap, ◌∙◌}
use mathlib.Core.Bool.{Bool, true, false, cond}
use mathlib.Core.List.{List, [], ◌∷◌}
use Rattle.std.specs.Prelude.{Ok, Err}
use Prim.Native.Nat.{ℕ, zero, suc, ◌+◌, ◌≤◌, ◌<◌, ◌^◌}
use native.Mathlib.Omega.{arith}
use lib.Dec.{eqb}
use lib.ListN.{length, get_or, replicate, length-replicate}
use Rattle.levels.specs.declared.record.Record.{Record}
use Rattle.rules.specs.Machine.{cpu_places}
use Rattle.rules.specs.Refusals.{bad_size}
use Rattle.rules.specs.Tables.{Tables}
use Rattle.rules.specs.Entry.{made}
use Rattle.recording.specs.declared.Event.{Event}
use Rattle.recording.specs.declared.Ending.TheVariants.{Stopped}
use Rattle.recording.specs.Reading.{First, first_of, reading}
use Rattle.recording.specs.Replay.{Run, elapsed, accrued, next, runs, begun, first_stamp, part_of, lent_for64, unplayed, played, replayed}

pub length_accrued : (d : ℕ) (ks ts : List ℕ) → length (accrued d ks ts) ≡ length ts
unfolding accrued
length_accrued d [] ts = refl
length_accrued d (k ∷ ks) [] = refl
length_accrued d (k ∷ ks) (t ∷ ts) = ap suc (length_accrued d ks ts)

cond_le : (b : Bool) (t d : ℕ) → t + cond b 0 d ≤ t + d
cond_le true t d = omega arith
cond_le false t d = omega arith

-- no CPU gains more than d
pub accrued_most : (d : ℕ) (ks ts : List ℕ) (c : ℕ) → get_or (accrued d ks ts) c 0 ≤ get_or ts c 0 + d
unfolding accrued
accrued_most d [] ts c = omega arith
accrued_most d (k ∷ ks) [] c = omega arith
accrued_most d (k ∷ ks) (t ∷ ts) zero = cond_le (eqb k 0) t d
accrued_most d (k ∷ ks) (t ∷ ts) (suc c) = accrued_most d ks ts c

pub elapsed_small : (s t : ℕ) → elapsed s t < 2 ^ 32
elapsed_small s t = omega arith

-- a CPU without a task gains nothing: so what the first stamp is compared with does not matter
pub accrued_none : (d n : ℕ) (ts : List ℕ) → accrued d (replicate n 0) ts ≡ ts
unfolding accrued
accrued_none d zero ts = refl
accrued_none d (suc n) [] = refl
accrued_none d (suc n) (t ∷ ts) = λ i. add_none t i ∷ accrued_none d n ts i
  where
    add_none : (t : ℕ) → t + 0 ≡ t
    add_none t = omega arith

-- ---- a replay reports 64 times

runs_places : (n : ℕ) (es : List Event) (u : Run) → length (runs n es u).times ≡ length u.times
unfolding runs
runs_places n [] u = refl
runs_places n (e ∷ es) u = runs_places n es (next n e u) ∙ length_accrued (elapsed u.last e.stamp) u.tables.counts u.times

pub replayed_places : (bs : List ℕ) (r : Record) (s : Tables) → length (replayed bs r s).times ≡ cpu_places
unfolding replayed
replayed_places bs r s = go (lent_for64 s) (first_of bs)
  where
    zeros : length {A = ℕ} (replicate cpu_places 0) ≡ cpu_places
    zeros = length-replicate {A = ℕ} cpu_places 0

    go : (b : Bool) (f : First) → length (cond b (played bs r s f) (unplayed bad_size Stopped r s)).times ≡ cpu_places
    go false f = zeros
    go true (Err x) = zeros
    go true (Ok o) =
        let es : List Event = (reading o.end bs).events in
        runs_places o.n es (begun (made o.n r (part_of o.n o.full s)) (first_stamp es)) ∙ zeros
