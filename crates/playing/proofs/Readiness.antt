-- An event leaves tables that pass the check and are settled, and a replay that has room for one event more has it for the others after it.
-- Assumes nothing.
use Rattle.std.proofs.Common.{◌≡◌, ℕ, zero, suc, ◌-◌, ◌<◌, ◌≤◌, Bool, true, false, not, eqb, length, sym, refl, ◌∙◌, subst, arith}
use Rattle.bits.specs.Bit.{digit}
use Rattle.levels.specs.declared.record.Record.{Record}
use Rattle.rules.specs.Demand3.{online_cpus, most_moves}
use Rattle.rules.specs.Machine.{cpu_places, Machine}
use Rattle.rules.specs.Events.{effect}
use Rattle.rules.specs.Events as events
use Rattle.rules.specs.Tables.{Tables, machine_of}
use Rattle.rules.specs.Entry.{Result, checked, event_answer, handled}
use Rattle.laws.proofs.Entry.{checked_good, good_checked, handled_refused, handled_good, start_n}
use Rattle.laws.proofs.LentDemand3.{handled_lent}
use Rattle.laws.proofs.Runs.{online_most}
use Rattle.laws.proofs.Settled.{still_handled}
use Rattle.recording.specs.declared.Event.{Event}
use Rattle.recording.specs.Replay.{Run, elapsed, asked, answered, next}
use Rattle.recording.proofs.Times.{length_accrued, accrued_most, elapsed_small}
use Rattle.playing.specs.Ready.{Ready}

-- what comes back from an event on good tables is good, with at most n - 1 moves
abbrev pub Kept : ℕ → Result → Type 0
Kept n o = (checked n o.cpupri o.tables ≡ 0) × (o.moves ≤ n - 1)

pub kept_good : (n : ℕ) (r : Record) (s : Tables) (e : events.Event) → checked n r s ≡ 0 → Kept n (handled n r s e)
kept_good n r s e h = go (event_answer n r s e) refl
  where
    go : (a : ℕ) → event_answer n r s e ≡ a → Kept n (handled n r s e)
    go zero q =
        let start : Machine = effect e (machine_of n s) in
        let few : (handled n r s e).moves ≤ most_moves (length (online_cpus start)) = (handled_lent n r s e q).few in
        let most : length (online_cpus start) ≤ start.n = online_most start in
        let size : start.n ≡ n = start_n n r s e q in
        (good_checked n (handled n r s e).cpupri (handled n r s e).tables (handled_good n r s e q), omega (arith, few, most, size))
    go (suc a) q = subst (Kept n) (sym (handled_refused n r s e a q)) (h, omega arith)

pub few_places : (n : ℕ) (r : Record) (s : Tables) (e : events.Event) → checked n r s ≡ 0 → (handled n r s e).moves < cpu_places
few_places n r s e h =
    let size : n ≤ cpu_places = (checked_good n r s h).machine.shape.cpus in
    let few : (handled n r s e).moves ≤ n - 1 = (kept_good n r s e h).1 in
    omega (arith, few, size)

digit_most : (b : Bool) → digit b ≤ 1
digit_most true = omega arith
digit_most false = omega arith

-- room for fewer
pub ready_less : (n few left : ℕ) (u : Run) → few ≤ left → Ready n left u → Ready n few u
ready_less n few left u l r =
    record {
      good = r.good;
      still = r.still;
      places = r.places;
      times = λ c. let z = r.times c in omega (arith, z, l);
      moves = let z = r.moves in omega (arith, z, l);
      refused = let z = r.refused in omega (arith, z, l);
    }

pub ready_one : (n left : ℕ) (u : Run) → Ready n (suc left) u → Ready n 1 u
ready_one n left u r = ready_less n 1 (suc left) u (omega arith) r

pub ready_next : (n left : ℕ) (e : Event) (u : Run) → Ready n (suc left) u → Ready n left (next n e u)
ready_next n left e u r =
    let o : Result = answered n e u in
    let d : ℕ = elapsed u.last e.stamp in
    record {
      good = (kept_good n u.cpupri u.tables (asked e) r.good).0;
      still = still_handled n u.cpupri u.tables (asked e) r.still;
      places = length_accrued d u.tables.counts u.times ∙ r.places;
      times = λ c.
          let most = accrued_most d u.tables.counts u.times c in
          let z = r.times c in
          omega (arith, most, z, elapsed_small u.last e.stamp);
      moves = let z = r.moves in let few = few_places n u.cpupri u.tables (asked e) r.good in omega (arith, z, few);
      refused = let z = r.refused in let one = digit_most (not (eqb o.answer 0)) in omega (arith, z, one);
    }
