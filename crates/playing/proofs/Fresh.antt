-- A replay begins: a fresh machine is settled and has room for every recording, and before the first event no CPU has a task.
-- Assumes nothing.
use Rattle.std.proofs.Common.{◌≡◌, ℕ, zero, suc, true, List, [], ◌∷◌, get_or, replicate, sym, refl, ap, ◌∙◌, arith}
use lib.ListN.{length-replicate}
use Rattle.levels.specs.declared.record.Record.{Record}
use Rattle.rules.specs.Machine.{fresh, cpu_places}
use Rattle.rules.specs.Migration as migration
use Rattle.rules.specs.Tables.{Tables, machine_of, lengths_fit, nothing, log_places, row_counts}
use Rattle.rules.specs.Entry.{Result, made}
use Rattle.rules.specs.WellFormed.{WellFormed, Shape}
use Rattle.laws.specs.Still.{Still}
use Rattle.laws.proofs.Effects.{fresh_well_formed}
use Rattle.laws.proofs.Entry.{lengths_shape, good_checked, made_fresh, made_good, written_machine}
use Rattle.laws.proofs.Settled.{fresh_settled}
use Rattle.recording.specs.declared.Event.{Event}
use Rattle.recording.specs.Reading.{most_events}
use Rattle.recording.specs.Replay.{Run, run, elapsed, accrued, next, runs, first_stamp, begun}
use Rattle.recording.proofs.Times.{accrued_none}
use Rattle.playing.specs.Ready.{Ready}

zeros : (n c : ℕ) → get_or {A = ℕ} (replicate n 0) c 0 ≡ 0
zeros zero c = refl
zeros (suc n) zero = refl
zeros (suc n) (suc c) = zeros n c

no_tasks : (n : ℕ) → row_counts (replicate n []) ≡ replicate n 0
no_tasks zero = refl
no_tasks (suc n) = ap (λ (ks : List ℕ). 0 ∷ ks) (no_tasks n)

module _ (n : ℕ) (r : Record) (s : Tables) (h : lengths_fit n s ≡ true) where
  shape : Shape (machine_of n s)
  shape = (lengths_shape n s h).0

  well : WellFormed (fresh n s.full)
  well = fresh_well_formed n s.full shape.some_cpu shape.cpus shape.some_tick shape.ticks

  made_still : Still n (made n r s).tables
  made_still =
      ap (λ (o : Result). migration.next (machine_of n o.tables)) (made_fresh n r s h)
      ∙ ap migration.next (written_machine (fresh n s.full) well (replicate log_places nothing))
      ∙ fresh_settled n s.full shape.some_cpu shape.cpus shape.some_tick shape.ticks

  pub ready_fresh : (t : ℕ) → Ready n most_events (begun (made n r s) t)
  ready_fresh t =
      record {
        good = good_checked n (made n r s).cpupri (made n r s).tables (made_good n r s h);
        still = made_still;
        places = length-replicate {A = ℕ} cpu_places 0;
        times = λ c. let z = zeros cpu_places c in omega (arith, z);
        moves = omega arith;
        refused = omega arith;
      }

  made_counts : (made n r s).tables.counts ≡ replicate n 0
  made_counts = ap (λ (o : Result). o.tables.counts) (made_fresh n r s h) ∙ no_tasks n

  -- the first event's interval goes to nobody, whatever stamp it is measured from
  unspent : (d : ℕ) → accrued d (made n r s).tables.counts (replicate cpu_places 0) ≡ replicate cpu_places 0
  unspent d = ap (λ (ks : List ℕ). accrued d ks (replicate cpu_places 0)) made_counts ∙ accrued_none d n (replicate cpu_places 0)

  pub from_first : (es : List Event) → runs n es (begun (made n r s) 0) ≡ runs n es (begun (made n r s) (first_stamp es))
  unfolding runs
  from_first [] = refl
  from_first (e ∷ es) =
      let u : Run = next n e (begun (made n r s) 0) in
      ap (λ (ts : List ℕ). runs n es (run u.cpupri u.tables ts u.moves u.refused u.last))
      (unspent (elapsed 0 e.stamp) ∙ sym (unspent (elapsed e.stamp e.stamp)))
