-- The C entry by the test of the lengths, and what is told of a replay.
-- Assumes nothing.
use mathlib.Core.Path.{◌≡◌, sym, ap, ◌∙◌}
use mathlib.Core.Bool.{Bool, true, false, cond, ◌&&◌}
use mathlib.Core.List.{List}
use Prim.Native.Nat.{ℕ}
use borrow.Author.Tests.{eqb-true}
use lib.Dec.{eqb}
use lib.ListN.{length, replicate, length-replicate}
use Rattle.levels.specs.declared.record.Record.{Record}
use Rattle.rules.specs.Machine.{cpu_places}
use Rattle.rules.specs.Refusals.{bad_size}
use Rattle.rules.specs.Tables.{Tables}
use Rattle.laws.proofs.Bools.{both}
use Rattle.lentrecord.specs.Lent.{lent_fits}
use Rattle.recording.specs.declared.Ending.TheVariants.{Stopped}
use Rattle.recording.specs.Replay.{Replayed, replayed, with_slice}
use Rattle.recording.proofs.Times.{replayed_places}
use Rattle.std.specs.Prelude.{Result as Answer, Ok, Err}
use Rattle.rules.specs.declared.answer.Refusal.{Refusal}
use Rattle.night.specs.declared.Report.{Report}
use Rattle.night.specs.Told.{told_of as by_answer}
use Rattle.replay.specs.Entry.{told, told_of, untold, ending_number, lent_replayed}

-- the times are cleared before their number is looked at
pub cleared_places : (ts us : List ℕ) → us ≡ replicate (length ts) 0 → length us ≡ length ts
cleared_places ts us e = ap length e ∙ length-replicate (length ts) 0

module _ (bs : List ℕ) (r : Record) (s : Tables) (ts us : List ℕ) (cleared : us ≡ replicate (length ts) 0) (b : Bool) (fit : b ≡ lent_fits r) where
  by_lengths : (c : Bool) → b && eqb (length us) cpu_places ≡ c → lent_replayed bs r s (length ts) ≡ cond c (told_of (replayed bs r s)) (untold r s (length ts))
  unfolding lent_replayed
  by_lengths c e =
      ap (λ (x : Bool). cond x (told_of (replayed bs r s)) (untold r s (length ts)))
      ((λ i. sym fit i && eqb (sym (cleared_places ts us cleared) i) cpu_places) ∙ e)

  pub told_unfit : (a x : ℕ) → a ≡ bad_size → x ≡ ending_number Stopped → b && eqb (length us) cpu_places ≡ false
      → told a x 0 0 us 0 0 r (with_slice 0 s) ≡ lent_replayed bs r s (length ts)
  told_unfit a x ae xe h = (λ i. told (ae i) (xe i) 0 0 (cleared i) 0 0 r (with_slice 0 s)) ∙ sym (by_lengths false h)

  pub told_fit : b && eqb (length us) cpu_places ≡ true → (g q : Record) (o : Replayed) (a x : ℕ) (vs : List ℕ) → g ≡ r → o ≡ replayed bs g s
      → a ≡ o.answer → x ≡ ending_number o.ending → vs ≡ o.times → q ≡ o.cpupri
      → told a x o.place o.n vs o.moves o.refused q o.tables ≡ lent_replayed bs r s (length ts)
  told_fit h g q o a x vs gr og ao xo vo qo =
      (λ i. told (ao i) (xo i) o.place o.n (vo i) o.moves o.refused (qo i) o.tables) ∙ ap told_of (og ∙ ap (λ (p : Record). replayed bs p s) gr)
      ∙ sym (by_lengths true h)

  pub record_fits_lem : b && eqb (length us) cpu_places ≡ true → lent_fits r ≡ true
  record_fits_lem h = sym fit ∙ (both b (eqb (length us) cpu_places) h).0

  pub times_fit : b && eqb (length us) cpu_places ≡ true → length us ≡ cpu_places
  times_fit h = eqb-true (length us) cpu_places (both b (eqb (length us) cpu_places) h).1

-- as many times as the replay has written
pub places_of : (bs : List ℕ) (g : Record) (s : Tables) (o : Answer Report Refusal) (ts : List ℕ) (q : Record) (t : Tables)
    → by_answer o ts q t ≡ replayed bs g s → length ts ≡ cpu_places
places_of bs g s (Ok p) ts q t e = ap (λ (r : Replayed). length r.times) e ∙ replayed_places bs g s
places_of bs g s (Err x) ts q t e = ap (λ (r : Replayed). length r.times) e ∙ replayed_places bs g s
