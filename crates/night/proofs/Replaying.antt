-- The entry by the tests that the code makes in its order, and the parts of the lent tables that a recording's N CPUs use.
-- Assumes nothing.
use mathlib.Core.Path.{◌≡◌, sym, ap, ◌∙◌}
use mathlib.Core.Bool.{Bool, true, false, cond}
use mathlib.Core.List.{List}
use Prim.Native.Nat.{ℕ, ◌*◌, ◌≤◌}
use native.Mathlib.Omega.{arith}
use lib.ListN.{length, take}
use lib.Seq.{length-take-le}
use Rattle.cpupri.specs.Found.{size_fits}
use Rattle.levels.specs.declared.record.Record.{Record}
use Rattle.rules.specs.Machine.{task_places, cpu_places}
use Rattle.rules.specs.Refusals.{bad_size}
use Rattle.rules.specs.Tables.{Tables, lengths_fit, machine_of}
use Rattle.rules.specs.WellFormed.{Shape, slice_fits}
use Rattle.laws.proofs.Entry.{lengths_shape, shape_lengths}
use Rattle.laws.proofs.Test.{size_good, slice_good}
use Rattle.laws.proofs.Tables.{length_rows_of}
use Rattle.std.specs.Prelude.{Ok}
use Rattle.recording.specs.declared.Ending.{Ending}
use Rattle.recording.specs.declared.Ending.TheVariants.{Stopped}
use Rattle.recording.specs.declared.Opening.{Opening}
use Rattle.recording.specs.Reading.{First, first_of, reading, recorded_slice}
use Rattle.recording.specs.Replay.{Run, replay, unplayed, played_on, played, lent_for64, with_slice, part_of, around, replayed}

module _ (bs : List ℕ) (r : Record) (s : Tables) where
  by_lengths : (b : Bool) → lent_for64 s ≡ b → replayed bs r s ≡ cond b (played bs r s (first_of bs)) (unplayed bad_size Stopped r s)
  unfolding replayed
  by_lengths b h = ap (λ (c : Bool). cond c (played bs r s (first_of bs)) (unplayed bad_size Stopped r s)) h

  pub replay_refused : lent_for64 s ≡ false → replayed bs r s ≡ unplayed bad_size Stopped r s
  replay_refused h = by_lengths false h

  module _ (h : lent_for64 s ≡ true) where
    pub replay_by : (f : First) → first_of bs ≡ f → replayed bs r s ≡ played bs r s f
    replay_by f e = by_lengths true h ∙ ap (played bs r s) e

    -- what a replay on N CPUs reports
    pub replay_opened : (f : Opening) (u : Run) (x : Ending) (q : ℕ) → first_of bs ≡ Ok f
        → u ≡ played_on f.n f.full (reading f.end bs) r s → x ≡ (reading f.end bs).ending → q ≡ (reading f.end bs).place
        → replay 0 x q f.n u.times u.moves u.refused u.cpupri (around f.n s u.tables) ≡ replayed bs r s
    replay_opened f u x q o e g h =
        (λ i. replay 0 (g i) (h i) f.n (e i).times (e i).moves (e i).refused (e i).cpupri (around f.n s (e i).tables))
        ∙ sym (replay_by (Ok f) o)

-- ---- the parts that N CPUs use

module _ (s : Tables) (h : lent_for64 s ≡ true) (n full : ℕ) (few : size_fits n ≡ true) (ticks : slice_fits full ≡ true) where
  whole : Shape (machine_of cpu_places (with_slice recorded_slice s)) × (length s.rows ≡ task_places * cpu_places) × (length s.counts ≡ cpu_places) × (length s.log ≡ 252)
  whole = lengths_shape cpu_places (with_slice recorded_slice s) h

  pub some_cpus : (1 ≤ n) × (n ≤ cpu_places)
  some_cpus = size_good n few

  pub rows_there : task_places * n ≤ length s.rows
  rows_there = let most = some_cpus.1 in let long = whole.1 in omega (arith, most, long)

  pub counts_there : n ≤ length s.counts
  counts_there = let most = some_cpus.1 in let long = whole.2 in omega (arith, most, long)

  pub flags_there : n ≤ length s.flags
  flags_there = let most = some_cpus.1 in let long = whole.0.flags in omega (arith, most, long)

  -- the parts that are lent have their lengths
  pub rows_part : task_places * n ≡ length (take (task_places * n) s.rows)
  rows_part = sym (length-take-le (task_places * n) s.rows rows_there)

  pub counts_part : n ≡ length (take n s.counts)
  counts_part = sym (length-take-le n s.counts counts_there)

  pub flags_part : n ≡ length (take n s.flags)
  flags_part = sym (length-take-le n s.flags flags_there)

  part_shape : Shape (machine_of n (part_of n full s))
  part_shape =
      let p = whole.0 in
      let t = slice_good full ticks in
      record {
        some_cpu = some_cpus.0;
        cpus = some_cpus.1;
        some_tick = t.0;
        ticks = t.1;
        state = p.state;
        policy = p.policy;
        prio = p.prio;
        cpu = p.cpu;
        slice = p.slice;
        mask = p.mask;
        rows = length_rows_of (take n s.counts) (take (task_places * n) s.rows) ∙ sym counts_part;
        flags = sym flags_part;
      }

  pub part_fits : lengths_fit n (part_of n full s) ≡ true
  part_fits =
      shape_lengths n (part_of n full s) part_shape (sym rows_part) (sym counts_part) whole.3
