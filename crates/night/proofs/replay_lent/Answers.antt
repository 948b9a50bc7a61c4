-- `night::replay_lent` meets its contract: refused by a length, ended by the first record, or replayed on N CPUs.
-- Assumes nothing.
use native.Mathlib.Omega.{arith}
use mathlib.Core.Path.{◌≡◌, refl, sym, ◌∙◌}
use mathlib.Core.Bool.{true}
use Rattle.cpupri.specs.Found.{size_fits}
use Rattle.rules.specs.WellFormed.{slice_fits}
use Rattle.lenttables.specs.Lent.{lent}
use Rattle.rules.specs.Tables.{Tables}
use Rattle.recording.specs.declared.Opening.{Opening}
use Rattle.recording.specs.Replay.{run, lent_for64}
use Rattle.decoding.proofs.Firsts.{opens_fit}
use Rattle.night.proofs.Replaying.{replay_refused, replay_by, replay_opened, some_cpus, rows_there, rows_part, counts_there, counts_part, flags_there, flags_part, part_fits}
use Rattle.night.proofs.replay_lent.Goals.{In-Ok, Else-not-lengths_fit, Start}
use Rattle.night.proofs.replay_lent.Goals as goal

-- what the caller lent
module _ (c : Start) where
  abbrev tables : Tables
  tables =
      let x = c.args in
      lent 0 x.state.now x.policy.now x.prio.now x.cpu.now x.slice.now x.mask.now x.rows.now x.counts.now x.flags.now x.online.now x.log.now

-- the lengths are those for 64 CPUs
module _ (c : Else-not-lengths_fit) where
  abbrev here : Tables
  here = tables (goal.at.Else-not-lengths_fit c).Start

  lengths : lent_for64 here ≡ true
  lengths = let k = c in sym (k.lengths_fit.ensures here.online) ∙ k.if-not-lengths_fit.false

-- the first record opens a replay on n CPUs
module _ (c : In-Ok) where
  abbrev opening : Opening
  opening = c.in-Ok.field-0

  abbrev lent_here : Tables
  lent_here = tables (goal.at.In-Ok c).Start

  long : lent_for64 lent_here ≡ true
  long = lengths (goal.at.In-Ok c).Else-not-lengths_fit

  fits : (size_fits opening.n ≡ true) × (slice_fits opening.full ≡ true)
  fits = opens_fit c.args.bytes.now opening (sym c.in-Ok.ensures)

pub returns-then-not-lengths_fit : goal.returns-then-not-lengths_fit
returns-then-not-lengths_fit c =
    let s = tables (goal.at.returns-then-not-lengths_fit c).Start in
    sym (replay_refused c.args.bytes.now c.args.«record».now s (sym (c.lengths_fit.ensures s.online) ∙ c.if-not-lengths_fit.true))

pub returns-in-Err : goal.returns-in-Err
returns-in-Err c =
    let k = (goal.at.returns-in-Err c).Else-not-lengths_fit in
    let r = c.args.«record».now in
    c.unplayed.ensures r (here k)
    ∙ sym (replay_by c.args.bytes.now r (here k) (lengths k) _ (sym c.in-Err.ensures))

pub play_fresh-played-requires : goal.play_fresh-played-requires
play_fresh-played-requires c =
    let k = (goal.at.play_fresh-played-requires c).In-Ok in record {
      lengths = part_fits (lent_here k) (long k) (opening k).n (opening k).full (fits k).0 (fits k).1;
      no_time = refl;
    }

pub returns-in-Ok : goal.returns-in-Ok
returns-in-Ok c =
    let k = (goal.at.returns-in-Ok c).In-Ok in
    let p = c.play_fresh-played.result in
    let o = c.play_fresh-played.new in
    let e = c.play_fresh-played.ensures in
    replay_opened c.args.bytes.now c.args.«record».now (lent_here k) (long k) (opening k)
    (run o.«record» (lent p.course.full o.state o.policy o.prio o.cpu o.slice o.mask o.rows o.counts o.flags o.online o.log) o.times
    p.course.moves p.course.refused p.course.last)
    p.ending p.place (sym c.in-Ok.ensures) e.replays e.ending_is e.place_is

pub overflow_mul-rows : goal.overflow_mul-rows
overflow_mul-rows c =
    let k = (goal.at.overflow_mul-rows c).In-Ok in
    let most = (some_cpus (lent_here k) (long k) (opening k).n (opening k).full (fits k).0 (fits k).1).1 in
    omega (arith, most)

pub slice_bounds-rows-end : goal.slice_bounds-rows-end
slice_bounds-rows-end c =
    let k = (goal.at.slice_bounds-rows-end c).In-Ok in
    rows_there (lent_here k) (long k) (opening k).n (opening k).full (fits k).0 (fits k).1

pub slice_bounds-rows-end-in-Ok : goal.slice_bounds-rows-end-in-Ok
slice_bounds-rows-end-in-Ok c =
    let k = (goal.at.slice_bounds-rows-end-in-Ok c).In-Ok in
    rows_part (lent_here k) (long k) (opening k).n (opening k).full (fits k).0 (fits k).1

pub slice_bounds-counts-end : goal.slice_bounds-counts-end
slice_bounds-counts-end c =
    let k = (goal.at.slice_bounds-counts-end c).In-Ok in
    counts_there (lent_here k) (long k) (opening k).n (opening k).full (fits k).0 (fits k).1

pub slice_bounds-counts-end-in-Ok : goal.slice_bounds-counts-end-in-Ok
slice_bounds-counts-end-in-Ok c =
    let k = (goal.at.slice_bounds-counts-end-in-Ok c).In-Ok in
    counts_part (lent_here k) (long k) (opening k).n (opening k).full (fits k).0 (fits k).1

pub slice_bounds-flags-end : goal.slice_bounds-flags-end
slice_bounds-flags-end c =
    let k = (goal.at.slice_bounds-flags-end c).In-Ok in
    flags_there (lent_here k) (long k) (opening k).n (opening k).full (fits k).0 (fits k).1

pub slice_bounds-flags-end-in-Ok : goal.slice_bounds-flags-end-in-Ok
slice_bounds-flags-end-in-Ok c =
    let k = (goal.at.slice_bounds-flags-end-in-Ok c).In-Ok in
    flags_part (lent_here k) (long k) (opening k).n (opening k).full (fits k).0 (fits k).1
