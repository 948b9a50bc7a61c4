-- Demand 3 on the way of every replay: each machine is well-formed and settled, demand 3 holds after every accepted event, and the moves reported are at
-- most N - 1 for each of them.
-- Assumes nothing.
use mathlib.Core.Path.{◌≡◌, ap}
use mathlib.Core.Bool.{true}
use mathlib.Core.List.{List}
use Prim.Native.Nat.{ℕ, ◌+◌, ◌-◌, ◌*◌, ◌≤◌}
use native.Mathlib.Omega.{arith}
use lib.ListN.{length}
use Rattle.levels.specs.declared.record.Record.{Record}
use Rattle.rules.specs.Entry.{made}
use Rattle.rules.specs.Tables.{Tables}
use Rattle.recording.specs.declared.Event.{Event}
use Rattle.recording.specs.Reading.{opens, first_of, most_events, reading}
use Rattle.recording.specs.Replay.{Run, Replayed, begun, first_stamp, part_of, lent_for64, replayed}
use Rattle.playing.specs.Ready.{Ready}
use Rattle.playing.specs.Way.{Way, accepted}
use Rattle.playing.proofs.Fresh.{ready_fresh}
use Rattle.playing.proofs.Way.{way}
use Rattle.decoding.proofs.Firsts.{opens_fit}
use Rattle.night.proofs.Replaying.{replay_by, part_fits}

module _ (bs : List ℕ) (r : Record) (s : Tables) (lengths : lent_for64 s ≡ true) (n full p : ℕ) (opened : first_of bs ≡ opens n full p) where
  abbrev events : List Event
  events = (reading p bs).events

  abbrev begin : Run
  begin = begun (made n r (part_of n full s)) (first_stamp events)

  ready : Ready n most_events begin
  ready =
      let fit = opens_fit bs _ opened in
      ready_fresh n r (part_of n full s) (part_fits s lengths n full fit.0 fit.1) (first_stamp events)

  pub every_night : Way n events begin
  every_night = way n events begin ready.good ready.still

  pub moves_few : (replayed bs r s).moves ≤ accepted n events begin * (n - 1)
  moves_few =
      let few = every_night.few in
      let told = ap (λ (o : Replayed). o.moves) (replay_by bs r s lengths (opens n full p) opened) in
      omega (arith, few, told)

  pub all_counted : (replayed bs r s).refused + accepted n events begin ≡ length events
  all_counted =
      let counted = every_night.counted in
      let told = ap (λ (o : Replayed). o.refused) (replay_by bs r s lengths (opens n full p) opened) in
      omega (arith, counted, told)
