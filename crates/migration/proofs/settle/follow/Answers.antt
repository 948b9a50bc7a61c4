-- `migration::settle::follow` meets its contract. The loop's invariant: the tables hold the machine that the steps so far lead to, the log
-- has their entries, and what is known is true; there are fewer than n. Assumes nothing.
use mathlib.Core.Path.{◌≡◌, sym, ap, ◌∙◌, subst}
use mathlib.Core.List.{List}
use mathlib.Core.Option.{some}
use Prim.Native.Nat.{ℕ, ◌*◌}
use native.Mathlib.Omega.{arith}
use lib.ListN.{get_or}
use Rattle.levels.specs.Record.{lent_record}
use Rattle.levels.specs.declared.record.Record.{Record}
use Rattle.rules.specs.Machine.{Machine, task_places}
use Rattle.rules.specs.Migration.{Move, next, migrate}
use Rattle.rules.specs.WellFormed.{WellFormed}
use Rattle.laws.specs.Limited.{displaced}
use Rattle.runqueue.specs.Row.{task_in}
use Rattle.hinting.specs.Hinted.{Among, candidates_after, ruled}
use Rattle.hinting.specs.declared.hint.Candidates.{Candidates}
use Rattle.hinting.proofs.Hints.{ruled_coded, displaced_is, among_after, nobody_moves}
use Rattle.movelog.specs.Entry.{move_by}
use Rattle.migration.proofs.Going.{none_taken, Going, going_start, here, few, more_few, applies, none_applies, takes, target_small, origin_low, choosing, runs_lent, going_end, going_on, going_cpus, going_rows, going_log}
use Rattle.migration.proofs.settle.follow.Goals.{At-loop-step, In-Some, Start}
use Rattle.migration.proofs.settle.follow.Goals as goal

-- who can move after a step
module _ {m : Machine} (w : WellFormed m) {ps cs ms ks flat old log : List ℕ} {k : ℕ} {r : Record} (few : Candidates)
    (g : Going m ps cs ms ks flat old log k r (λ (e : Machine). Among e few)) {v : Move} (n : next g.reached ≡ some v) where
  knows : (z : Candidates) → z ≡ candidates_after few v.task v.target (ruled (task_in (get_or flat (v.target * task_places) 0))) → Among (migrate v g.reached) z
  knows z e =
      subst (Among (migrate v g.reached)) (sym (e ∙ ap (candidates_after few v.task v.target) shown))
      (among_after g.reached (here w g) v n few g.known)
    where
      shown : ruled (task_in (get_or flat (v.target * task_places) 0)) ≡ displaced g.reached v
      shown =
          ap (λ (p : ℕ). ruled (task_in p)) (runs_lent w g v.target (takes w g n).small)
          ∙ ap ruled (displaced_is g.reached (here w g) v n) ∙ ruled_coded (displaced g.reached v)

-- ---- what the caller lent: a machine, in tables that hold it

module _ (c : Start) where
  abbrev lent : Machine
  lent = c.requires.settling.0

  well : WellFormed lent
  well = c.requires.settling.1.0.well

  -- where the loop began
  first : let a = c.args in
      Going lent a.prio.now a.cpu.now a.mask.now a.counts.now a.rows.now a.log.now a.log.now 0
      (lent_record a.masks.now a.tallies.now a.words.now a.levels.now) (λ (e : Machine). Among e a.few)
  first = going_start c.requires.settling.1.0 _ c.requires.settling.1.2

-- ---- in the loop

module _ (c : At-loop-step) where
  going : let a = c.args in let l = c.loop-step in
      Going (lent (goal.at.At-loop-step c).Start) a.prio.now l.cpu a.mask.now l.counts l.rows a.log.now l.log l.moves
      (lent_record l.masks l.tallies l.words l.levels) (λ (e : Machine). Among e l.known)
  going = let p = c.requires.settling in c.loop-step.invariant p.0 p.1.0 p.1.1 p.1.2

-- a step applies
module _ (c : In-Some) where
  abbrev step : Move
  step = move_by c.in-Some.step

  stepping : let k = c in next (going (goal.at.In-Some k).At-loop-step).reached ≡ some step
  stepping =
      let k = c in
      let w = well (goal.at.In-Some k).Start in
      let g = going (goal.at.In-Some k).At-loop-step in
      applies w g k.choose.result k.in-Some.step (k.choose.ensures g.reached (choosing w g k.requires.settling.1.1) g.known) k.in-Some.is

-- nobody can move: no step is taken
pub returns-then-nobody : goal.returns-then-nobody
returns-then-nobody c = λ m s e h.
    none_taken s (nobody_moves m s.well c.args.few h (sym c.nobody.ensures ∙ c.if-nobody.true))

pub loop-step-init : goal.loop-step-init
loop-step-init c = λ m s e h. going_start s _ h

pub choose-requires : goal.choose-requires
choose-requires c =
    let g = going (goal.at.choose-requires c).At-loop-step in
    (g.reached, (choosing (well (goal.at.choose-requires c).Start) g c.requires.settling.1.1, g.known))

pub returns : goal.returns
returns c = λ m s e h.
    let g = c.loop-step.invariant m s e h in
    going_end s.well g (none_applies s.well g c.choose.result (c.choose.ensures g.reached (choosing s.well g e) g.known) c.in_default.is)

pub after-known-requires : goal.after-known-requires
after-known-requires c =
    let w = well (goal.at.after-known-requires c).Start in
    let g = going (goal.at.after-known-requires c).At-loop-step in
    let d = target_small w g (stepping (goal.at.after-known-requires c).In-Some) in
    let s = w.shape.cpus in record {
      target_lt_cpu_places = omega arith;
      task_places_in_bounds = omega (arith, going_rows w g);
    }

pub note-requires : goal.note-requires
note-requires c =
    let w = well (goal.at.note-requires c).Start in
    let g = going (goal.at.note-requires c).At-loop-step in
    let n = stepping (goal.at.note-requires c).In-Some in
    let l = more_few w g n in
    let o = origin_low w g n in
    let d = target_small w g n in
    let s = w.shape.cpus in
    let size = going_log w g c.requires.log_len in record {
      log_len = size ∙ c.requires.log_len;
      lt_log_entries = omega arith;
      origin_lt_cpu_places = omega arith;
      target_lt_cpu_places = omega arith;
    }

pub migrate-requires : goal.migrate-requires
migrate-requires c =
    let w = well (goal.at.migrate-requires c).Start in
    let g = going (goal.at.migrate-requires c).At-loop-step in record {
      stepping = (g.reached, record { well = here w g; held = g.held; applies = stepping (goal.at.migrate-requires c).In-Some });
      cpus_len = going_cpus w g;
    }

pub loop-step-smaller : goal.loop-step-smaller
loop-step-smaller c =
    let l = few (well (goal.at.loop-step-smaller c).Start) (going (goal.at.loop-step-smaller c).At-loop-step) in
    let e = c.requires.settling.1.1 in
    omega arith

pub loop-step-preserved : goal.loop-step-preserved
loop-step-preserved c = λ m s e h.
    let w = s.well in
    let g = c.loop-step.invariant m s e h in
    let n = applies w g c.choose.result c.in-Some.step (c.choose.ensures g.reached (choosing w g e) g.known) c.in-Some.is in
    let l = more_few w g n in
    let z = w.shape.cpus in
    let moved = c.migrate.ensures.held g.reached (record { well = here w g; held = g.held; applies = n }) in
    going_on w g n (omega (arith, c.requires.log_len)) (λ (e : Machine). Among e c.after-known.result) moved c.migrate.ensures.cpus_set c.note.ensures (knows w c.loop-step.known g n c.after-known.result c.after-known.ensures)

pub overflow_add-moves : goal.overflow_add-moves
overflow_add-moves c =
    let w = well (goal.at.overflow_add-moves c).Start in
    let l = few w (going (goal.at.overflow_add-moves c).At-loop-step) in
    let s = w.shape.cpus in
    omega arith
