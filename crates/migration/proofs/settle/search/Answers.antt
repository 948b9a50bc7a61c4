-- `migration::settle::search` meets its contract. The loop's invariant: the tables hold the machine that the steps so far lead to, the log has their
-- entries, and the CPUs below each level are that machine's; there are fewer than n steps. Assumes nothing.
use borrow.Author.Rules.{rules}
use mathlib.Core.Path.{◌≡◌, refl, sym, ap, ◌∙◌, subst}
use mathlib.Core.List.{List}
use mathlib.Core.Option.{some}
use Prim.Native.Nat.{ℕ, ◌-◌, ◌^◌, ◌≤◌, ◌<◌}
use native.Mathlib.Nat.{le_trans}
use native.Mathlib.Omega.{arith}
use lib.ListN.{length, get_or, set}
use Rattle.levels.specs.Record.{lent_record}
use Rattle.cpupri.specs.Level.{level_count}
use Rattle.cpupri.specs.Found.{lowest_level}
use Rattle.cpupri.specs.Record.{record_of, masks_of}
use Rattle.under.specs.Under.{under_of}
use Rattle.cpupri.proofs.Found.{some_below, some_under, none_below}
use Rattle.levels.specs.declared.record.Record.{Record}
use Rattle.rules.specs.Machine.{Machine, levels, cpu_places}
use Rattle.rules.specs.Migration.{Move, next, migrate}
use Rattle.rules.specs.WellFormed.{WellFormed}
use Rattle.waiting.specs.Wanted.{Told}
use Rattle.placement.specs.Held.{Held}
use Rattle.waiting.specs.declared.scan.Test.TheVariants.{Movable}
use Rattle.choosing.specs.Choosing.{Choosing}
use Rattle.laws.proofs.Finder.{lowest_of_all}
use Rattle.laws.proofs.Limited.{limited_none}
use Rattle.choosing.proofs.Steps.{words_mark, no_level}
use Rattle.movelog.specs.Entry.{move_by}
use Rattle.migration.specs.Settling.{Settling}
use Rattle.migration.proofs.Going.{none_taken, to_choose, Going, going_start, here, few, more_few, applies, none_applies, takes, target_small, origin_low, choosing, going_end, going_on, going_cpus, going_log}
use Rattle.migration.proofs.Told.{told_start, told_after, told_size, rises}
use Rattle.migration.proofs.settle.search.Goals.{After-migrate, At-loop-step, In-Some, In-Some-next_step, Start}
use Rattle.migration.proofs.settle.search.Goals as goal

-- the CPUs below each level after a step
module _ {m : Machine} (w : WellFormed m) {ps cs ms ks flat old log : List ℕ} {k : ℕ} {r : Record} {Known : Machine → Type 0}
    (g : Going m ps cs ms ks flat old log k r Known) {v : Move} (n : next g.reached ≡ some v) where
  told_again : (l : ℕ) {under under' ks' flat' : List ℕ} {r' : Record} → Held (migrate v g.reached) ps ks' flat' r' → Told g.reached (Movable l) under
      → ((ls : List ℕ) → under ≡ under_of ls → length ls ≡ cpu_places → get_or ls v.target 0 ≡ v.displaced → under' ≡ under_of (set ls v.target (get_or r'.levels v.target 0)))
      → Told (migrate v g.reached) (Movable l) under'
  unfolding record_of
  told_again l {under} {under'} {r' = r'} held told risen =
      told_after g.reached (here w g) v (takes w g n) l under under' told (λ ls is size was.
      risen ls is size was ∙ ap (λ (q : Record). under_of (set ls v.target (get_or q.levels v.target 0))) held.levels)

-- ---- what the caller lent: a machine, in tables that hold it

module _ (c : Start) where
  abbrev lent : Machine
  lent = c.requires.settling.0

  well : WellFormed lent
  well = c.requires.settling.1.0.well

  abbrev Lent : Machine → Type 0
  Lent m = let a = c.args in
      Settling m a.prio.now a.cpu.now a.mask.now a.counts.now a.rows.now (lent_record a.masks.now a.tallies.now a.words.now a.levels.now)

  begins : (m : Machine) → Lent m → c.args.n ≡ m.n → let a = c.args in
      Choosing m a.n a.prio.now a.cpu.now a.mask.now a.counts.now a.rows.now a.masks.now a.words.now a.levels.now
  begins m s e = to_choose s e

  -- it is one that was lent
  abbrev given : Lent lent
  given = c.requires.settling.1.0

  abbrev counted : c.args.n ≡ lent.n
  counted = c.requires.settling.1.1

  -- before the first step
  first : let a = c.args in
      Going lent a.prio.now a.cpu.now a.mask.now a.counts.now a.rows.now a.log.now a.log.now 0
      (lent_record a.masks.now a.tallies.now a.words.now a.levels.now) (λ (e : Machine). Unit {0})
  first = going_start given _ tt

-- the lowest level is the machine's
own_lowest : {m : Machine} {ps cs ms ks flat : List ℕ} {r : Record} → Settling m ps cs ms ks flat r
    → lowest_level r.masks level_count (2 ^ 64 - 1) ≡ lowest_level (masks_of (levels m)) level_count (2 ^ 64 - 1)
own_lowest {m} s = ap (λ (ms : List ℕ). lowest_level ms level_count (2 ^ 64 - 1)) (to_choose {n = m.n} s refl).masks

-- no CPU is below the level that was found
module _ (c : In-Some) where
  lowest_is : (m : Machine) → let k = c in Lent (goal.at.In-Some k).Start m → k.in-Some.level ≡ lowest_level (masks_of (levels m)) level_count (2 ^ 64 - 1)
  lowest_is m s =
      let k = c in
      (some_below k.args.masks.now level_count (2 ^ 64 - 1) (sym k.in-Some.ensures)).0 ∙ own_lowest s

-- ---- in the loop

module _ (c : At-loop-step) where
  going : let a = c.args in let l = c.loop-step in
      Going (lent (goal.at.At-loop-step c).Start) a.prio.now l.cpu a.mask.now l.counts l.rows a.log.now l.log l.steps
      (lent_record l.masks l.tallies l.words l.levels) (λ (e : Machine). Told e (Movable c.in-Some.level) l.under)
  going = let s = (goal.at.At-loop-step c).Start in c.loop-step.invariant (lent s) (given s) (counted s)

-- a step applies
module _ (c : In-Some-next_step) where
  abbrev step : Move
  step = move_by c.in-Some-next_step.step

  stepping : let k = c in next (going (goal.at.In-Some-next_step k).At-loop-step).reached ≡ some step
  stepping =
      let k = c in
      let w = well (goal.at.In-Some-next_step k).Start in
      let g = going (goal.at.In-Some-next_step k).At-loop-step in
      applies w g k.next_step.result k.in-Some-next_step.step (k.next_step.ensures g.reached (choosing w g (counted (goal.at.In-Some-next_step k).Start)) g.known) k.in-Some-next_step.is

-- what a step leaves: the machine after it, and the destination's level, which rose
module _ (c : After-migrate) where
  abbrev moved : Machine
  moved = let k = c in migrate (step (goal.at.After-migrate k).In-Some-next_step) (going (goal.at.After-migrate k).At-loop-step).reached

  left : let k = c in let o = k.migrate.new in
      Held moved k.args.prio.now o.counts o.rows (lent_record o.masks o.tallies o.words o.levels)
  left =
      let k = c in
      let g = going (goal.at.After-migrate k).At-loop-step in
      k.migrate.ensures.held g.reached (record { well = here (well (goal.at.After-migrate k).Start) g; held = g.held; applies = stepping (goal.at.After-migrate k).In-Some-next_step })

  levels_now : c.migrate.new.levels ≡ levels moved
  unfolding record_of
  levels_now = ap (λ (q : Record). q.levels) left.levels

  raised : let k = c in let s = k.in-Some-next_step.step in let x = get_or k.migrate.new.levels s.target 0 in (s.displaced ≤ x) × (x < level_count)
  raised =
      let k = c in
      let s = k.in-Some-next_step.step in
      let w = well (goal.at.After-migrate k).Start in
      let g = going (goal.at.After-migrate k).At-loop-step in
      subst (λ (ls : List ℕ). (s.displaced ≤ get_or ls s.target 0) × (get_or ls s.target 0 < level_count)) (sym levels_now)
      (rises g.reached (here w g) (step (goal.at.After-migrate k).In-Some-next_step) (takes w g (stepping (goal.at.After-migrate k).In-Some-next_step)))

  small : c.in-Some-next_step.step.target < cpu_places
  small =
      let k = c in
      let w = well (goal.at.After-migrate k).Start in
      omega (arith, target_small w (going (goal.at.After-migrate k).At-loop-step) (stepping (goal.at.After-migrate k).In-Some-next_step), w.shape.cpus)

-- ---- the needs
pub lowest_level-requires : goal.lowest_level-requires
lowest_level-requires c = let s = (goal.at.lowest_level-requires c).Start in record {
  below_le_level_count = omega arith;
  marked = words_mark (begins s (lent s) (given s) (counted s));
  masks_len = (search rules, search rules);
}

pub returns-in_default : goal.returns-in_default
returns-in_default c = λ m s e.
    let none = none_below c.args.masks.now level_count (2 ^ 64 - 1) (sym c.in_default.ensures) in
    none_taken s
    (limited_none m s.well
    (no_level m s.well level_count
    (λ d h. le_trans (subst (λ (l : ℕ). level_count ≤ l) (own_lowest s) none) (lowest_of_all m s.well d h)) (omega arith)))

pub fill-requires : goal.fill-requires
fill-requires c = (search rules, refl)

pub loop-step-init : goal.loop-step-init
loop-step-init c = λ m s e.
    going_start s _ (told_start m s.well c.in-Some.level (lowest_is (goal.at.loop-step-init c).In-Some m s) _ (c.fill.ensures (levels m) (to_choose {n = m.n} s refl).masks))

pub next_step-requires : goal.next_step-requires
next_step-requires c =
    let g = going (goal.at.next_step-requires c).At-loop-step in
    (g.reached, (choosing (well (goal.at.next_step-requires c).Start) g (counted (goal.at.next_step-requires c).Start), g.known))

pub returns : goal.returns
returns c = λ m s e.
    let g = c.loop-step.invariant m s e in
    going_end s.well g (none_applies s.well g c.next_step.result (c.next_step.ensures g.reached (choosing s.well g e) g.known) c.in_default-next_step.is)

pub note-requires : goal.note-requires
note-requires c =
    let w = well (goal.at.note-requires c).Start in
    let g = going (goal.at.note-requires c).At-loop-step in
    let n = stepping (goal.at.note-requires c).In-Some-next_step in
    let l = more_few w g n in
    let o = origin_low w g n in
    let d = target_small w g n in
    let s = w.shape.cpus in
    let size = going_log w g c.requires.log_len in record {
      log_len = size ∙ c.requires.log_len;
      lt_log_entries = omega arith;
      origin_lt_cpu_places = omega arith;
      target_lt_cpu_places = omega arith;
    }

pub migrate-requires : goal.migrate-requires
migrate-requires c =
    let w = well (goal.at.migrate-requires c).Start in
    let g = going (goal.at.migrate-requires c).At-loop-step in record {
      stepping = (g.reached, record { well = here w g; held = g.held; applies = stepping (goal.at.migrate-requires c).In-Some-next_step });
      cpus_len = going_cpus w g;
    }

pub rise-requires : goal.rise-requires
rise-requires c =
    let g = going (goal.at.rise-requires c).At-loop-step in
    let up = raised (goal.at.rise-requires c).After-migrate in record {
      under_len = told_size g.reached c.in-Some.level c.loop-step.under g.known;
      cpu_lt_cpu_places = (small (goal.at.rise-requires c).After-migrate, up.0, up.1);
    }

pub loop-step-smaller : goal.loop-step-smaller
loop-step-smaller c =
    let l = few (well (goal.at.loop-step-smaller c).Start) (going (goal.at.loop-step-smaller c).At-loop-step) in
    let e = counted (goal.at.loop-step-smaller c).Start in
    omega arith

pub loop-step-preserved : goal.loop-step-preserved
loop-step-preserved c = λ m s e.
    let w = s.well in
    let g = c.loop-step.invariant m s e in
    let n = applies w g c.next_step.result c.in-Some-next_step.step (c.next_step.ensures g.reached (choosing w g e) g.known) c.in-Some-next_step.is in
    let l = more_few w g n in
    let z = w.shape.cpus in
    let moved = c.migrate.ensures.held g.reached (record { well = here w g; held = g.held; applies = n }) in
    going_on w g n (omega (arith, c.requires.log_len)) (λ (x : Machine). Told x (Movable c.in-Some.level) c.rise.new.under) moved c.migrate.ensures.cpus_set c.note.ensures
    (told_again w g n c.in-Some.level moved g.known c.rise.ensures)

pub overflow_cast-lowest : goal.overflow_cast-lowest
overflow_cast-lowest c =
    let under = some_under c.args.masks.now level_count (2 ^ 64 - 1) (sym c.in-Some.ensures) in
    omega arith

pub bounds-levels-target : goal.bounds-levels-target
bounds-levels-target c = small (goal.at.bounds-levels-target c).After-migrate

pub overflow_add-steps : goal.overflow_add-steps
overflow_add-steps c =
    let w = well (goal.at.overflow_add-steps c).Start in
    let l = few w (going (goal.at.overflow_add-steps c).At-loop-step) in
    let s = w.shape.cpus in
    omega arith
