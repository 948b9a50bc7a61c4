-- The public entries: what an answer 0 says of the lent tables, and that an accepted event and the fresh maker leave tables that pass the
-- check again, with demand 3 of what they then hold.
-- Assumes nothing.
use mathlib.Core.Path.{◌≡◌, refl, sym, ap, ◌∙◌, subst}
use mathlib.Core.Bool.{Bool, true, false, cond, not, ◌&&◌}
use mathlib.Core.List.{List, [], ◌∷◌}
use Prim.Native.Nat.{ℕ, zero, suc, ◌-◌, ◌*◌, ◌≤◌}
use native.Mathlib.Omega.{arith}
use lib.Dec.{eqb, ltb}
use lib.ListN.{length, replicate, length-map, length-replicate}
use borrow.Author.Tests.{eqb-true, eq-eqb, not-false}
use Rattle.bits.proofs.Tests.{and_both}
use Rattle.cpupri.specs.Record.{record_of, fresh_levels}
use Rattle.levels.specs.declared.record.Record.{Record}
use Rattle.rules.specs.Machine.{Machine, Column, task_of, row, fresh, levels, task_places, cpu_places, runnable, rr}
use Rattle.rules.specs.Machine.{allows, lowest_allowed, store, enqueue_at, enqueue, dequeue, requeue, without_cpu}
use Rattle.rules.specs.WellFormed.{Shape, WellFormed, well_formed}
use Rattle.rules.specs.Events.{Event, Kind, effect, effect_of, ticked_task, to_first, evacuated}
use Rattle.rules.specs.Events.{add, remove, wake, sleep, set_priority, set_affinity, tick, yield, set_ordinary, take_offline, bring_online}
use Rattle.rules.specs.Refusals.{Passes, refusal, first_failing, bad_size, ill_formed}
use Rattle.rules.specs.Outcome.{Outcome, outcome, logged}
use Rattle.rules.specs.Demand3.{Demand3, most_moves, online_cpus}
use Rattle.rules.specs.Tables.{Tables, machine_of, tables_of, lengths_fit, tables_fit, record_fits, flat_of, row_counts, stored_rows, nothing, log_places}
use Rattle.rules.specs.Entry.{Good, Result, kept, written, size_check, form_check, checked, event_answer, made, made_by, handled, handled_by}
use Rattle.laws.proofs.Bools.{both}
use Rattle.laws.proofs.Apart.{in_row, runnable_place}
use Rattle.laws.proofs.Checks.{Accepted, accepted_checks, effect_is, outcome_accepted, outcome_moves, passes, passed}
use Rattle.laws.proofs.Effects.{fresh_well_formed}
use Rattle.laws.proofs.Runs.{settle_run, run_keeps, online_most}
use Rattle.laws.proofs.Demand3.{demand3, keep_outcome}
use Rattle.laws.proofs.Room.{row_fits}
use Rattle.laws.proofs.Test.{size_good, good_size, slice_good, good_slice, shape_shaped, test_well_formed, well_formed_test}
use Rattle.laws.proofs.Tables.{length_rows_of, Fitting, length_flat, read_written, written_stored, test_stored, stored_test}
use Rattle.laws.proofs.Record.{record_is, is_record, levels_fresh}
use Rattle.laws.proofs.Log.{length_logged}

-- ---- what the check says

-- the lengths of the tables are the machine's
pub lengths_shape : (n : ℕ) (s : Tables) → lengths_fit n s ≡ true
    → Shape (machine_of n s) × (length s.rows ≡ task_places * n) × (length s.counts ≡ n) × (length s.log ≡ log_places)
lengths_shape n s h =
    let a = both _ _ h in
    let b = both _ _ a.0 in
    let c = both _ _ b.0 in
    let d = both _ _ c.0 in
    let e = both _ _ d.0 in
    let f = both _ _ e.0 in
    let g = both _ _ f.0 in
    let i = both _ _ g.0 in
    let j = both _ _ i.0 in
    let k = both _ _ j.0 in
    let l = both _ _ k.0 in
    let y = size_good n l.0 in
    let z = slice_good s.full l.1 in
    let counts : length s.counts ≡ n = eqb-true (length s.counts) n c.1 in (
      record {
        some_cpu = y.0;
        cpus = y.1;
        some_tick = z.0;
        ticks = z.1;
        state = eqb-true (length s.state) task_places k.1;
        policy = eqb-true (length s.policy) task_places j.1;
        prio = eqb-true (length s.prio) task_places i.1;
        cpu = eqb-true (length s.cpu) task_places g.1;
        slice = eqb-true (length s.slice) task_places f.1;
        mask = eqb-true (length s.mask) task_places e.1;
        rows = length_rows_of s.counts s.rows ∙ counts;
        flags = eqb-true (length s.flags) n b.1;
      },
      eqb-true (length s.rows) (task_places * n) d.1,
      counts,
      eqb-true (length s.log) log_places a.1,
    )

pub shape_lengths : (n : ℕ) (s : Tables) → Shape (machine_of n s) → length s.rows ≡ task_places * n → length s.counts ≡ n → length s.log ≡ log_places
    → lengths_fit n s ≡ true
shape_lengths n s p rows counts log =
    and_both _ _ (and_both _ _ (and_both _ _ (and_both _ _ (and_both _ _ (and_both _ _ (and_both _ _ (and_both _ _ (and_both _ _ (and_both _ _ (and_both _ _
    (good_size n p.some_cpu p.cpus) (good_slice s.full p.some_tick p.ticks)) (eq-eqb (length s.state) task_places p.state))
    (eq-eqb (length s.policy) task_places p.policy)) (eq-eqb (length s.prio) task_places p.prio))
    (eq-eqb (length s.cpu) task_places p.cpu)) (eq-eqb (length s.slice) task_places p.slice))
    (eq-eqb (length s.mask) task_places p.mask)) (eq-eqb (length s.rows) (task_places * n) rows)) (eq-eqb (length s.counts) n counts))
    (eq-eqb (length s.flags) n p.flags)) (eq-eqb (length s.log) log_places log)

-- the checker's 0 means W1 to W6
pub checked_good : (n : ℕ) (r : Record) (s : Tables) → checked n r s ≡ 0 → Good n r s
unfolding checked
checked_good n r s h =
    record {
      machine = w;
      rows = lengths.1;
      counts = lengths.2;
      log = lengths.3;
      stored = test_stored s.counts s.rows (lengths.1 ∙ ap (λ (k : ℕ). task_places * k) (sym lengths.2)) front.0;
      levels = record_is (machine_of n s) r w parts.1;
    }
  where
    checks : Passes (size_check n s ∷ form_check n r s ∷ [])
    checks = passes (size_check n s ∷ form_check n r s ∷ []) (omega arith) h

    lengths : Shape (machine_of n s) × (length s.rows ≡ task_places * n) × (length s.counts ≡ n) × (length s.log ≡ log_places)
    lengths = lengths_shape n s (not-false (lengths_fit n s) checks.0)

    parts : (stored_rows s.counts s.rows && well_formed (machine_of n s) ≡ true) × (record_fits (machine_of n s) r ≡ true)
    parts = both _ _ (not-false (tables_fit n r s) checks.1.0)

    front : (stored_rows s.counts s.rows ≡ true) × (well_formed (machine_of n s) ≡ true)
    front = both _ _ parts.0

    w : WellFormed (machine_of n s)
    w = test_well_formed (machine_of n s) (shape_shaped (machine_of n s) lengths.0) front.1

-- and W1 to W6 give its 0
pub good_checked : (n : ℕ) (r : Record) (s : Tables) → Good n r s → checked n r s ≡ 0
unfolding checked
good_checked n r s g =
    passed (size_check n s ∷ form_check n r s ∷ [])
    (ap not (shape_lengths n s g.machine.shape g.rows g.counts g.log), (ap not fit, tt))
  where
    fit : tables_fit n r s ≡ true
    fit =
        and_both _ _
        (and_both _ _ (stored_test s.counts s.rows (g.rows ∙ ap (λ (k : ℕ). task_places * k) (sym g.counts)) g.stored)
        (well_formed_test (machine_of n s) g.machine).1)
        (is_record (machine_of n s) r g.machine g.levels)

-- ---- a machine written back

module _ (m : Machine) (w : WellFormed m) (log : List ℕ) where
  fitting : Fitting m.rows
  fitting c = row_fits m c w

  -- it is read back as it was
  pub written_machine : machine_of m.n (tables_of m log) ≡ m
  written_machine =
      ap (λ (rs : List (List ℕ)).
      record {
        n = m.n;
        full = m.full;
        state = m.state;
        policy = m.policy;
        prio = m.prio;
        cpu = m.cpu;
        slice = m.slice;
        mask = m.mask;
        rows = rs;
        flags = m.flags;
        online = m.online;
      })
      (read_written m.rows fitting)

  pub written_good : length log ≡ log_places → Good m.n (record_of (levels m)) (tables_of m log)
  written_good h =
      record {
        machine = subst WellFormed (sym written_machine) w;
        rows = long ∙ ap (λ (k : ℕ). task_places * k) w.shape.rows;
        counts = count ∙ w.shape.rows;
        log = h;
        stored = test_stored (row_counts m.rows) (flat_of m.rows) (long ∙ ap (λ (k : ℕ). task_places * k) (sym count))
            (written_stored m.rows fitting (λ c u i. runnable_place m u w (in_row m u c w i).0));
        levels = ap (λ (x : Machine). record_of (levels x)) (sym written_machine);
      }
    where
      long : length (flat_of m.rows) ≡ task_places * length m.rows
      long = length_flat m.rows fitting

      count : length (row_counts m.rows) ≡ length m.rows
      count = length-map m.rows (λ (r : List ℕ). length r)

-- ---- make a fresh machine

-- refused only with 1, and then all is as it was lent
pub made_refused : (n : ℕ) (r : Record) (s : Tables) → lengths_fit n s ≡ false → made n r s ≡ kept bad_size r s
unfolding made first_failing
made_refused n r s h = ap (λ (b : Bool). made_by (cond (not b) bad_size 0) n r s) h

-- else the fresh machine, with the fresh record, whatever was lent
pub made_fresh : (n : ℕ) (r : Record) (s : Tables) → lengths_fit n s ≡ true → made n r s ≡ written 0 (fresh n s.full) (replicate log_places nothing)
unfolding made first_failing
made_fresh n r s h = ap (λ (b : Bool). made_by (cond (not b) bad_size 0) n r s) h

pub made_record : (n : ℕ) (r : Record) (s : Tables) → lengths_fit n s ≡ true → (made n r s).cpupri ≡ record_of (fresh_levels n)
made_record n r s h =
    ap (λ (q : Result). q.cpupri) (made_fresh n r s h) ∙ ap record_of (levels_fresh n s.full (lengths_shape n s h).0.cpus)

pub made_good : (n : ℕ) (r : Record) (s : Tables) → lengths_fit n s ≡ true → Good n (made n r s).cpupri (made n r s).tables
made_good n r s h =
    let p = (lengths_shape n s h).0 in
    subst (λ (q : Result). Good n q.cpupri q.tables) (sym (made_fresh n r s h))
    (written_good (fresh n s.full) (fresh_well_formed n s.full p.some_cpu p.cpus p.some_tick p.ticks) (replicate log_places nothing)
    (length-replicate log_places nothing))

-- ---- event

-- what no event changes: N and the full slice
abbrev pub fixed : Machine → ℕ × ℕ
fixed m = (m.n, m.full)

-- one of three machines, as two tests say
three_fixed : (a b : Bool) (x y z : Machine) (f : ℕ × ℕ) → fixed x ≡ f → fixed y ≡ f → fixed z ≡ f → fixed (cond a (cond b x y) z) ≡ f
three_fixed true true x y z f p q r = p
three_fixed true false x y z f p q r = q
three_fixed false b x y z f p q r = r

first_fixed : (g : ℕ → Machine) (m : Machine) (r : List ℕ) (f : ℕ × ℕ) → fixed m ≡ f → ((t : ℕ) → fixed (g t) ≡ f) → fixed (to_first g m r) ≡ f
first_fixed g m [] f p q = p
first_fixed g m (t ∷ ts) f p q = q t

ticked_fixed : (t c : ℕ) (m : Machine) → fixed (ticked_task t c m) ≡ fixed m
ticked_fixed t c m =
    three_fixed (eqb (task_of m t).policy rr) (eqb ((task_of m t).slice - 1) 0) (store Column.slice t m.full (requeue t c m))
    (store Column.slice t ((task_of m t).slice - 1) m) m (fixed m) refl refl refl

evacuated_fixed : (c : ℕ) (ts : List ℕ) (m : Machine) → fixed (evacuated c ts m) ≡ fixed m
unfolding evacuated
evacuated_fixed c [] m = refl
evacuated_fixed c (t ∷ ts) m = evacuated_fixed c ts (enqueue t (lowest_allowed m (task_of m t).mask) (dequeue t c m))

effect_fixed : (k : Kind) (e : Event) (m : Machine) → fixed (effect_of k e m) ≡ fixed m
effect_fixed add e m = refl
effect_fixed remove e m = refl
effect_fixed wake e m = refl
effect_fixed sleep e m = refl
effect_fixed set_priority e m =
    let t = e.who in
    three_fixed (eqb (task_of m t).state runnable) (eqb (task_of m t).prio e.b) m
    (enqueue_at (ltb e.b (task_of m t).prio) t (task_of m t).cpu (store Column.prio t e.b (dequeue t (task_of m t).cpu m)))
    (store Column.prio t e.b m) (fixed m) refl refl refl
effect_fixed set_affinity e m =
    let t = e.who in
    three_fixed (eqb (task_of m t).state runnable) (allows m e.mask (task_of m t).cpu) (store Column.mask t e.mask m)
    (enqueue t (lowest_allowed m e.mask) (store Column.mask t e.mask (dequeue t (task_of m t).cpu m))) (store Column.mask t e.mask m) (fixed m)
    refl refl refl
effect_fixed tick e m = first_fixed (λ t. ticked_task t e.who m) m (row m e.who) (fixed m) refl (λ t. ticked_fixed t e.who m)
effect_fixed yield e m = first_fixed (λ t. requeue t e.who m) m (row m e.who) (fixed m) refl (λ t. refl)
effect_fixed set_ordinary e m = refl
effect_fixed take_offline e m = evacuated_fixed e.who (row m e.who) (without_cpu e.who m)
effect_fixed bring_online e m = refl

-- an accepted event's own effect leaves them, and so does all of it
pub start_fixed : (m : Machine) (e : Event) → refusal m e ≡ 0 → fixed (effect e m) ≡ fixed m
start_fixed m e h = let a : Accepted m e = accepted_checks m e h in ap fixed (effect_is m e a) ∙ effect_fixed a.kind e m

outcome_fixed : (m : Machine) (e : Event) → refusal m e ≡ 0 → fixed (outcome m e).machine ≡ fixed m
outcome_fixed m e h =
    ap (λ (o : Outcome). fixed o.machine) (outcome_accepted m e h)
    ∙ run_keeps fixed (λ v m. refl) (settle_run (effect e m).n (effect e m))
    ∙ start_fixed m e h

-- the answer to an event is the check's; where that is 0, it is the event's own
module _ (n : ℕ) (r : Record) (s : Tables) (e : Event) where
  pub answer_checked : (a : ℕ) → checked n r s ≡ suc a → event_answer n r s e ≡ suc a
  unfolding event_answer checked first_failing
  answer_checked a h = go (size_check n s).fails (form_check n r s).fails h
    where
      go : (x y : Bool) → cond x bad_size (cond y ill_formed 0) ≡ suc a → cond x bad_size (cond y ill_formed (refusal (machine_of n s) e)) ≡ suc a
      go true y h = h
      go false true h = h
      go false false h = absurd (omega arith)

  pub answer_event : checked n r s ≡ 0 → event_answer n r s e ≡ refusal (machine_of n s) e
  unfolding event_answer checked first_failing
  answer_event h = go (size_check n s).fails (form_check n r s).fails h
    where
      go : (x y : Bool) → cond x bad_size (cond y ill_formed 0) ≡ 0
          → cond x bad_size (cond y ill_formed (refusal (machine_of n s) e)) ≡ refusal (machine_of n s) e
      go true y h = absurd (omega arith)
      go false true h = absurd (omega arith)
      go false false h = refl

  -- an event is accepted exactly if the check passes and no refusal from 3 on applies
  pub answer_zero : event_answer n r s e ≡ 0 → (checked n r s ≡ 0) × (refusal (machine_of n s) e ≡ 0)
  answer_zero h = go (checked n r s) refl
    where
      go : (a : ℕ) → checked n r s ≡ a → (checked n r s ≡ 0) × (refusal (machine_of n s) e ≡ 0)
      go zero p = (p, sym (answer_event p) ∙ h)
      go (suc a) p = absurd (let q : event_answer n r s e ≡ suc a = answer_checked a p in omega arith)

-- the answer is the first refusal that applies
pub handled_answer : (n : ℕ) (r : Record) (s : Tables) (e : Event) → (handled n r s e).answer ≡ event_answer n r s e
unfolding handled
handled_answer n r s e = go (event_answer n r s e)
  where
    go : (a : ℕ) → (handled_by a n r s e).answer ≡ a
    go zero = refl
    go (suc a) = refl

-- a refused event hands back what was lent
pub handled_refused : (n : ℕ) (r : Record) (s : Tables) (e : Event) (a : ℕ) → event_answer n r s e ≡ suc a → handled n r s e ≡ kept (suc a) r s
unfolding handled
handled_refused n r s e a h = ap (λ (x : ℕ). handled_by x n r s e) h

module _ (n : ℕ) (r : Record) (s : Tables) (e : Event) (h : event_answer n r s e ≡ 0) where
  abbrev before : Machine
  before = machine_of n s

  abbrev done : Outcome
  done = outcome before e

  pub handled_accepted : handled n r s e ≡ written done.moves done.machine (logged done.log s.log)
  unfolding handled
  handled_accepted = ap (λ (x : ℕ). handled_by x n r s e) h

  good_before : Good n r s
  good_before = checked_good n r s (answer_zero n r s e h).0

  takes : refusal before e ≡ 0
  takes = (answer_zero n r s e h).1

  after_well_formed : WellFormed done.machine
  after_well_formed = keep_outcome before e good_before.machine

  after_demand : Demand3 (effect e before) done.moves done.log done.machine
  after_demand = demand3 before e good_before.machine takes

  same_n : done.machine.n ≡ n
  same_n = ap (λ (f : ℕ × ℕ). f.0) (outcome_fixed before e takes)

  pub start_n : (effect e before).n ≡ n
  start_n = ap (λ (f : ℕ × ℕ). f.0) (start_fixed before e takes)

  -- the tables come back with the full slice that they were lent with
  pub start_full : (effect e before).full ≡ s.full
  start_full = ap (λ (f : ℕ × ℕ). f.1) (start_fixed before e takes)

  -- the log has room: at most 63 moves
  log_fits : length (logged done.log s.log) ≡ log_places
  log_fits =
      let start : (effect e before).n ≡ n = start_n in
      let few : done.moves ≤ most_moves (length (online_cpus (effect e before))) = after_demand.few in
      let most : length (online_cpus (effect e before)) ≤ (effect e before).n = online_most (effect e before) in
      let count : done.moves ≡ length done.log = after_demand.counted.0 in
      let small : n ≤ cpu_places = good_before.machine.shape.cpus in
      let long : length s.log ≡ log_places = good_before.log in
      length_logged done.log s.log (omega arith) ∙ long

  written_after : Good n (record_of (levels done.machine)) (tables_of done.machine (logged done.log s.log))
  written_after =
      subst (λ (k : ℕ). Good k (record_of (levels done.machine)) (tables_of done.machine (logged done.log s.log))) same_n
      (written_good done.machine after_well_formed (logged done.log s.log) log_fits)

  pub handled_moves : (handled n r s e).moves ≡ length done.log
  handled_moves = ap (λ (q : Result). q.moves) handled_accepted ∙ outcome_moves before e

  pub handled_log : (handled n r s e).tables.log ≡ logged done.log s.log
  handled_log = ap (λ (q : Result). q.tables.log) handled_accepted

  -- the tables and the record that come back pass the check again
  pub handled_good : Good n (handled n r s e).cpupri (handled n r s e).tables
  handled_good = subst (λ (q : Result). Good n q.cpupri q.tables) (sym handled_accepted) written_after

  -- they hold the machine with which the event ends
  pub handled_machine : machine_of n (handled n r s e).tables ≡ done.machine
  handled_machine =
      ap (λ (q : Result). machine_of n q.tables) handled_accepted
      ∙ subst (λ (k : ℕ). machine_of k (tables_of done.machine (logged done.log s.log)) ≡ done.machine) same_n
      (written_machine done.machine after_well_formed (logged done.log s.log))

  -- demand 3, of what they hold
  pub handled_demand3 : Demand3 (effect e before) done.moves done.log (machine_of n (handled n r s e).tables)
  handled_demand3 = subst (Demand3 (effect e before) done.moves done.log) (sym handled_machine) after_demand
