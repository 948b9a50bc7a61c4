-- An event on tables that pass the check: what it is lent for its own effect, and what it hands back, refused or taken.
-- Assumes nothing.
use mathlib.Core.Path.{◌≡◌, refl, sym, ap, ◌∙◌, subst, subst₂}
use mathlib.Core.Bool.{Bool, true, false, cond}
use mathlib.Core.List.{List}
use Prim.Native.Nat.{ℕ, zero, suc, ◌*◌, ◌<◌}
use native.Mathlib.Omega.{arith}
use lib.ListN.{length}
use borrow.Author.Tests.{eq-eqb, ne_eqb}
use Rattle.std.specs.Prelude.{Result as Answer, Ok, Option as Maybe}
use Rattle.levels.specs.declared.record.Record.{Record}
use Rattle.rules.specs.Machine.{Machine, task_places, cpu_places}
use Rattle.rules.specs.WellFormed.{WellFormed}
use Rattle.rules.specs.Events.{Event, effect}
use Rattle.rules.specs.Refusals.{refusal}
use Rattle.rules.specs.Answers.{answer_of}
use Rattle.rules.specs.declared.answer.Refusal.{Refusal}
use Rattle.rules.specs.Migration.{Move, Settled, settle_all, migrate}
use Rattle.rules.specs.Outcome.{Outcome, logged}
use Rattle.rules.specs.Tables.{Tables, machine_of, tables_of, flat_of, rows_of, row_counts, log_places}
use Rattle.rules.specs.Entry.{result_of, Good, Result, kept, written, checked, event_answer, handled}
use Rattle.rules.specs.LentDemand3.{LentDemand3}
use Rattle.laws.proofs.Checks.{outcome_accepted}
use Rattle.laws.proofs.Effects.{keep_effect}
use Rattle.laws.proofs.Runs.{settle_run, run_keeps, run_few, online_most}
use Rattle.laws.proofs.Tables.{write_read, stored_test}
use Rattle.laws.proofs.Entry.{checked_good, good_checked, answer_checked, answer_event, handled_answer, handled_refused, handled_accepted, handled_good, start_n, start_full}
use Rattle.laws.proofs.LentDemand3.{handled_lent}
use Rattle.laws.specs.Still.{Still}
use Rattle.laws.proofs.Settled.{handled_still, still_handled}
use Rattle.lenttables.specs.Lent.{lent}
use Rattle.carrying.specs.Holds.{Holds}
use Rattle.effect.specs.Effected.{Lends, Effected}
use Rattle.hinting.specs.Hinted.{known_if, Hinted}
use Rattle.hinting.specs.declared.hint.Candidates.{Candidates}
use Rattle.placement.proofs.Order.{well_formed_order}
use Rattle.migration.specs.Settling.{Settling, Ended}

-- tables that agree in every part
record Same (s t : Tables) : Type 0 where
  full : s.full ≡ t.full
  state : s.state ≡ t.state
  policy : s.policy ≡ t.policy
  prio : s.prio ≡ t.prio
  cpu : s.cpu ≡ t.cpu
  slice : s.slice ≡ t.slice
  mask : s.mask ≡ t.mask
  rows : s.rows ≡ t.rows
  counts : s.counts ≡ t.counts
  flags : s.flags ≡ t.flags
  online : s.online ≡ t.online
  log : s.log ≡ t.log

same_tables_lem : (s t : Tables) → Same s t → s ≡ t
same_tables_lem s t h = whole
  where
    whole : lent s.full s.state s.policy s.prio s.cpu s.slice s.mask s.rows s.counts s.flags s.online s.log
        ≡ lent t.full t.state t.policy t.prio t.cpu t.slice t.mask t.rows t.counts t.flags t.online t.log
    whole =
        let a = h.state in
        let b = h.policy in
        let c = h.prio in
        let d = h.cpu in
        let e = h.slice in
        let f = h.mask in
        let g = h.rows in
        let i = h.counts in
        let j = h.flags in
        let k = h.log in
        let l = h.full in
        let o = h.online in
        cc

-- ---- what `handle` promises of the answer a, k moves, the record q and the tables t

abbrev pub Handed : ℕ → Record → Tables → Event → ℕ → ℕ → Record → Tables → Type 0
Handed n r s e a k q t = (result_of a k q t ≡ handled n r s e) × ((checked n q t ≡ 0) × ((a ≡ 0 → Still n t) × (Still n s → Still n t)))

handed : (n : ℕ) (r : Record) (s : Tables) (e : Event) (a k : ℕ) (q : Record) (t : Tables) → result_of a k q t ≡ handled n r s e → checked n q t ≡ 0
    → Handed n r s e a k q t
handed n r s e a k q t is good = (is, (good, (λ z. back (handled_still n r s e (sym (handled_answer n r s e) ∙ sym (ap (λ (x : Result). x.answer) is) ∙ z)), λ h. back (still_handled n r s e h))))
  where
    back : Still n (handled n r s e).tables → Still n t
    back h = subst (λ (x : Result). Still n x.tables) (sym is) h

-- ---- tables that pass the check

pub record Passed (n : ℕ) (r : Record) (s : Tables) : Type 0 where
  pub checks : checked n r s ≡ 0

-- ---- the event was accepted and its own effect left the tables t and the record q

pub record Carried (n : ℕ) (r : Record) (s : Tables) (e : Event) (t : Tables) (q : Record) : Type 0 where
  pub passed : Passed n r s
  pub takes : refusal (machine_of n s) e ≡ 0
  pub full : t.full ≡ s.full
  pub log : t.log ≡ s.log
  pub done : Holds (effect e (machine_of n s)) t.state t.policy t.prio t.cpu t.slice t.mask t.rows t.counts t.flags t.online q

module _ {n : ℕ} {r : Record} {s : Tables} (h : Passed n r s) where
  abbrev before : Machine
  before = machine_of n s

  good : Good n r s
  good = checked_good n r s h.checks

  -- rows that are read are written back as they were
  back : (flat_of (rows_of s.counts s.rows) ≡ s.rows) × (row_counts (rows_of s.counts s.rows) ≡ s.counts)
  back = write_read s.counts s.rows long (stored_test s.counts s.rows long good.stored)
    where
      long : length s.rows ≡ task_places * length s.counts
      long = good.rows ∙ ap (λ (k : ℕ). task_places * k) (sym good.counts)

  holds : Holds before s.state s.policy s.prio s.cpu s.slice s.mask s.rows s.counts s.flags s.online r
  holds =
      record {
        state = refl;
        policy = refl;
        prio = refl;
        cpu = refl;
        slice = refl;
        mask = refl;
        rows = sym back.0;
        counts = sym back.1;
        flags = refl;
        online = refl;
        levels = good.levels;
      }

  pub lends : Lends (machine_of n s) s.state s.policy s.prio s.cpu s.slice s.mask s.rows s.counts s.flags s.online r
  lends = record { formed = good.machine; holds = holds }

  -- ---- what the event's own effect left

  module _ (e : Event) {o : Answer Candidates Refusal} {t : Tables} {q : Record}
      (own : Effected (machine_of n s) e o t.state t.policy t.prio t.cpu t.slice t.mask t.rows t.counts t.flags t.online q)
      (full : t.full ≡ s.full) (log : t.log ≡ s.log) where
    -- refused: nothing was written
    pub refused_result : (answer_of o ≡ 0 → ⊥) → Handed n r s e (answer_of o) 0 q t
    refused_result z =
        subst₂ (λ (x : Record) (y : Tables). Handed n r s e (answer_of o) 0 x y) (holds.levels ∙ sym stays.levels) (sym same)
        (handed n r s e (answer_of o) 0 r s (go (answer_of o) refl) h.checks)
      where
        stays : Holds before t.state t.policy t.prio t.cpu t.slice t.mask t.rows t.counts t.flags t.online q
        stays =
            subst (λ (b : Bool). Holds (cond b (effect e before) before) t.state t.policy t.prio t.cpu t.slice t.mask t.rows t.counts t.flags t.online q)
            (ne_eqb (refusal before e) 0 (λ y. z (own.answer ∙ y))) own.holds

        same : t ≡ s
        same =
            same_tables_lem t s
            (record {
              full = full;
              state = stays.state;
              policy = stays.policy;
              prio = stays.prio;
              cpu = stays.cpu;
              slice = stays.slice;
              mask = stays.mask;
              rows = stays.rows ∙ sym holds.rows;
              counts = stays.counts ∙ sym holds.counts;
              flags = stays.flags;
              online = stays.online;
              log = log;
            })

        go : (b : ℕ) → answer_of o ≡ b → result_of (answer_of o) 0 r s ≡ handled n r s e
        go zero x = absurd (z x)
        go (suc b) x =
            ap (λ (k : ℕ). kept k r s) x
            ∙ sym (handled_refused n r s e b (answer_event n r s e h.checks ∙ sym own.answer ∙ x))

    pub carries : answer_of o ≡ 0 → Carried n r s e t q
    carries z =
        record {
          passed = h;
          takes = sym own.answer ∙ z;
          full = full;
          log = log;
          done =
              subst (λ (b : Bool). Holds (cond b (effect e before) before) t.state t.policy t.prio t.cpu t.slice t.mask t.rows t.counts t.flags t.online q)
              (eq-eqb (refusal before e) 0 (sym own.answer ∙ z)) own.holds;
        }

  -- and the hint that it gives is true
  pub hinted : (e : Event) (t : Tables) {few : Candidates} {q : Record}
      → Effected (machine_of n s) e (Ok few) t.state t.policy t.prio t.cpu t.slice t.mask t.rows t.counts t.flags t.online q → (settled : Bool)
      → (settled ≡ true → Still n s) → {x : Maybe Candidates} → x ≡ known_if settled few → Hinted (effect e (machine_of n s)) x
  hinted e t {few} own settled calm is = subst (Hinted (effect e before)) (sym is) (go settled calm)
    where
      go : (b : Bool) → (b ≡ true → Still n s) → Hinted (effect e before) (known_if b few)
      go true c = own.few (c refl)
      go false c = tt

-- ---- the steps after it

module _ {n : ℕ} {r : Record} {s : Tables} {e : Event} {t : Tables} {q : Record} (h : Carried n r s e t q) where
  abbrev start : Machine
  start = effect e (machine_of n s)

  accepted_is : event_answer n r s e ≡ 0
  accepted_is = answer_event n r s e h.passed.checks ∙ h.takes

  well : WellFormed start
  well = keep_effect (machine_of n s) e (good h.passed).machine h.takes

  start_tables : t ≡ tables_of start s.log
  start_tables =
      same_tables_lem t _
      (record {
        full = h.full ∙ sym (start_full n r s e accepted_is);
        state = h.done.state;
        policy = h.done.policy;
        prio = h.done.prio;
        cpu = h.done.cpu;
        slice = h.done.slice;
        mask = h.done.mask;
        rows = h.done.rows;
        counts = h.done.counts;
        flags = h.done.flags;
        online = h.done.online;
        log = h.log;
      })

  pub start_settling : Settling (effect e (machine_of n s)) t.prio t.cpu t.mask t.counts t.rows q
  start_settling =
      record {
        well = well;
        held = record {
          order = well_formed_order start well;
          prio = h.done.prio;
          counts = h.done.counts;
          rows = h.done.rows;
          levels = h.done.levels;
        };
        cpus = h.done.cpu;
        masks = h.done.mask;
      }

  pub start_cpus : n ≡ (effect e (machine_of n s)).n
  start_cpus = sym (start_n n r s e accepted_is)

  pub log_long : length t.log ≡ log_places
  log_long = ap length h.log ∙ (good h.passed).log

  -- ---- after the steps

  module _ {cs ks flat lg : List ℕ} {k : ℕ} {p : Record} (ended : Ended (settle_all (effect e (machine_of n s))) t.prio cs ks flat t.log lg k p) where
    abbrev steps : Settled
    steps = settle_all start

    abbrev after : Tables
    after = lent t.full t.state t.policy t.prio cs t.slice t.mask flat ks t.flags t.online lg

    -- steps leave the other columns and the full slice alone
    stays : {A : Type 0} (f : Machine → A) → ((v : Move) (m : Machine) → f (migrate v m) ≡ f m) → f start ≡ f steps.machine
    stays f c = sym (run_keeps f c (settle_run start.n start))

    after_is : after ≡ tables_of steps.machine (logged steps.log s.log)
    after_is =
        same_tables_lem after _
        (record {
          full = h.full ∙ sym (start_full n r s e accepted_is) ∙ stays (λ m. m.full) (λ v m. refl);
          state = h.done.state ∙ stays (λ m. m.state) (λ v m. refl);
          policy = h.done.policy ∙ stays (λ m. m.policy) (λ v m. refl);
          prio = ended.held.prio;
          cpu = ended.cpus;
          slice = h.done.slice ∙ stays (λ m. m.slice) (λ v m. refl);
          mask = h.done.mask ∙ stays (λ m. m.mask) (λ v m. refl);
          rows = ended.held.rows;
          counts = ended.held.counts;
          flags = h.done.flags ∙ stays (λ m. m.flags) (λ v m. refl);
          online = h.done.online ∙ stays (λ m. m.online) (λ v m. refl);
          log = ended.logs ∙ ap (logged steps.log) h.log;
        })

    taken_is : result_of 0 k p after ≡ handled n r s e
    taken_is =
        let few = ended.moves in
        let levels = ended.held.levels in
        let tables = after_is in
        let all : result_of 0 k p after ≡ written (length steps.log) steps.machine (logged steps.log s.log) = cc in
        all ∙ sym (ap (λ (o : Outcome). written o.moves o.machine (logged o.log s.log)) (outcome_accepted (machine_of n s) e h.takes))
        ∙ sym (handled_accepted n r s e accepted_is)

    pub taken_result : Handed n r s e 0 k p (lent t.full t.state t.policy t.prio cs t.slice t.mask flat ks t.flags t.online lg)
    taken_result =
        handed n r s e 0 k p after taken_is
        (good_checked n p after (subst (λ (x : Result). Good n x.cpupri x.tables) (sym taken_is) (handled_good n r s e accepted_is)))

    -- there are fewer moves than CPUs
    pub taken_few : k < cpu_places
    taken_few =
        let count : k ≡ length steps.log = ended.moves in
        omega (arith, run_few well (settle_run start.n start), online_most start, well.shape.cpus)

-- ---- refused by the check

pub unchecked_result : (n : ℕ) (r : Record) (s : Tables) (e : Event) (a : ℕ) → a ≡ checked n r s → (a ≡ 0 → ⊥) → result_of a 0 r s ≡ handled n r s e
unchecked_result n r s e a h z = go a refl
  where
    go : (b : ℕ) → a ≡ b → result_of a 0 r s ≡ handled n r s e
    go zero x = absurd (z x)
    go (suc b) x =
        ap (λ (k : ℕ). kept k r s) x ∙ sym (handled_refused n r s e b (answer_checked n r s e b (sym h ∙ x)))

-- ---- demand 3 of what is handed back

pub result_demand : (n : ℕ) (r : Record) (s : Tables) (e : Event) (a k : ℕ) (q : Record) (t : Tables)
    → result_of a k q t ≡ handled n r s e → a ≡ 0 → LentDemand3 n k (effect e (machine_of n s)) t
result_demand n r s e a k q t same z =
    let zero_is : event_answer n r s e ≡ 0 = sym (handled_answer n r s e) ∙ sym (ap (λ (x : Result). x.answer) same) ∙ z in
    subst (λ (x : Result). LentDemand3 n x.moves (effect e (machine_of n s)) x.tables) (sym same) (handled_lent n r s e zero_is)
