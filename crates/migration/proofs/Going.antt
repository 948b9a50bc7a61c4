-- The steps under way: the tables hold the machine that the steps so far lead to, and the log has their entries. What is known of that machine is
-- a parameter: who can move, or which CPUs are below each level.
-- Assumes nothing.
use mathlib.Core.Path.{◌≡◌, refl, sym, ap, ◌∙◌, subst}
use mathlib.Core.List.{List, [], ◌∷◌, ◌++◌}
use mathlib.Core.Option.{some, none}
use Prim.Native.Nat.{ℕ, suc, ◌+◌, ◌*◌, ◌≤◌, ◌<◌}
use native.Mathlib.Omega.{arith}
use lib.ListN.{length, get_or, set, length-append, length-map}
use lib.Seq.{sets}
use Rattle.cpupri.specs.Record.{record_of}
use Rattle.levels.specs.declared.record.Record.{Record}
use Rattle.rules.specs.Machine.{Machine, running, task_places}
use Rattle.rules.specs.Migration.{Move, Chosen, Settled, next, migrate, settle_all}
use Rattle.rules.specs.Outcome.{entry_numbers, entry_width, log_numbers, logged}
use Rattle.rules.specs.Tables.{flat_of, log_places}
use Rattle.rules.specs.WellFormed.{WellFormed}
use Rattle.laws.proofs.Choice.{chosen}
use Rattle.laws.proofs.Log.{length_logged, logged_snoc}
use Rattle.laws.proofs.Runs.{settled_stop}
use Rattle.laws.proofs.Step.{origin_small}
use Rattle.laws.specs.Limited.{or_nothing}
use Rattle.laws.proofs.Tables.{length_flat, flat_first}
use Rattle.placement.specs.Held.{Held}
use Rattle.std.specs.Prelude.{Option, Some, None}
use Rattle.choosing.specs.Choosing.{Choosing, Watching, as_move}
use Rattle.movelog.specs.Entry.{move_by}
use Rattle.movelog.specs.declared.Step.{Step}
use Rattle.migration.specs.Settling.{Settling, Ended}
use Rattle.migration.proofs.Taken.{Taken, begin, onto, taken_well, taken_few, taken_n, taken_all}

-- ---- no step

pub none_taken : {m : Machine} {ps cs ms ks flat old : List ℕ} {r : Record} → Settling m ps cs ms ks flat r → next m ≡ none
    → Ended (settle_all m) ps cs ks flat old old 0 r
unfolding log_numbers
none_taken {m} {ps} {cs} {ms} {ks} {flat} {old} {r} s h =
    subst (λ (q : Settled). Ended q ps cs ks flat old old 0 r) (sym (settled_stop m h))
    (record { held = s.held; cpus = s.cpus; moves = refl; logs = refl })

-- ---- what a step is chosen from

pub to_choose : {m : Machine} {n : ℕ} {ps cs ms ks flat : List ℕ} {r : Record} → Settling m ps cs ms ks flat r → n ≡ m.n
    → Choosing m n ps cs ms ks flat r.masks r.words r.levels
unfolding record_of
to_choose s h =
    record {
      looking = record { well = s.well; prio = s.held.prio; mask = s.masks; counts = s.held.counts; rows = s.held.rows };
      cpus = h;
      cpu = s.cpus;
      masks = ap (λ (q : Record). q.masks) s.held.levels;
      words = ap (λ (q : Record). q.words) s.held.levels;
      levels = ap (λ (q : Record). q.levels) s.held.levels;
    }

pub to_watch : {m : Machine} {n : ℕ} {ps cs ms ks flat : List ℕ} {r : Record} → Settling m ps cs ms ks flat r → n ≡ m.n → Watching m n ps ks flat r.masks r.words
unfolding record_of
to_watch s h =
    record {
      looking = record { well = s.well; prio = s.held.prio; mask = refl; counts = s.held.counts; rows = s.held.rows };
      cpus = h;
      masks = ap (λ (q : Record). q.masks) s.held.levels;
      words = ap (λ (q : Record). q.words) s.held.levels;
    }

-- ---- the steps so far

pub record Going (m : Machine) (ps cs ms ks flat old log : List ℕ) (k : ℕ) (r : Record) (Known : Machine → Type 0) : Type 0 where
  pub steps : List Move
  pub reached : Machine
  pub taken : Taken m steps reached
  pub held : Held reached ps ks flat r
  pub cpus : cs ≡ reached.cpu
  pub masks : ms ≡ reached.mask
  pub moves : k ≡ length steps
  pub logs : log ≡ logged steps old
  -- what is known
  pub known : Known reached

pub going_start : {m : Machine} {ps cs ms ks flat old : List ℕ} {r : Record} → Settling m ps cs ms ks flat r → (Known : Machine → Type 0) → Known m
    → Going m ps cs ms ks flat old old 0 r Known
unfolding log_numbers
going_start {m} s Known known =
    record { steps = []; reached = m; taken = begin; held = s.held; cpus = s.cpus; masks = s.masks; moves = refl; logs = refl; known = known }

module _ {m : Machine} (w : WellFormed m) {ps cs ms ks flat old log : List ℕ} {k : ℕ} {r : Record} {Known : Machine → Type 0} (g : Going m ps cs ms ks flat old log k r Known) where
  abbrev e : Machine
  e = g.reached

  pub here : WellFormed e
  here = taken_well w g.taken

  pub same_n : e.n ≡ m.n
  same_n = taken_n g.taken

  -- fewer than N steps so far
  pub few : k < m.n
  few = omega (arith, taken_few w g.taken, g.moves)

  -- and where one more applies, fewer than N with it
  pub more_few : {v : Move} → next e ≡ some v → suc k < m.n
  more_few {v} n = omega (arith, taken_few w (onto g.taken n), length-append g.steps (v ∷ []), g.moves)

  -- the step that was chosen applies
  pub applies : (o : Option Step) (s : Step) → as_move o ≡ next e → o ≡ Some s → next e ≡ some (move_by s)
  applies o s is n = sym is ∙ ap as_move n

  -- or none does
  pub none_applies : (o : Option Step) → as_move o ≡ next e → o ≡ None → next e ≡ none
  none_applies o is n = sym is ∙ ap as_move n

  module _ {v : Move} (n : next e ≡ some v) where
    pub takes : Chosen e v
    takes = chosen e v here n

    pub target_small : v.target < m.n
    target_small = subst (λ (i : ℕ). v.target < i) same_n takes.small

    pub origin_low : v.origin < m.n
    origin_low = subst (λ (i : ℕ). v.origin < i) same_n (origin_small e v here takes)

  -- what the next step is chosen from
  pub choosing : {n : ℕ} → n ≡ m.n → Choosing e n ps cs ms ks flat r.masks r.words r.levels
  choosing h = to_choose (record { well = here; held = g.held; cpus = g.cpus; masks = g.masks }) (h ∙ sym same_n)

  -- no step applies: the steps have ended
  pub going_end : next e ≡ none → Ended (settle_all m) ps cs ks flat old log k r
  going_end h =
      subst (λ (s : Settled). Ended s ps cs ks flat old log k r) (sym (taken_all w g.taken h))
      (record { held = g.held; cpus = g.cpus; moves = g.moves; logs = g.logs })

  -- the task that runs on CPU d, as the rows have it
  pub runs_lent : (d : ℕ) → d < e.n → get_or flat (d * task_places) 0 ≡ or_nothing (running e d)
  runs_lent d h =
      ap (λ (q : List ℕ). get_or q (d * task_places) 0) g.held.rows
      ∙ flat_first e.rows g.held.order.fits d (subst (λ (l : ℕ). d < l) (sym g.held.order.rows) h)

  -- one step more
  pub going_on : {v : Move} → next e ≡ some v → entry_width * suc k ≤ length old → {cs' ks' flat' log' : List ℕ} {r' : Record} (Known' : Machine → Type 0)
      → Held (migrate v e) ps ks' flat' r' → cs' ≡ set cs v.task v.target → log' ≡ sets log (k * entry_width) (entry_numbers v)
      → Known' (migrate v e) → Going m ps cs' ms ks' flat' old log' (k + 1) r' Known'
  going_on {v} n h Known' held ec el known =
      record {
        steps = g.steps ++ v ∷ [];
        reached = migrate v e;
        taken = onto g.taken n;
        held = held;
        cpus = ec ∙ ap (λ (q : List ℕ). set q v.task v.target) g.cpus;
        masks = g.masks;
        moves = ap (λ (i : ℕ). i + 1) g.moves ∙ sym (length-append g.steps (v ∷ []));
        logs = el ∙ ap (λ (q : List ℕ). sets q (k * entry_width) (entry_numbers v)) g.logs ∙ logged_snoc g.steps v old k g.moves h;
        known = known;
      }

  -- lengths stay
  pub going_cpus : length cs ≡ task_places
  going_cpus = ap length g.cpus ∙ here.shape.cpu

  pub going_rows : length flat ≡ task_places * m.n
  going_rows =
      let a : length (flat_of e.rows) ≡ task_places * length e.rows = length_flat e.rows g.held.order.fits in
      let b : length flat ≡ length (flat_of e.rows) = ap length g.held.rows in
      omega (arith, g.held.order.rows, same_n)

  pub going_counts : length ks ≡ m.n
  going_counts = ap length g.held.counts ∙ length-map e.rows (λ (q : List ℕ). length q) ∙ g.held.order.rows ∙ same_n

  pub going_log : length old ≡ log_places → length log ≡ length old
  going_log h = ap length g.logs ∙ length_logged g.steps old (omega (arith, few, g.moves, w.shape.cpus))
