-- An event's own effect by what was decided: a refusal, nothing, or a plan whose task has gone where it says.
-- Assumes nothing.
use mathlib.Core.Path.{◌≡◌, refl, sym, ap, ◌∙◌, subst, subst₂}
use mathlib.Core.Bool.{Bool, true, false, cond, true≢false}
use mathlib.Core.List.{List}
use mathlib.Core.Logic.{◌⊎◌, inl, inr}
use mathlib.Core.Option.{none}
use Prim.Native.Nat.{ℕ, ◌≤◌, ◌<◌}
use lib.ListN.{length, set, get_or}
use lib.Seq.{set-get_or}
use borrow.Author.Tests.{eq-eqb, ne_eqb}
use Rattle.levels.specs.declared.record.Record.{Record}
use Rattle.rules.specs.Machine.{Machine, Task, Column, task_of, store, write, task_places, cpu_places}
use Rattle.rules.specs.Events.{Event, effect}
use Rattle.rules.specs.Migration.{next}
use Rattle.rules.specs.Plan.{Plan, carried, rewrite, reorder, shift, with_slice, Doable, Carries}
use Rattle.rules.specs.Refusals.{refusal}
use Rattle.rules.specs.Answers.{number_of}
use Rattle.rules.specs.declared.answer.Refusal.{Refusal}
use Rattle.rules.proofs.Answers.{number_some}
use Rattle.std.specs.Prelude.{Option, None, Some, is_some, unwrap_or, option_map, Result, Ok, Err, IsErrAnd}
use Rattle.rules.specs.WellFormed.{WellFormed}
use Rattle.laws.proofs.Effects.{keep_effect}
use Rattle.laws.proofs.Touched.{limited_settled}
use Rattle.plans.proofs.Planned.{write_slice}
use Rattle.plans.specs.Decided.{as_task, as_plan, Named, Planned, Reorders, Requeues, Shifts}
use Rattle.plans.specs.declared.plan.Task.{Task as Columns}
use Rattle.plans.specs.declared.plan.Entry.{Entry}
use Rattle.plans.specs.declared.plan.Plan.{Plan as Written}
use Rattle.plans.specs.declared.plan.Decision.TheVariants.{Place}
use Rattle.deciding.specs.Subject.{entries, LentRows}
use Rattle.carrying.specs.Holds.{Holds, Placeable}
use Rattle.carrying.proofs.Placing.{column, flags_kept, online_kept}
use Rattle.hinting.specs.Hinted.{candidates, Among}
use Rattle.hinting.specs.Past.{past_of, candidates_since}
use Rattle.hinting.specs.declared.hint.Candidates.{Candidates}
use Rattle.hinting.proofs.Events.{event_among}
use Rattle.queueing.specs.Moved.{Moving, Moved}
use Rattle.effect.specs.Effected.{Lends, Effected}

-- ---- where a plan enters a row

abbrev pub target_of : Option Entry → ℕ
target_of o = unwrap_or (option_map (λ (n : Entry). n.target) o) 0

abbrev front_of : Option Entry → Bool
front_of o = unwrap_or (option_map (λ (n : Entry). n.front) o) false

does_enter : {o : Option Entry} {n : Entry} → o ≡ Some n → is_some o ≡ true
does_enter z = ap (λ (o : Option Entry). is_some o) z

-- ---- a plan by its shape: the task stays where it is, or goes one of several ways

module _ (q : Written) (t : ℕ) (τ : Task) {A : Type 0} (way : A → Plan) (enters : (a : A) → (way a).enters ≡ true) (same : (a : A) → ((way a).task ≡ t) × ((way a).becomes ≡ τ)) where
  abbrev Shape : Type 0
  Shape = (as_plan q ≡ rewrite t τ) ⊎ ((a : A) × (as_plan q ≡ way a))

  stays : Shape → q.enters ≡ None → as_plan q ≡ rewrite q.task (as_task q.becomes)
  stays (inl e) z = e ∙ ap (λ (p : Plan). rewrite p.task p.becomes) (sym e)
  stays (inr (a, e)) z = absurd (true≢false (sym (ap (λ (p : Plan). p.enters) e ∙ enters a) ∙ ap (λ (o : Option Entry). is_some o) z))

  goes : Shape → (as_plan q).enters ≡ true → (a : A) × (as_plan q ≡ way a)
  goes (inl e) z = absurd (true≢false (sym z ∙ ap (λ (p : Plan). p.enters) e))
  goes (inr w) z = w

  about : Shape → (q.task ≡ t) × (as_task q.becomes ≡ τ)
  about (inl e) = (ap (λ (p : Plan). p.task) e, ap (λ (p : Plan). p.becomes) e)
  about (inr (a, e)) = (ap (λ (p : Plan). p.task) e ∙ (same a).0, ap (λ (p : Plan). p.becomes) e ∙ (same a).1)

module _ (q : Written) (t c : ℕ) (τ : Task) where
  -- to another place in its row
  abbrev place : Bool → Plan
  place f = reorder f t c τ

  pub stays_there : Reorders t c τ (as_plan q) → q.enters ≡ None → as_plan q ≡ rewrite q.task (as_task q.becomes)
  stays_there = stays q t τ place (λ f. refl) (λ f. (refl, refl))

  pub takes_place : {n : Entry} → Reorders t c τ (as_plan q) → q.enters ≡ Some n → as_plan q ≡ reorder n.front q.task n.target (as_task q.becomes)
  takes_place k z =
      let e = (goes q t τ place (λ f. refl) (λ f. (refl, refl)) k (does_enter z)).1 in
      e ∙ ap (λ (p : Plan). reorder p.front p.task p.target p.becomes) (sym e)
      ∙ ap (λ (o : Option Entry). reorder (front_of o) q.task (target_of o) (as_task q.becomes)) z

  pub reorders_task : Reorders t c τ (as_plan q) → (q.task ≡ t) × (as_task q.becomes ≡ τ)
  reorders_task = about q t τ place (λ f. refl) (λ f. (refl, refl))

  -- behind its equals
  behind : Requeues t c τ (as_plan q) → Reorders t c τ (as_plan q)
  behind (inl e) = inl e
  behind (inr e) = inr (false, e)

  pub stays_first : Requeues t c τ (as_plan q) → q.enters ≡ None → as_plan q ≡ rewrite q.task (as_task q.becomes)
  stays_first k = stays_there (behind k)

  pub goes_behind : {n : Entry} → Requeues t c τ (as_plan q) → q.enters ≡ Some n
      → (as_plan q ≡ reorder false q.task n.target (as_task q.becomes)) × (n.target ≡ c)
  goes_behind (inl e) z = absurd (true≢false (sym (does_enter z) ∙ ap (λ (p : Plan). p.enters) e))
  goes_behind (inr e) z = (
    e ∙ ap (λ (p : Plan). reorder false p.task p.target p.becomes) (sym e)
        ∙ ap (λ (o : Option Entry). reorder false q.task (target_of o) (as_task q.becomes)) z,
    sym (ap target_of z) ∙ ap (λ (p : Plan). p.target) e,
  )

  pub requeues_task : Requeues t c τ (as_plan q) → (q.task ≡ t) × (as_task q.becomes ≡ τ)
  requeues_task k = reorders_task (behind k)

  -- to another row
  abbrev row_of : ℕ → Plan
  row_of d = shift t c τ d

  pub stays_in_row : Shifts t c τ (as_plan q) → q.enters ≡ None → as_plan q ≡ rewrite q.task (as_task q.becomes)
  stays_in_row = stays q t τ row_of (λ d. refl) (λ d. (refl, refl))

  pub changes_row : {n : Entry} → Shifts t c τ (as_plan q) → q.enters ≡ Some n → as_plan q ≡ shift q.task c (as_task q.becomes) n.target
  changes_row k z =
      let e = (goes q t τ row_of (λ d. refl) (λ d. (refl, refl)) k (does_enter z)).1 in
      e ∙ ap (λ (p : Plan). shift p.task c p.becomes p.target) (sym e)
      ∙ ap (λ (o : Option Entry). shift q.task c (as_task q.becomes) (target_of o)) z

  pub shifts_task : Shifts t c τ (as_plan q) → (q.task ≡ t) × (as_task q.becomes ≡ τ)
  shifts_task = about q t τ row_of (λ d. refl) (λ d. (refl, refl))

-- the event is accepted, and its own effect is the plan q
abbrev pub Plans : Machine → Event → Written → Type 0
Plans m e q = Planned (refusal m e) (effect e m) m (Ok q)

-- a task that is placed is one
pub place_task : (m : Machine) (e : Event) (q : Written) → Plans m e q → q.task < task_places
place_task m e q d = d.1.doable.task

-- a column in which a task's entry is what it was
pub unchanged : {xs ys : List ℕ} (t : ℕ) {v : ℕ} → xs ≡ ys → v ≡ get_or ys t 0 → xs ≡ set ys t v
unchanged {xs} {ys} t e is = e ∙ sym (ap (set ys t) is ∙ set-get_or ys t 0)

-- and one in which it is written
pub written : {xs ys : List ℕ} (t v : ℕ) → xs ≡ ys → set xs t v ≡ set ys t v
written t v e = ap (λ (zs : List ℕ). set zs t v) e

module _ {m : Machine} {ss ps qs cs ls ks flat ns fs : List ℕ} {on : ℕ} {r : Record} (l : Lends m ss ps qs cs ls ks flat ns fs on r) where
  -- the six columns have their lengths
  pub sized : (length ss ≡ task_places)
      × ((length ps ≡ task_places) × ((length qs ≡ task_places) × ((length cs ≡ task_places) × ((length ls ≡ task_places) × (length ks ≡ task_places)))))
  sized =
      let h = l.holds in
      let s = l.formed.shape in (
        ap length h.state ∙ s.state,
        (
          ap length h.policy ∙ s.policy,
          (
            ap length h.prio ∙ s.prio,
            (ap length h.cpu ∙ s.cpu, (ap length h.slice ∙ s.slice, ap length h.mask ∙ s.mask)),
          ),
        ),
      )

  -- what was read of task t
  pub columns_are : (t : ℕ) {τ : Columns} → as_task τ ≡ entries ss ps qs cs ls ks t → as_task τ ≡ task_of m t
  columns_are t read = let h = l.holds in read ∙ (λ i. entries (h.state i) (h.policy i) (h.prio i) (h.cpu i) (h.slice i) (h.mask i) t)

  pub named_is : (t : ℕ) {τ : Columns} → as_task τ ≡ entries ss ps qs cs ls ks t → Named m t τ
  named_is t read = record { formed = l.formed; columns = columns_are t read }

  pub lent_rows : {n : ℕ} → n ≡ m.n → LentRows m n flat ns
  lent_rows is = record { formed = l.formed; cpus = is; rows = l.holds.rows; counts = l.holds.counts }

  pub few_cpus : {n : ℕ} → n ≡ m.n → n ≤ cpu_places
  few_cpus is = subst (λ (x : ℕ). x ≤ cpu_places) (sym is) l.formed.shape.cpus

  module _ (e : Event) where
    pub refused_is : {x : Refusal} → number_of x ≡ refusal m e → Effected m e (Err x) ss ps qs cs ls ks flat ns fs on r
    refused_is {x} is =
        record {
          answer = is;
          holds = subst (λ (b : Bool). Holds (cond b (effect e m) m) ss ps qs cs ls ks flat ns fs on r)
              (sym (ne_eqb (refusal m e) 0 (λ z. number_some x (is ∙ z)))) l.holds;
          few = tt;
        }

    -- one that `?` passes on
    pub passed_on : (x : Refusal) (o : Result Candidates Refusal) → IsErrAnd o (λ y. y ≡ x) → number_of x ≡ refusal m e → Effected m e o ss ps qs cs ls ks flat ns fs on r
    passed_on x (Ok f) h is = absurd h
    passed_on x (Err y) h is = refused_is (ap number_of h ∙ is)

    pub nothing_is : 0 ≡ refusal m e → effect e m ≡ m → Effected m e (Ok (candidates none none)) ss ps qs cs ls ks flat ns fs on r
    nothing_is accepted same =
        record {
          answer = accepted;
          holds = subst (λ (b : Bool). Holds (cond b (effect e m) m) ss ps qs cs ls ks flat ns fs on r) (sym (eq-eqb (refusal m e) 0 (sym accepted)))
              (subst (λ (x : Machine). Holds x ss ps qs cs ls ks flat ns fs on r) (sym same) l.holds);
          few = λ still. subst (λ (x : Machine). Among x (candidates none none)) (sym same) (limited_settled m still);
        }

    -- another slice, and nothing else: nobody looks at it
    pub sliced_is : (q : Written) {ls' : List ℕ} (v : ℕ) → Plans m e q → as_plan q ≡ rewrite q.task (as_task q.becomes)
        → as_task q.becomes ≡ with_slice v (task_of m q.task) → ls' ≡ set m.slice q.task q.becomes.slice
        → Effected m e (Ok (candidates none none)) ss ps qs cs ls' ks flat ns fs on r
    sliced_is q {ls'} v d shape becomes el =
        record {
          answer = d.0;
          holds = subst (λ (b : Bool). Holds (cond b (effect e m) m) ss ps qs cs ls' ks flat ns fs on r) (sym (eq-eqb (refusal m e) 0 (sym d.0)))
              (subst (λ (b : Machine). Holds b ss ps qs cs ls' ks flat ns fs on r) (sym sliced) all);
          few = λ still.
              subst (λ (x : Machine). Among x (candidates none none)) (sym sliced)
              (let s = limited_settled m still in record { small = s.small; waits = s.waits; only = s.only; quiet = s.quiet });
        }
      where
        sliced : effect e m ≡ store Column.slice q.task v m
        sliced =
            d.1.effect ∙ ap (λ (p : Plan). carried p m) shape ∙ ap (λ (τ : Task). write q.task τ m) becomes ∙ write_slice q.task v m

        all : Holds (store Column.slice q.task v m) ss ps qs cs ls' ks flat ns fs on r
        all =
            record {
              state = l.holds.state;
              policy = l.holds.policy;
              prio = l.holds.prio;
              cpu = l.holds.cpu;
              slice = el ∙ ap (λ (τ : Task). set m.slice q.task τ.slice) becomes;
              mask = l.holds.mask;
              rows = l.holds.rows;
              counts = l.holds.counts;
              flags = l.holds.flags;
              online = l.holds.online;
              levels = l.holds.levels;
            }

    module _ (q : Written) (d : Plans m e q) {p : Plan} (shape : as_plan q ≡ p) where
      carries : (0 ≡ refusal m e) × Carries (effect e m) m p
      carries = (d.0, subst (Carries (effect e m) m) shape d.1)

      formed_after : WellFormed (carried p m)
      formed_after = subst WellFormed carries.1.effect (keep_effect m e l.formed (sym carries.0))

      -- its columns are written
      pub moving : {ss' qs' : List ℕ} → p.becomes.cpu ≡ (task_of m p.task).cpu → ss' ≡ set m.state p.task p.becomes.state
          → qs' ≡ set m.prio p.task p.becomes.prio → Moving m p ss' qs' cs flat ns fs r
      moving home es eq =
          record {
            formed = l.formed;
            ready = carries.1.doable;
            after = formed_after;
            home = home;
            state = es;
            prio = eq;
            cpu = l.holds.cpu;
            rows = l.holds.rows;
            counts = l.holds.counts;
            flags = l.holds.flags;
            levels = l.holds.levels;
          }

      among : next m ≡ none → Among (carried p m) (candidates_since (past_of m p.task) (carried p m))
      among still =
          subst (λ (x : Plan). Among (carried x m) (candidates_since (past_of m x.task) (carried x m))) shape
          (event_among m l.formed still (Place q) (subst (Doable m) (sym shape) carries.1.doable) (subst (λ (x : Plan). WellFormed (carried x m)) (sym shape) formed_after))

      own : Placeable m m.state m.policy m.prio m.cpu m.slice m.mask flat ns fs r p
      own =
          record {
            formed = l.formed;
            holds = record {
              state = refl;
              policy = refl;
              prio = refl;
              cpu = refl;
              slice = refl;
              mask = refl;
              rows = l.holds.rows;
              counts = l.holds.counts;
              flags = l.holds.flags;
              online = refl;
              levels = l.holds.levels;
            };
            ready = carries.1.doable;
          }

      -- and its task has gone where it says
      pub placed_is : {x : Candidates} {ss' ps' qs' cs' ls' ks' flat' ns' : List ℕ} {r' : Record} → ss' ≡ set m.state p.task p.becomes.state
          → ps' ≡ set m.policy p.task p.becomes.policy → qs' ≡ set m.prio p.task p.becomes.prio
          → ls' ≡ set m.slice p.task p.becomes.slice → ks' ≡ set m.mask p.task p.becomes.mask → Moved x m p cs' flat' ns' r'
          → Effected m e (Ok x) ss' ps' qs' cs' ls' ks' flat' ns' fs on r'
      placed_is {x} {ss'} {ps'} {qs'} {cs'} {ls'} {ks'} {flat'} {ns'} {r'} es ep eq el ek go =
          record {
            answer = carries.0;
            holds = subst (λ (b : Bool). Holds (cond b (effect e m) m) ss' ps' qs' cs' ls' ks' flat' ns' fs on r') (sym (eq-eqb (refusal m e) 0 (sym carries.0)))
                (subst (λ (b : Machine). Holds b ss' ps' qs' cs' ls' ks' flat' ns' fs on r') (sym carries.1.effect) all);
            few = λ still. subst₂ Among (sym carries.1.effect) (sym go.few) (among still);
          }
        where
          all : Holds (carried p m) ss' ps' qs' cs' ls' ks' flat' ns' fs on r'
          all =
              record {
                state = es ∙ column own (λ d. d.state) p.becomes.state (λ d. refl) (λ c d. refl) (λ c d. refl);
                policy = ep ∙ column own (λ d. d.policy) p.becomes.policy (λ d. refl) (λ c d. refl) (λ c d. refl);
                prio = eq ∙ column own (λ d. d.prio) p.becomes.prio (λ d. refl) (λ c d. refl) (λ c d. refl);
                cpu = go.cpu;
                slice = el ∙ column own (λ d. d.slice) p.becomes.slice (λ d. refl) (λ c d. refl) (λ c d. refl);
                mask = ek ∙ column own (λ d. d.mask) p.becomes.mask (λ d. refl) (λ c d. refl) (λ c d. refl);
                rows = go.rows;
                counts = go.counts;
                flags = l.holds.flags ∙ sym (flags_kept own);
                online = l.holds.online ∙ sym (online_kept own);
                levels = go.levels;
              }
