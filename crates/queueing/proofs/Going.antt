-- A plan whose columns are written: what leaving, entering and following need, and what they leave.
-- Assumes nothing.
use mathlib.Core.Path.{◌≡◌, refl, sym, ap, ◌∙◌, subst}
use mathlib.Core.Bool.{Bool, true, false, cond, ◌&&◌}
use mathlib.Core.Logic.{◌≢◌, ◌⊎◌, inl, inr}
use mathlib.Core.List.{List}
use Prim.Native.Nat.{ℕ, ◌*◌, ◌≤◌, ◌<◌}
use native.Mathlib.Omega.{arith}
use lib.Dec.{eqb, ltb}
use lib.ListN.{length, set, get_or}
use lib.Seq.{get_or-set_same, set-get_or, set-set}
use Rattle.cpupri.specs.Record.{record_of}
use Rattle.levels.specs.declared.record.Record.{Record}
use Rattle.rules.specs.Lists.{delete}
use Rattle.rules.specs.Machine.{Machine, Task, task_of, row, running, level, levels, write, queued, entry_key, dequeue, runnable, task_places, highest_priority}
use Rattle.rules.specs.Plan.{Plan, reorder, left, carried}
use Rattle.rules.specs.Tables.{flat_of, row_counts}
use Rattle.rules.specs.WellFormed.{WellFormed}
use Rattle.laws.specs.Limited.{holds}
use Rattle.laws.proofs.Apart.{in_row}
use Rattle.laws.proofs.Limited.{first_in, holds_some}
use Rattle.runqueue.specs.Row.{Reorderable}
use Rattle.runqueue.specs.Table.{HoldsRows, row_at, rows_with}
use Rattle.placement.specs.Held.{Queues, Entering, followed}
use Rattle.placement.proofs.Joining.{has_left, can_reorder, has_reordered}
use Rattle.parts.proofs.Optional.{may_enter}
use Rattle.carrying.specs.Holds.{Holds, Placeable}
use Rattle.carrying.proofs.Placing.{leaves, enters, placed, cpus_kept, column}
use Rattle.std.specs.Prelude.{Option}
use Rattle.std.specs.Bool.{then_some}
use Rattle.hinting.specs.Hinted.{coded}
use Rattle.hinting.specs.Past.{Reading, Standing, past_of, new_since, candidates_since}
use Rattle.hinting.specs.declared.past.Past.TheVariants.{Task as stood}
use Rattle.hinting.proofs.Events.{cpu_small}
use Rattle.hinting.proofs.Lent.{seen, level_is, cpu_is, past_is, since_is, unlevelled}
use Rattle.hinting.specs.declared.hint.Candidates.{Candidates}
use Rattle.queueing.specs.Moved.{Moving, Moved}

-- a record that is one of levels is that of its own levels
pub after_own : {q : Record} (xs : List ℕ) → q ≡ record_of xs → q ≡ record_of q.levels
unfolding record_of
after_own xs e = e ∙ ap (λ (q : Record). record_of q.levels) (sym e)

module _ {m : Machine} {p : Plan} {ss qs cs flat ns fs : List ℕ} {r : Record} (k : Moving m p ss qs cs flat ns fs r) where
  -- the machine's own columns, with the lent rows and the lent record
  pub own : Placeable m m.state m.policy m.prio m.cpu m.slice m.mask flat ns fs r p
  own =
      record {
        formed = k.formed;
        holds = record {
          state = refl;
          policy = refl;
          prio = refl;
          cpu = refl;
          slice = refl;
          mask = refl;
          rows = k.rows;
          counts = k.counts;
          flags = k.flags;
          online = refl;
          levels = k.levels;
        };
        ready = k.ready;
      }

  pub cpus_long : length cs ≡ task_places
  cpus_long = ap length k.cpu ∙ k.formed.shape.cpu

  -- before
  pub reading : Reading m cs flat r.levels
  unfolding record_of
  reading = record { well = k.formed; cpu = k.cpu; rows = k.rows; levels = ap (λ (q : Record). q.levels) k.levels }

  -- its CPU is what it was until it enters
  cpu_written : cs ≡ set m.cpu p.task p.becomes.cpu
  cpu_written = k.cpu ∙ sym (ap (set m.cpu p.task) k.home ∙ set-get_or m.cpu p.task 0)

  -- where no level is to follow, the record is as it was
  pub unfollowed : r ≡ record_of r.levels
  unfollowed = after_own (levels m) k.levels

  -- a level that stays has followed
  pub level_kept : (c : ℕ) → c < m.n → level (carried p m) c ≡ level m c → r ≡ record_of (followed true c (carried p m) r.levels)
  level_kept c h e = unfollowed ∙ ap record_of (sym (ap (set r.levels c) (e ∙ sym (level_is reading c h)) ∙ set-get_or r.levels c 0))

  -- its state and its CPU, once it has entered
  pub state_is : get_or ss p.task 0 ≡ p.becomes.state
  state_is = ap (λ (xs : List ℕ). get_or xs p.task 0) k.state ∙ get_or-set_same m.state p.task p.becomes.state 0 (omega (arith, k.formed.shape.state, k.ready.task))

  pub cpu_entered : {cs' : List ℕ} → cs' ≡ set cs p.task p.target → get_or cs' p.task 0 ≡ p.target
  cpu_entered e = ap (λ (xs : List ℕ). get_or xs p.task 0) e ∙ get_or-set_same cs p.task p.target 0 (omega (arith, cpus_long, k.ready.task))

  -- a level that followed once has followed twice
  pub twice : {q : Record} → q ≡ record_of (followed true p.origin (carried p m) r.levels)
      → q ≡ record_of (followed true p.origin (carried p m) (record_of (followed true p.origin (carried p m) r.levels)).levels)
  unfolding record_of
  twice e = let v : ℕ = level (carried p m) p.origin in e ∙ ap record_of (sym (set-set r.levels p.origin v v))

  -- ---- after

  pub state_after : ss ≡ (carried p m).state
  state_after = k.state ∙ column own (λ d. d.state) p.becomes.state (λ d. refl) (λ c d. refl) (λ c d. refl)

  pub stands : Standing (carried p m) (past_of m p.task)
  stands = (k.ready.task, subst (λ (n : ℕ). (task_of m p.task).cpu < n) (sym (cpus_kept own)) (cpu_small m p.task k.formed k.ready.task))

  module _ {ns' flat' ns'' flat'' : List ℕ} (o : Queues (left p m) ns' flat') (e : Queues (carried p m) ns'' flat'') {cs'' : List ℕ} {r' r'' : Record}
      (entered : cs'' ≡ cond p.enters (set cs p.task p.target) cs) (e' : r' ≡ record_of (followed p.leaves p.origin (carried p m) r.levels))
      (e'' : r'' ≡ record_of (followed p.enters p.target (carried p m) r'.levels)) where
    all : Holds (carried p m) (set m.state p.task p.becomes.state) (set m.policy p.task p.becomes.policy) qs cs''
        (set m.slice p.task p.becomes.slice) (set m.mask p.task p.becomes.mask) flat'' ns'' fs m.online r''
    all = placed own o k.prio e refl refl cpu_written refl refl entered e' e''

    pub reading_after : Reading (carried p m) cs'' flat'' r''.levels
    unfolding record_of
    reading_after = record { well = k.after; cpu = all.cpu; rows = all.rows; levels = ap (λ (q : Record). q.levels) all.levels }

    pub moved : {few : Candidates} → few ≡ candidates_since (past_of m p.task) (carried p m) → Moved few m p cs'' flat'' ns'' r''
    moved is = record { cpu = all.cpu; rows = all.rows; counts = all.counts; levels = all.levels; few = is }

  -- the levels are not read
  pub reading_now : {ns' flat' ns'' flat'' : List ℕ} → Queues (left p m) ns' flat' → Queues (carried p m) ns'' flat'' → {cs'' : List ℕ}
      → cs'' ≡ cond p.enters (set cs p.task p.target) cs → Reading (carried p m) cs'' flat'' (levels (carried p m))
  reading_now o e entered = unlevelled (reading_after o e entered refl refl)

  pub in_rows : (c : ℕ) → c < m.n → c < length m.rows
  in_rows c h = omega (arith, k.formed.shape.rows)

  -- ---- who can move, where it stood in row c

  module _ (c : ℕ) (h : c < m.n) (home : (task_of m p.task).cpu ≡ c) where
    past_there : stood p.task c (get_or r.levels c 0) (eqb (get_or flat (c * task_places) 0) p.task) ≡ past_of m p.task
    past_there =
        ap (λ (x : ℕ). stood p.task x (get_or r.levels x 0) (eqb (get_or flat (x * task_places) 0) p.task)) (sym (cpu_is reading p.task ∙ home))
        ∙ past_is reading p.task k.ready.task

    -- b: it ran there
    pub few_since : {cs' flat' ls' : List ℕ} → Reading (carried p m) cs' flat' ls' → (b : Bool) → eqb (get_or flat (c * task_places) 0) p.task ≡ b
        → {fallen new : Option ℕ} → fallen ≡ then_some (b && ltb (get_or ls' c 0) (get_or r.levels c 0)) c → new ≡ coded (new_since p.task c b (carried p m))
        → seen fallen new ≡ candidates_since (past_of m p.task) (carried p m)
    few_since a b eb ef en =
        since_is a p.task c (get_or r.levels c 0) b (past_of m p.task) (sym past_there ∙ ap (stood p.task c (get_or r.levels c 0)) eb)
        (subst (λ (n : ℕ). c < n) (sym (cpus_kept own)) h) ef en

-- ---- another place in the row that it stands in

module _ {m : Machine} {front : Bool} {t c : ℕ} {τ : Task} {ss qs cs flat ns fs : List ℕ} {r : Record} (k : Moving m (reorder front t c τ) ss qs cs flat ns fs r) where
  -- the rows without it, which stand in no table
  abbrev without : List (List ℕ)
  without = rows_with ns flat c (delete t (row_at ns flat c))

  pub left_out : Queues (dequeue t c m) (row_counts without) (flat_of without)
  left_out = has_left m t (leaves (own k)).queues k.ready.leaves.0 k.ready.leaves.1 refl refl

  entering : Entering (write t τ (dequeue t c m)) qs (row_counts without) (flat_of without) (record_of (levels (write t τ (dequeue t c m)))) t c
  entering = may_enter (enters (own k) left_out k.prio)

  -- what `runqueue::table::reorder` asks
  pub reorderable : HoldsRows ns flat × ((c < length ns) × ((length qs ≡ task_places) × ((get_or qs t 0 ≤ highest_priority) × Reorderable qs t (row_at ns flat c))))
  reorderable = can_reorder m (leaves (own k)).queues k.ready.leaves.0 k.ready.leaves.1 _ entering

  pub reordered : {flat' : List ℕ} → let place = queued (entry_key front (get_or qs t 0)) (λ (u : ℕ). get_or qs u 0) t (delete t (row_at ns flat c)) in
      flat' ≡ flat_of (rows_with ns flat c place) → ns ≡ row_counts (rows_with ns flat c place) → Queues (carried (reorder front t c τ) m) ns flat'
  reordered ef ek =
      let h = has_reordered m (leaves (own k)).queues k.ready.leaves.0 k.ready.leaves.1 _ entering front ef ek in
      record { order = h.order; prio = refl; counts = h.counts; rows = h.rows; levels = h.levels }

  -- its CPU is that row's already
  pub cpu_home : get_or cs t 0 ≡ c
  cpu_home = ap (λ (xs : List ℕ). get_or xs t 0) k.cpu ∙ (in_row m t c k.formed k.ready.leaves.1).1

  pub cpu_kept : cs ≡ set cs t c
  cpu_kept = sym (ap (set cs t) (sym cpu_home) ∙ set-get_or cs t 0)

-- who is not runnable runs nowhere
pub not_running : (m : Machine) (t c : ℕ) → WellFormed m → (task_of m t).state ≢ runnable → holds (running m c) t ≡ false
not_running m t c w n = go (holds (running m c) t) refl
  where
    go : (b : Bool) → holds (running m c) t ≡ b → b ≡ false
    go true h = absurd (n (in_row m t c w (first_in t (row m c) (holds_some (running m c) t h))).0)
    go false h = refl

-- who enters, and does not leave, was not runnable
pub was_idle : {s x : Type 0} → s ⊎ (x × (true ≡ false)) → s
was_idle (inl n) = n
was_idle (inr e) = absurd (let bad : ◌≡◌ {A = ℕ} 0 1 = ap (λ (b : Bool). cond b 0 1) e.1 in omega arith)
