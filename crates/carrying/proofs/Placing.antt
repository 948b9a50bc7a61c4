-- A plan carried out: what leaving, writing, entering and following need and give.
-- Assumes nothing.
use mathlib.Core.Path.{◌≡◌, refl, sym, ap, ◌∙◌, subst}
use mathlib.Core.Bool.{Bool, true, false, cond, not}
use mathlib.Core.Logic.{◌≢◌, ◌⊎◌, inl, inr}
use mathlib.Core.List.{List, [], ◌∷◌}
use Prim.Native.Nat.{ℕ, ◌≤◌, ◌<◌}
use native.Mathlib.Omega.{arith}
use lib.ListN.{length, set, length-set}
use lib.Seq.{get_or-set_same, get_or-set_other, set-get_or}
use Rattle.std.specs.Prelude.{Option, None, Some, is_some, unwrap_or, option_map}
use Rattle.plans.specs.declared.plan.Entry.{Entry}
use Rattle.cpupri.specs.Record.{record_of, Whole}
use Rattle.levels.specs.declared.record.Record.{Record}
use Rattle.rules.specs.Lists.{In}
use Rattle.rules.specs.Machine.{Machine, Task, task_of, prio_of, row, is_online, idle_level, level, levels, row_level, level_of, build, write, enqueue_at, dequeue, runnable, task_places, highest_priority}
use Rattle.rules.specs.Plan.{Plan, left, wrote, carried, When}
use Rattle.rules.specs.WellFormed.{WellFormed}
use Rattle.bits.specs.Bit.{bit}
use Rattle.laws.proofs.Lists.{in_here}
use Rattle.laws.proofs.Online.{row_online}
use Rattle.laws.proofs.Apart.{Apart, apart_idle, apart_dequeue, apart_write, room, in_row, in_other}
use Rattle.laws.proofs.Rows.{row_other}
use Rattle.placement.specs.Held.{InOrder, Queues, Following, followed}
use Rattle.placement.proofs.Order.{well_formed_order, apart_order, whole as whole-held}
use Rattle.placement.proofs.Following.{levels_followed}
use Rattle.plans.specs.Columns.{Sized}
use Rattle.carrying.specs.Holds.{Holds, Placeable}
use Rattle.parts.specs.Optional.{LeavingIf, EnteringIf, FollowingIf}

-- a runnable task that leaves the row it stands in
apart_left : (t c : ℕ) (m : Machine) → WellFormed m → In t (row m c) → Apart t (dequeue t c m)
apart_left t c m w i =
    let s : ((task_of m t).state ≡ runnable) × ((task_of m t).cpu ≡ c) = in_row m t c w i in
    subst (λ (d : ℕ). Apart t (dequeue t d m)) s.1 (apart_dequeue t m w s.0)

-- ---- the columns of a task that stands in no row, or keeps its priority, are written

abbrev Free : ℕ → Task → Machine → Type 0
Free t τ m = Apart t m ⊎ (τ.prio ≡ prio_of m t)

-- a row's level looks only at the priorities of the tasks in it
row_level_cong : (p q : ℕ → ℕ) (f : ℕ) (r : List ℕ) → ((u : ℕ) → In u r → p u ≡ q u) → row_level p f r ≡ row_level q f r
row_level_cong p q f [] h = refl
row_level_cong p q f (u ∷ us) h = ap level_of (h u (in_here u us))

module _ (t : ℕ) (τ : Task) (m : Machine) where
  abbrev written : List ℕ → Machine
  written ps =
      build m.n m.full (set m.state t τ.state) (set m.policy t τ.policy) ps (set m.cpu t τ.cpu) (set m.slice t τ.slice)
      (set m.mask t τ.mask) m.rows m.flags m.online

  same_prio : τ.prio ≡ prio_of m t → set m.prio t τ.prio ≡ m.prio
  same_prio e = ap (set m.prio t) e ∙ simp set-get_or

  same_order : InOrder m → InOrder (written m.prio)
  same_order o =
      record {
        cpus = o.cpus;
        rows = o.rows;
        prios = o.prios;
        fits = o.fits;
        tasks = o.tasks;
        high = o.high;
        flags = o.flags;
        falling = o.falling;
      }

  order_write : t < task_places → InOrder m → Free t τ m → InOrder (write t τ m)
  order_write ht o (inl a) = apart_order t (write t τ m) (apart_write t m a τ) ht
  order_write ht o (inr e) = subst (λ (ps : List ℕ). InOrder (written ps)) (sym (same_prio e)) (same_order o)

  level_write : Free t τ m → (c : ℕ) → level (write t τ m) c ≡ level m c
  level_write (inl a) c =
      row_level_cong (prio_of (write t τ m)) (prio_of m) (idle_level m c) (row m c) (λ u i. get_or-set_other m.prio t u τ.prio 0 (in_other t m a c u i))
  level_write (inr e) c = ap (λ (ps : List ℕ). level (written ps) c) (same_prio e)

-- ---- the CPU whose row a plan enters, as the code takes it out of the entry

module _ {v : Option ℕ} (entry : Option Entry) (is : v ≡ option_map (λ e. e.target) entry) (A : Bool → ℕ → Type 0) where
  pub given : A (is_some entry) (unwrap_or (option_map (λ (e : Entry). e.target) entry) 0) → A (is_some v) (unwrap_or v 0)
  given h = subst (λ (o : Option ℕ). A (is_some o) (unwrap_or o 0)) (sym is) (go entry h)
    where
      go : (x : Option Entry) → A (is_some x) (unwrap_or (option_map (λ (e : Entry). e.target) x) 0)
          → A (is_some (option_map (λ (e : Entry). e.target) x)) (unwrap_or (option_map (λ (e : Entry). e.target) x) 0)
      go None h = h
      go (Some e) h = h

  pub taken : A (is_some v) (unwrap_or v 0) → A (is_some entry) (unwrap_or (option_map (λ (e : Entry). e.target) entry) 0)
  taken h = go entry (subst (λ (o : Option ℕ). A (is_some o) (unwrap_or o 0)) is h)
    where
      go : (x : Option Entry) → A (is_some (option_map (λ (e : Entry). e.target) x)) (unwrap_or (option_map (λ (e : Entry). e.target) x) 0)
          → A (is_some x) (unwrap_or (option_map (λ (e : Entry). e.target) x) 0)
      go None h = h
      go (Some e) h = h

-- ---- a plan

module _ {m : Machine} {ss ps qs cs ls ks flat ns fs : List ℕ} {r : Record} {p : Plan} (l : Placeable m ss ps qs cs ls ks flat ns fs r p) where
  abbrev t : ℕ
  t = p.task

  queues : Queues m ns flat
  queues = record { order = well_formed_order m l.formed; prio = refl; counts = l.holds.counts; rows = l.holds.rows; levels = refl }

  pub leaves : LeavingIf p.leaves m ns flat p.task p.origin
  leaves = record { queues = queues; may = l.ready.leaves }

  pub sized : Sized ss ps qs cs ls ks
  sized =
      record {
        state = ap length l.holds.state ∙ l.formed.shape.state;
        policy = ap length l.holds.policy ∙ l.formed.shape.policy;
        prio = ap length l.holds.prio ∙ l.formed.shape.prio;
        cpu = ap length l.holds.cpu ∙ l.formed.shape.cpu;
        slice = ap length l.holds.slice ∙ l.formed.shape.slice;
        mask = ap length l.holds.mask ∙ l.formed.shape.mask;
      }

  pub still_sized : {cs' : List ℕ} → cs' ≡ set cs p.task p.becomes.cpu → length cs' ≡ task_places
  still_sized e = ap length e ∙ length-set cs t p.becomes.cpu ∙ sized.cpu

  pub whole : Whole r
  whole = whole-held m _ _ _ r (record { order = queues.order; prio = l.holds.prio; counts = queues.counts; rows = queues.rows; levels = l.holds.levels })

  -- it stands in no row, or it keeps its priority and does not enter
  apart : Apart t (left p m) ⊎ ((p.becomes.prio ≡ prio_of (left p m) t) × (p.enters ≡ false))
  apart = go p.leaves l.ready.leaves l.ready.stays
    where
      go : (b : Bool) → When b ((p.origin < m.n) × In t (row m p.origin))
          → When (not b) (((task_of m t).state ≢ runnable) ⊎ ((p.becomes.prio ≡ (task_of m t).prio) × (p.enters ≡ false)))
          → Apart t (cond b (dequeue t p.origin m) m)
          ⊎ ((p.becomes.prio ≡ prio_of (cond b (dequeue t p.origin m) m) t) × (p.enters ≡ false))
      go true h s = inl (apart_left t p.origin m l.formed h.1)
      go false h (inl n) = inl (apart_idle t m l.formed n)
      go false h (inr e) = inr e

  free : Free t p.becomes (left p m)
  free = go apart
    where
      go : Apart t (left p m) ⊎ ((p.becomes.prio ≡ prio_of (left p m) t) × (p.enters ≡ false)) → Free t p.becomes (left p m)
      go (inl a) = inl a
      go (inr e) = inr e.0

  -- ---- parts that leaving and entering keep

  left_keeps : {A : Type 0} (f : Machine → A) → ((c : ℕ) (d : Machine) → f (dequeue t c d) ≡ f d) → f (left p m) ≡ f m
  left_keeps f h = go p.leaves
    where
      go : (b : Bool) → f (cond b (dequeue t p.origin m) m) ≡ f m
      go true = h p.origin m
      go false = refl

  entered_keeps : {A : Type 0} (f : Machine → A) → ((c : ℕ) (d : Machine) → f (enqueue_at p.front t c d) ≡ f d) → f (carried p m) ≡ f (wrote p m)
  entered_keeps f h = go p.enters
    where
      go : (b : Bool) → f (cond b (enqueue_at p.front t p.target (wrote p m)) (wrote p m)) ≡ f (wrote p m)
      go true = h p.target (wrote p m)
      go false = refl

  pub cpus_kept : (carried p m).n ≡ m.n
  cpus_kept = entered_keeps (λ d. d.n) (λ c d. refl) ∙ left_keeps (λ d. d.n) (λ c d. refl)

  pub flags_kept : (carried p m).flags ≡ m.flags
  flags_kept = entered_keeps (λ d. d.flags) (λ c d. refl) ∙ left_keeps (λ d. d.flags) (λ c d. refl)

  pub online_kept : (carried p m).online ≡ m.online
  online_kept = entered_keeps (λ d. d.online) (λ c d. refl) ∙ left_keeps (λ d. d.online) (λ c d. refl)

  -- a column that only the writing changes
  pub column : (f : Machine → List ℕ) (v : ℕ) → ((d : Machine) → f (write t p.becomes d) ≡ set (f d) t v)
      → ((c : ℕ) (d : Machine) → f (enqueue_at p.front t c d) ≡ f d) → ((c : ℕ) (d : Machine) → f (dequeue t c d) ≡ f d) → set (f m) t v ≡ f (carried p m)
  column f v fw fe fd = sym (entered_keeps f fe ∙ fw (left p m) ∙ ap (λ (xs : List ℕ). set xs t v) (left_keeps f fd))

  -- ---- after it left

  module _ {ns' flat' : List ℕ} (o : Queues (left p m) ns' flat') {qs' : List ℕ} (is : qs' ≡ set qs p.task p.becomes.prio) where
    prio_is : qs' ≡ (wrote p m).prio
    prio_is = is ∙ ap (λ (xs : List ℕ). set xs t p.becomes.prio) (l.holds.prio ∙ sym (left_keeps (λ d. d.prio) (λ c d. refl)))

    wrote_queues : Queues (wrote p m) ns' flat'
    wrote_queues =
        record { order = order_write t p.becomes (left p m) l.ready.task o.order free; prio = refl; counts = o.counts; rows = o.rows; levels = refl }

    pub enters : EnteringIf p.enters (wrote p m) qs' ns' flat' p.task p.target
    enters = record { queues = wrote_queues; prio = prio_is; task = l.ready.task; may = go p.enters refl l.ready.enters apart }
      where
        go : (b : Bool) → p.enters ≡ b → When b ((p.target < m.n) × (is_online m p.target ≡ true) × (p.becomes.prio ≤ highest_priority))
            → Apart t (left p m) ⊎ ((p.becomes.prio ≡ prio_of (left p m) t) × (p.enters ≡ false))
            → When b ((p.target < (wrote p m).n) × (prio_of (wrote p m) t ≤ highest_priority) × (length (row (wrote p m) p.target) < task_places))
        go false q e a = tt
        go true q e (inr f) = absurd (let bad : ◌≡◌ {A = ℕ} 0 1 = ap (λ (b : Bool). cond b 0 1) (sym q ∙ f.1) in omega arith)
        go true q e (inl a) =
            let here : t < length (left p m).prio = omega (arith, a.shape.prio, l.ready.task) in (
              subst (λ (x : ℕ). p.target < x) (sym (left_keeps (λ d. d.n) (λ c d. refl))) e.0,
              subst (λ (x : ℕ). x ≤ highest_priority) (sym (get_or-set_same (left p m).prio t p.becomes.prio 0 here)) e.2,
              room t (wrote p m) (apart_write t (left p m) a p.becomes) l.ready.task p.target,
            )

    -- ---- after it entered

    module _ {ns'' flat'' : List ℕ} (e : Queues (carried p m) ns'' flat'') where
      prio_now : qs' ≡ (carried p m).prio
      prio_now = prio_is ∙ sym (entered_keeps (λ d. d.prio) (λ c d. refl))

      following : (c : ℕ) → c < m.n → is_online m c ≡ true → Following (carried p m) qs' fs ns'' flat'' c
      following c h up =
          record {
            queues = e;
            prio = prio_now;
            flags = l.holds.flags ∙ sym flags_kept;
            flag_count = ap length flags_kept ∙ l.formed.shape.flags ∙ sym cpus_kept;
            cpu = subst (λ (x : ℕ). c < x) (sym cpus_kept) h;
            online = subst (λ (x : ℕ). bit x c ≡ true) (sym online_kept) up;
          }

      in_origin : When p.leaves (p.origin < m.n)
      in_origin = go p.leaves l.ready.leaves
        where
          go : (b : Bool) → When b ((p.origin < m.n) × In t (row m p.origin)) → When b (p.origin < m.n)
          go true h = h.0
          go false h = tt

      in_target : When p.enters (p.target < m.n)
      in_target = go p.enters l.ready.enters
        where
          go : (b : Bool) → When b ((p.target < m.n) × (is_online m p.target ≡ true) × (p.becomes.prio ≤ highest_priority)) → When b (p.target < m.n)
          go true h = h.0
          go false h = tt

      -- a task stood where it left
      pub follows_origin : FollowingIf p.leaves (carried p m) qs' fs ns'' flat'' p.origin
      follows_origin = go p.leaves l.ready.leaves
        where
          go : (b : Bool) → When b ((p.origin < m.n) × In t (row m p.origin)) → FollowingIf b (carried p m) qs' fs ns'' flat'' p.origin
          go true h = record { may = following p.origin h.0 (row_online m t p.origin l.formed h.1) }
          go false h = record { may = tt }

      pub follows_target : FollowingIf p.enters (carried p m) qs' fs ns'' flat'' p.target
      follows_target = go p.enters l.ready.enters
        where
          go : (b : Bool) → When b ((p.target < m.n) × (is_online m p.target ≡ true) × (p.becomes.prio ≤ highest_priority))
              → FollowingIf b (carried p m) qs' fs ns'' flat'' p.target
          go true h = record { may = following p.target h.0 h.1 }
          go false h = record { may = tt }

      -- no other CPU's level changed
      others : (c : ℕ) → c < m.n → (p.leaves ≡ true → c ≢ p.origin) → (p.enters ≡ true → c ≢ p.target) → level (carried p m) c ≡ level m c
      others c h away apart_from = entered p.enters apart_from ∙ level_write t p.becomes (left p m) free c ∙ gone p.leaves away
        where
          entered : (b : Bool) → (b ≡ true → c ≢ p.target) → level (cond b (enqueue_at p.front t p.target (wrote p m)) (wrote p m)) c ≡ level (wrote p m) c
          entered true n = ap (row_level (prio_of (wrote p m)) (idle_level (wrote p m) c)) (row_other (wrote p m) p.target c _ (n refl))
          entered false n = refl

          gone : (b : Bool) → (b ≡ true → c ≢ p.origin) → level (cond b (dequeue t p.origin m) m) c ≡ level m c
          gone true n = ap (row_level (prio_of m) (idle_level m c)) (row_other m p.origin c _ (n refl))
          gone false n = refl

      -- both CPUs' levels followed
      levels_are : {r' r'' : Record} → r' ≡ record_of (followed p.leaves p.origin (carried p m) r.levels)
          → r'' ≡ record_of (followed p.enters p.target (carried p m) r'.levels) → r'' ≡ record_of (levels (carried p m))
      unfolding record_of
      levels_are e' e'' =
          e'' ∙ ap (λ (x : Record). record_of (followed p.enters p.target (carried p m) x.levels)) e'
          ∙ ap (λ (x : Record). record_of (followed p.enters p.target (carried p m) (followed p.leaves p.origin (carried p m) x.levels))) l.holds.levels
          ∙ ap record_of (sym (levels_followed m (carried p m) p.leaves p.enters p.origin p.target l.formed.shape.cpus cpus_kept in_origin in_target others))

      -- all of it
      pub placed : {ss' ps' cs' cs'' ls' ks' : List ℕ} {r' r'' : Record} → ss' ≡ set ss p.task p.becomes.state → ps' ≡ set ps p.task p.becomes.policy
          → cs' ≡ set cs p.task p.becomes.cpu → ls' ≡ set ls p.task p.becomes.slice → ks' ≡ set ks p.task p.becomes.mask
          → cs'' ≡ cond p.enters (set cs' p.task p.target) cs' → r' ≡ record_of (followed p.leaves p.origin (carried p m) r.levels)
          → r'' ≡ record_of (followed p.enters p.target (carried p m) r'.levels) → Holds (carried p m) ss' ps' qs' cs'' ls' ks' flat'' ns'' fs m.online r''
      placed es ep ec el ek ed e' e'' =
          record {
            state = es ∙ at p.becomes.state l.holds.state ∙ column (λ d. d.state) p.becomes.state (λ d. refl) (λ c d. refl) (λ c d. refl);
            policy = ep ∙ at p.becomes.policy l.holds.policy ∙ column (λ d. d.policy) p.becomes.policy (λ d. refl) (λ c d. refl) (λ c d. refl);
            prio = prio_now;
            cpu = ed ∙ ap (λ (xs : List ℕ). cond p.enters (set xs t p.target) xs) (ec ∙ at p.becomes.cpu (l.holds.cpu ∙ sym (left_keeps (λ d. d.cpu) (λ c d. refl)))) ∙ cpu_is p.enters;
            slice = el ∙ at p.becomes.slice l.holds.slice ∙ column (λ d. d.slice) p.becomes.slice (λ d. refl) (λ c d. refl) (λ c d. refl);
            mask = ek ∙ at p.becomes.mask l.holds.mask ∙ column (λ d. d.mask) p.becomes.mask (λ d. refl) (λ c d. refl) (λ c d. refl);
            rows = e.rows;
            counts = e.counts;
            flags = l.holds.flags ∙ sym flags_kept;
            online = sym online_kept;
            levels = levels_are e' e'';
          }
        where
          at : {xs ys : List ℕ} (v : ℕ) → xs ≡ ys → set xs t v ≡ set ys t v
          at v q = ap (λ (zs : List ℕ). set zs t v) q

          cpu_is : (b : Bool) → cond b (set (wrote p m).cpu t p.target) (wrote p m).cpu ≡ (cond b (enqueue_at p.front t p.target (wrote p m)) (wrote p m)).cpu
          cpu_is true = refl
          cpu_is false = refl
