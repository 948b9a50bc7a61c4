-- A fresh machine is well-formed, and the own effect of every kind keeps a machine well-formed.
-- Assumes nothing.
use mathlib.Core.Path.{◌≡◌, refl, sym, ap, ◌∙◌, subst}
use mathlib.Core.Bool.{Bool, true, false, cond, ◌&&◌}
use mathlib.Core.Logic.{◌≢◌, ◌⊎◌, inl, inr}
use mathlib.Core.List.{List, [], ◌∷◌}
use Prim.Native.Nat.{ℕ, zero, suc, ◌-◌, ◌≤◌, ◌<◌, ◌^◌, zero-le}
use native.Mathlib.Omega.{arith}
use lib.Dec.{eqb, leb, ltb}
use lib.Pow.{pow_mono, pow_pos}
use lib.ListN.{length, get_or, set, replicate, length-replicate, get_or-replicate, length-set}
use lib.Seq.{get_or-set_same, get_or-set_other}
use borrow.Author.Tests.{eq-eqb, eqb-true, eqb-false, leb-true, not-false}
use Rattle.bits.specs.Bit.{tally}
use Rattle.cpupri.specs.Found.{mask_fits}
use Rattle.rules.specs.Lists.{occ, In, Falling}
use Rattle.rules.specs.Machine.{Machine, Task, Column, task_of, free_task, prio_of, row, flag, allowed, allows, lowest_allowed, stranded, fresh}
use Rattle.rules.specs.Machine.{free, asleep, runnable, fifo, rr, task_places, cpu_places, longest_slice, lowest_priority, highest_priority}
use Rattle.rules.specs.Machine.{store, write, with_flag, enqueue_at, enqueue, dequeue, requeue}
use Rattle.rules.specs.WellFormed.{Shape, Fit, Sound, is_free, is_asleep, is_runnable, standing, WellFormed}
use Rattle.rules.specs.Events.{Event, Kind, effect, effect_of, added, wake_cpu, woken, slept, reprioritised, reaffined, ticked_task, ticked, yielded, to_first}
use Rattle.rules.specs.Events.{add, remove, wake, sleep, set_priority, set_affinity, tick, yield, set_ordinary, take_offline, bring_online}
use Rattle.rules.specs.Refusals.{Passes, checks, refusal}
use Rattle.laws.proofs.Lists.{same?, in_here, any_none}
use Rattle.laws.proofs.Rows.{put, store_other, store_same, write_same, shape_store}
use Rattle.laws.proofs.Apart.{Apart, apart_idle, apart_dequeue, apart_store, apart_write, rejoin_idle, rejoin_at, rejoin_enqueue}
use Rattle.laws.proofs.Apart.{fit_of, runnable_place, runnable_fit, in_row}
use Rattle.laws.proofs.Online.{lowest_good, lowest_up, keep_back, keep_offline}
use Rattle.laws.proofs.Checks.{Accepted, accepted_checks, effect_is, in_range, is_state, between, one_of, mask_good}

-- ---- a fresh machine

pub fresh_well_formed : (n full : ℕ) → 1 ≤ n → n ≤ cpu_places → 1 ≤ full → full ≤ longest_slice → WellFormed (fresh n full)
unfolding tally
fresh_well_formed n full h l low high =
    record {
      shape = record {
        some_cpu = h;
        cpus = l;
        some_tick = low;
        ticks = high;
        state = zeros_long;
        policy = zeros_long;
        prio = zeros_long;
        cpu = zeros_long;
        slice = zeros_long;
        mask = zeros_long;
        rows = length-replicate n [];
        flags = length-replicate n 0;
      };
      tasks = λ t s. is_free (all_free t);
      flags = λ c s. subst (λ (x : ℕ). x ≤ 1) (sym (get_or-replicate n c 0 0 s)) zero-le;
      rows = λ t c. subst (λ (r : List ℕ). occ t r ≡ standing (task_of (fresh n full) t) c) (sym (empty n c))
          (subst (λ (τ : Task). 0 ≡ standing τ c) (sym (all_free t)) refl);
      home = λ t s. absurd (let z : (task_of (fresh n full) t).state ≡ 0 = ap (λ (τ : Task). τ.state) (all_free t) in omega arith);
      falling = λ c. subst (Falling (prio_of (fresh n full))) (sym (empty n c)) tt;
      online_some = let two : 2 ^ 1 ≤ 2 ^ n = pow_mono h in omega arith;
      online_fits = let one : 1 ≤ 2 ^ n = pow_pos n in omega arith;
    }
  where
    zeros_long : length {A = ℕ} (replicate task_places 0) ≡ task_places
    zeros_long = length-replicate {A = ℕ} task_places 0

    zero_at : (k i : ℕ) → ◌≡◌ {A = ℕ} (get_or (replicate k 0) i 0) 0
    zero_at zero i = refl
    zero_at (suc k) zero = refl
    zero_at (suc k) (suc i) = zero_at k i

    empty : (k c : ℕ) → ◌≡◌ {A = List ℕ} (get_or (replicate k []) c []) []
    empty zero c = refl
    empty (suc k) zero = refl
    empty (suc k) (suc c) = empty k c

    all_free : (t : ℕ) → task_of (fresh n full) t ≡ free_task
    all_free t = ap (λ (x : ℕ). record { state = x; policy = x; prio = x; cpu = x; slice = x; mask = x }) (zero_at task_places t)

-- ---- fitting tasks

fit_state : (n full v : ℕ) (τ : Task) → Fit n full τ → Fit n full (put Column.state v τ)
fit_state n full v τ f =
    record {
      policy_low = f.policy_low;
      policy_high = f.policy_high;
      prio_low = f.prio_low;
      prio_high = f.prio_high;
      cpu = f.cpu;
      slice_low = f.slice_low;
      slice_high = f.slice_high;
      mask_some = f.mask_some;
      mask_fits = f.mask_fits;
    }

fit_prio : (n full v : ℕ) (τ : Task) → Fit n full τ → lowest_priority ≤ v → v ≤ highest_priority → Fit n full (put Column.prio v τ)
fit_prio n full v τ f low high =
    record {
      policy_low = f.policy_low;
      policy_high = f.policy_high;
      prio_low = low;
      prio_high = high;
      cpu = f.cpu;
      slice_low = f.slice_low;
      slice_high = f.slice_high;
      mask_some = f.mask_some;
      mask_fits = f.mask_fits;
    }

fit_slice : (n full v : ℕ) (τ : Task) → Fit n full τ → 1 ≤ v → v ≤ full → Fit n full (put Column.slice v τ)
fit_slice n full v τ f low high =
    record {
      policy_low = f.policy_low;
      policy_high = f.policy_high;
      prio_low = f.prio_low;
      prio_high = f.prio_high;
      cpu = f.cpu;
      slice_low = low;
      slice_high = high;
      mask_some = f.mask_some;
      mask_fits = f.mask_fits;
    }

fit_mask : (n full v : ℕ) (τ : Task) → Fit n full τ → 0 < v → v < 2 ^ n → Fit n full (put Column.mask v τ)
fit_mask n full v τ f nonzero small =
    record {
      policy_low = f.policy_low;
      policy_high = f.policy_high;
      prio_low = f.prio_low;
      prio_high = f.prio_high;
      cpu = f.cpu;
      slice_low = f.slice_low;
      slice_high = f.slice_high;
      mask_some = nonzero;
      mask_fits = small;
    }

-- another task with the same state is as sound
sound_with : (n full : ℕ) (τ σ : Task) → Sound n full τ → τ.state ≢ free → σ.state ≡ τ.state → (Fit n full τ → Fit n full σ) → Sound n full σ
sound_with n full τ σ (is_free e) h s f = absurd (h (ap (λ (x : Task). x.state) e))
sound_with n full τ σ (is_asleep a g) h s f = is_asleep (s ∙ a) (f g)
sound_with n full τ σ (is_runnable r g) h s f = is_runnable (s ∙ r) (f g)

-- ---- one column of a task that is not runnable, or one that says nothing about rows

module _ (t : ℕ) (m : Machine) (w : WellFormed m) (place : t < task_places) where
  idle_write : (τ : Task) → (task_of m t).state ≢ runnable → Sound m.n m.full τ → τ.state ≢ runnable → WellFormed (write t τ m)
  idle_write τ n s o =
      rejoin_idle t (write t τ m) (apart_write t m (apart_idle t m w n) τ) (subst (Sound m.n m.full) (sym new) s)
      (λ h. o (ap (λ (x : Task). x.state) (sym new) ∙ h))
    where
      new : task_of (write t τ m) t ≡ τ
      new = write_same t τ m w.shape place

  idle_prio : (v : ℕ) → (task_of m t).state ≢ runnable → Sound m.n m.full (put Column.prio v (task_of m t)) → WellFormed (store Column.prio t v m)
  idle_prio v n s =
      rejoin_idle t (store Column.prio t v m) (apart_store t m (apart_idle t m w n) Column.prio v)
      (subst (Sound m.n m.full) (sym (store_same Column.prio t v m w.shape place)) s) n

  -- slice and mask do not matter to the rows
  module _ (l k : List ℕ) where
    abbrev rest : Machine
    rest =
        record {
          n = m.n;
          full = m.full;
          state = m.state;
          policy = m.policy;
          prio = m.prio;
          cpu = m.cpu;
          slice = l;
          mask = k;
          rows = m.rows;
          flags = m.flags;
          online = m.online;
        }

    keep_rest : Shape rest → ((u : ℕ) → u ≢ t → task_of rest u ≡ task_of m u) → Sound m.n m.full (task_of rest t)
        → ((task_of m t).state ≡ runnable → allowed rest t (task_of m t).cpu ≡ true) → WellFormed rest
    keep_rest s same sound may =
        record {
          shape = s;
          tasks = λ u h. tasks u h (same? u t);
          flags = w.flags;
          rows = w.rows;
          home = λ u h. home u h (same? u t);
          falling = w.falling;
          online_some = w.online_some;
          online_fits = w.online_fits;
        }
      where
        tasks : (u : ℕ) → u < task_places → (u ≡ t) ⊎ (u ≢ t) → Sound m.n m.full (task_of rest u)
        tasks u h (inl e) = subst (λ (x : ℕ). Sound m.n m.full (task_of rest x)) (sym e) sound
        tasks u h (inr n) = subst (Sound m.n m.full) (sym (same u n)) (w.tasks u h)

        home : (u : ℕ) → (task_of m u).state ≡ runnable → (u ≡ t) ⊎ (u ≢ t) → allowed rest u (task_of rest u).cpu ≡ true
        home u h (inl e) =
            subst (λ (x : ℕ). allowed rest x (task_of rest x).cpu ≡ true) (sym e) (may (ap (λ (x : ℕ). (task_of m x).state) (sym e) ∙ h))
        home u h (inr n) = subst (λ (τ : Task). allows m τ.mask τ.cpu ≡ true) (sym (same u n)) (w.home u h)

  keep_slice : (v : ℕ) → Sound m.n m.full (put Column.slice v (task_of m t)) → WellFormed (store Column.slice t v m)
  keep_slice v s =
      keep_rest (set m.slice t v) m.mask (shape_store m w.shape Column.slice t v) (λ u n. store_other Column.slice t v u m n)
      (subst (Sound m.n m.full) (sym (store_same Column.slice t v m w.shape place)) s) (w.home t)

  keep_mask : (v : ℕ) → Sound m.n m.full (put Column.mask v (task_of m t))
      → ((task_of m t).state ≡ runnable → allows m v (task_of m t).cpu ≡ true) → WellFormed (store Column.mask t v m)
  keep_mask v s may =
      keep_rest m.slice (set m.mask t v) (shape_store m w.shape Column.mask t v) (λ u n. store_other Column.mask t v u m n)
      (subst (Sound m.n m.full) (sym new) s)
      (λ h. subst (λ (τ : Task). allows m τ.mask (task_of m t).cpu ≡ true) (sym new) (may h))
    where
      new : task_of (store Column.mask t v m) t ≡ put Column.mask v (task_of m t)
      new = store_same Column.mask t v m w.shape place

  -- ---- wake

  pub apart_wake : (task_of m t).state ≢ runnable → Apart t (store Column.state t runnable m)
  apart_wake n = apart_store t m (apart_idle t m w n) Column.state runnable

  pub wake_good : Fit m.n m.full (task_of m t) → stranded m (task_of m t).mask ≡ false
      → (wake_cpu m t < m.n) × (allows m (task_of m t).mask (wake_cpu m t) ≡ true)
  wake_good f up = go (allows m (task_of m t).mask (task_of m t).cpu) refl
    where
      go : (b : Bool) → allows m (task_of m t).mask (task_of m t).cpu ≡ b
          → (cond b (task_of m t).cpu (lowest_allowed m (task_of m t).mask) < m.n)
          × (allows m (task_of m t).mask (cond b (task_of m t).cpu (lowest_allowed m (task_of m t).mask)) ≡ true)
      go true e = (f.cpu, e)
      go false e = lowest_up m (task_of m t).mask f.mask_fits up

  keep_wake : (task_of m t).state ≡ asleep → stranded m (task_of m t).mask ≡ false → WellFormed (woken t m)
  keep_wake s up =
      rejoin_enqueue t (wake_cpu m t) (store Column.state t runnable m) (apart_wake (λ h. omega arith)) place
      (subst (Fit m.n m.full) (sym new) (fit_state m.n m.full runnable (task_of m t) fit)) (ap (λ (τ : Task). τ.state) new) (wake_good fit up).0 (wake_good fit up).1
    where
      fit : Fit m.n m.full (task_of m t)
      fit = fit_of m.n m.full (task_of m t) (w.tasks t place) (λ h. omega arith)

      new : task_of (store Column.state t runnable m) t ≡ put Column.state runnable (task_of m t)
      new = store_same Column.state t runnable m w.shape place

  -- ---- a task in its row

  module _ (runs : (task_of m t).state ≡ runnable) where
    abbrev home : ℕ
    home = (task_of m t).cpu

    fit : Fit m.n m.full (task_of m t)
    fit = runnable_fit m t w runs

    pub apart_home : Apart t (dequeue t home m)
    apart_home = apart_dequeue t m w runs

    keep_sleep : WellFormed (slept t m)
    keep_sleep =
        rejoin_idle t (slept t m) (apart_store t (dequeue t home m) apart_home Column.state asleep)
        (subst (Sound m.n m.full) (sym new) (is_asleep refl (fit_state m.n m.full asleep (task_of m t) fit)))
        (λ h. let z : (task_of (slept t m) t).state ≡ asleep = ap (λ (τ : Task). τ.state) new in omega arith)
      where
        new : task_of (slept t m) t ≡ put Column.state asleep (task_of m t)
        new = store_same Column.state t asleep (dequeue t home m) apart_home.shape place

    pub apart_prio : (v : ℕ) → Apart t (store Column.prio t v (dequeue t home m))
    apart_prio v = apart_store t (dequeue t home m) apart_home Column.prio v

    keep_prio : (front : Bool) (v : ℕ) → lowest_priority ≤ v → v ≤ highest_priority
        → WellFormed (enqueue_at front t home (store Column.prio t v (dequeue t home m)))
    keep_prio front v low high =
        rejoin_at front t home (store Column.prio t v (dequeue t home m)) (apart_prio v) place
        (subst (Fit m.n m.full) (sym new) (fit_prio m.n m.full v (task_of m t) fit low high)) runs fit.cpu (w.home t runs)
      where
        new : task_of (store Column.prio t v (dequeue t home m)) t ≡ put Column.prio v (task_of m t)
        new = store_same Column.prio t v (dequeue t home m) apart_home.shape place

    pub apart_mask : (k : ℕ) → Apart t (store Column.mask t k (dequeue t home m))
    apart_mask k = apart_store t (dequeue t home m) apart_home Column.mask k

    move_mask : (k : ℕ) → 0 < k → k < 2 ^ m.n → stranded m k ≡ false
        → WellFormed (enqueue t (lowest_allowed m k) (store Column.mask t k (dequeue t home m)))
    move_mask k nonzero small up =
        rejoin_enqueue t (lowest_allowed m k) (store Column.mask t k (dequeue t home m)) (apart_mask k) place
        (subst (Fit m.n m.full) (sym new) (fit_mask m.n m.full k (task_of m t) fit nonzero small)) runs (lowest_up m k small up).0
        (subst (λ (τ : Task). allows m τ.mask (lowest_allowed m k) ≡ true) (sym new) (lowest_up m k small up).1)
      where
        new : task_of (store Column.mask t k (dequeue t home m)) t ≡ put Column.mask k (task_of m t)
        new = store_same Column.mask t k (dequeue t home m) apart_home.shape place

    -- it leaves its row and enters that of any allowed CPU: a yield, a tick, a migration
    pub keep_move : (c : ℕ) → c < m.n → allowed m t c ≡ true → WellFormed (enqueue t c (dequeue t home m))
    keep_move c small may = rejoin_enqueue t c (dequeue t home m) apart_home place fit runs small may

    keep_requeue : WellFormed (requeue t home m)
    keep_requeue = keep_move home fit.cpu (w.home t runs)

-- ---- each kind

module _ (t : ℕ) (m : Machine) (w : WellFormed m) (place : t < task_places) where
  keep_reprioritised : (v : ℕ) → (task_of m t).state ≢ free → lowest_priority ≤ v → v ≤ highest_priority → WellFormed (reprioritised t v m)
  keep_reprioritised v used low high = go (eqb (task_of m t).state runnable) refl
    where
      lowered : Bool
      lowered = ltb v (task_of m t).prio

      changed : (b : Bool) → (task_of m t).state ≡ runnable
          → WellFormed (cond b m (enqueue_at lowered t (task_of m t).cpu (store Column.prio t v (dequeue t (task_of m t).cpu m))))
      changed true s = w
      changed false s = keep_prio t m w place s lowered v low high

      go : (b : Bool) → eqb (task_of m t).state runnable ≡ b
          → WellFormed (cond b (cond (eqb (task_of m t).prio v) m (enqueue_at lowered t (task_of m t).cpu (store Column.prio t v (dequeue t (task_of m t).cpu m)))) (store Column.prio t v m))
      go true e = changed (eqb (task_of m t).prio v) (eqb-true (task_of m t).state runnable e)
      go false e =
          idle_prio t m w place v (eqb-false (task_of m t).state runnable e)
          (sound_with m.n m.full (task_of m t) (put Column.prio v (task_of m t)) (w.tasks t place) used refl
          (λ f. fit_prio m.n m.full v (task_of m t) f low high))

  keep_reaffined : (k : ℕ) → (task_of m t).state ≢ free → 0 < k → k < 2 ^ m.n → ((task_of m t).state ≡ runnable → stranded m k ≡ false)
      → WellFormed (reaffined t k m)
  keep_reaffined k used nonzero small up = go (eqb (task_of m t).state runnable) refl
    where
      sound : Sound m.n m.full (put Column.mask k (task_of m t))
      sound =
          sound_with m.n m.full (task_of m t) (put Column.mask k (task_of m t)) (w.tasks t place) used refl
          (λ f. fit_mask m.n m.full k (task_of m t) f nonzero small)

      queued : (b : Bool) → allows m k (task_of m t).cpu ≡ b → (task_of m t).state ≡ runnable
          → WellFormed (cond b (store Column.mask t k m) (enqueue t (lowest_allowed m k) (store Column.mask t k (dequeue t (task_of m t).cpu m))))
      queued true e s = keep_mask t m w place k sound (λ h. e)
      queued false e s = move_mask t m w place s k nonzero small (up s)

      go : (b : Bool) → eqb (task_of m t).state runnable ≡ b
          → WellFormed (cond b
          (cond (allows m k (task_of m t).cpu) (store Column.mask t k m) (enqueue t (lowest_allowed m k) (store Column.mask t k (dequeue t (task_of m t).cpu m))))
          (store Column.mask t k m))
      go true e = queued (allows m k (task_of m t).cpu) refl (eqb-true (task_of m t).state runnable e)
      go false e = keep_mask t m w place k sound (λ h. absurd (eqb-false (task_of m t).state runnable e h))

-- the first task of a row
module _ (c : ℕ) (m : Machine) (w : WellFormed m) where
  first_is : (t : ℕ) (ts : List ℕ) → row m c ≡ t ∷ ts → ((task_of m t).state ≡ runnable) × ((task_of m t).cpu ≡ c)
  first_is t ts e = in_row m t c w (subst (In t) (sym e) (in_here t ts))

  keep_first : (t : ℕ) → (task_of m t).state ≡ runnable → (task_of m t).cpu ≡ c → WellFormed (requeue t c m)
  keep_first t s e = subst (λ (d : ℕ). WellFormed (requeue t d m)) e (keep_requeue t m w (runnable_place m t w s) s)

  keep_yielded : WellFormed (yielded c m)
  keep_yielded = go (row m c) refl
    where
      go : (r : List ℕ) → row m c ≡ r → WellFormed (to_first (λ t. requeue t c m) m r)
      go [] e = w
      go (t ∷ ts) e = keep_first t (first_is t ts e).0 (first_is t ts e).1

  keep_ticked_task : (t : ℕ) → (task_of m t).state ≡ runnable → (task_of m t).cpu ≡ c → WellFormed (ticked_task t c m)
  keep_ticked_task t s h = policy (eqb (task_of m t).policy rr)
    where
      place : t < task_places
      place = runnable_place m t w s

      again : WellFormed (requeue t c m)
      again = keep_first t s h

      ends : (b : Bool) → eqb ((task_of m t).slice - 1) 0 ≡ b
          → WellFormed (cond b (store Column.slice t m.full (requeue t c m)) (store Column.slice t ((task_of m t).slice - 1) m))
      ends true e =
          keep_slice t (requeue t c m) again place m.full
          (is_runnable s (fit_slice m.n m.full m.full (task_of (requeue t c m) t) (runnable_fit (requeue t c m) t again s) w.shape.some_tick (omega arith)))
      ends false e =
          let f : Fit m.n m.full (task_of m t) = runnable_fit m t w s in
          let left : (task_of m t).slice - 1 ≢ 0 = eqb-false ((task_of m t).slice - 1) 0 e in
          let high : (task_of m t).slice ≤ m.full = f.slice_high in
          keep_slice t m w place ((task_of m t).slice - 1) (is_runnable s (fit_slice m.n m.full ((task_of m t).slice - 1) (task_of m t) f (omega arith) (omega arith)))

      policy : (b : Bool)
          → WellFormed (cond b (cond (eqb ((task_of m t).slice - 1) 0) (store Column.slice t m.full (requeue t c m)) (store Column.slice t ((task_of m t).slice - 1) m)) m)
      policy true = ends (eqb ((task_of m t).slice - 1) 0) refl
      policy false = w

  keep_ticked : WellFormed (ticked c m)
  keep_ticked = go (row m c) refl
    where
      go : (r : List ℕ) → row m c ≡ r → WellFormed (to_first (λ t. ticked_task t c m) m r)
      go [] e = w
      go (t ∷ ts) e = keep_ticked_task t (first_is t ts e).0 (first_is t ts e).1

  keep_flag : (b : ℕ) → b ≤ 1 → WellFormed (with_flag c b m)
  keep_flag b h =
      record {
        shape = record {
          some_cpu = s.some_cpu;
          cpus = s.cpus;
          some_tick = s.some_tick;
          ticks = s.ticks;
          state = s.state;
          policy = s.policy;
          prio = s.prio;
          cpu = s.cpu;
          slice = s.slice;
          mask = s.mask;
          rows = s.rows;
          flags = length-set m.flags c b ∙ s.flags;
        };
        tasks = w.tasks;
        flags = λ d l. one d l (same? d c);
        rows = w.rows;
        home = w.home;
        falling = w.falling;
        online_some = w.online_some;
        online_fits = w.online_fits;
      }
    where
      s : Shape m
      s = w.shape

      one : (d : ℕ) → d < m.n → (d ≡ c) ⊎ (d ≢ c) → flag (with_flag c b m) d ≤ 1
      one d l (inl e) =
          subst (λ (x : ℕ). x ≤ 1)
          (sym (ap (λ (x : ℕ). get_or (set m.flags c b) x 0) e ∙ get_or-set_same m.flags c b 0 (subst (λ (x : ℕ). c < x) (sym s.flags) (subst (λ (x : ℕ). x < m.n) e l)))) h
      one d l (inr n) = subst (λ (x : ℕ). x ≤ 1) (sym (get_or-set_other m.flags c d b 0 n)) (w.flags d l)

-- every own effect keeps the machine well-formed
pub keep_effect_of : (m : Machine) (e : Event) (k : Kind) → WellFormed m → Passes (checks m e k) → WellFormed (effect_of k e m)
keep_effect_of m e add w p =
    idle_write e.who m w (in_range task_places e.who p.0) (added m e) (λ h. omega (arith, is_state (task_of m e.who).state free p.1.0))
    (is_asleep refl (record {
      policy_low = policies.0;
      policy_high = policies.1;
      prio_low = priorities.0;
      prio_high = priorities.1;
      cpu = (lowest_good e.mask m.n mask.0 mask.1).0;
      slice_low = omega arith;
      slice_high = omega arith;
      mask_some = mask.0;
      mask_fits = mask.1;
    }))
    (λ h. omega arith)
  where
    policies : (fifo ≤ e.a) × (e.a ≤ rr)
    policies = go (one_of e.a fifo rr p.1.1.0)
      where
        go : (e.a ≡ fifo) ⊎ (e.a ≡ rr) → (fifo ≤ e.a) × (e.a ≤ rr)
        go (inl h) = omega arith
        go (inr h) = omega arith

    priorities : (lowest_priority ≤ e.b) × (e.b ≤ highest_priority)
    priorities = between lowest_priority e.b highest_priority p.1.1.1.0

    mask : (0 < e.mask) × (e.mask < 2 ^ m.n)
    mask = mask_good e.mask m.n (not-false (mask_fits m.n e.mask) p.1.1.1.1.0)
keep_effect_of m e remove w p =
    idle_write e.who m w (in_range task_places e.who p.0) free_task (λ h. omega (arith, is_state (task_of m e.who).state asleep p.1.0))
    (is_free refl) (λ h. omega arith)
keep_effect_of m e wake w p =
    keep_wake e.who m w (in_range task_places e.who p.0) (is_state (task_of m e.who).state asleep p.1.0) p.1.1.0
keep_effect_of m e sleep w p =
    keep_sleep e.who m w (in_range task_places e.who p.0) (is_state (task_of m e.who).state runnable p.1.0)
keep_effect_of m e set_priority w p =
    let b : (lowest_priority ≤ e.b) × (e.b ≤ highest_priority) = between lowest_priority e.b highest_priority p.1.1.0 in
    keep_reprioritised e.who m w (in_range task_places e.who p.0) e.b (eqb-false (task_of m e.who).state free p.1.0) b.0 b.1
keep_effect_of m e set_affinity w p =
    let k : (0 < e.mask) × (e.mask < 2 ^ m.n) = mask_good e.mask m.n (not-false (mask_fits m.n e.mask) p.1.1.0) in
    keep_reaffined e.who m w (in_range task_places e.who p.0) e.mask (eqb-false (task_of m e.who).state free p.1.0) k.0 k.1
    (λ s. ap (λ (b : Bool). b && stranded m e.mask) (sym (eq-eqb (task_of m e.who).state runnable s)) ∙ p.1.1.1.0)
keep_effect_of m e tick w p = keep_ticked e.who m w
keep_effect_of m e yield w p = keep_yielded e.who m w
keep_effect_of m e set_ordinary w p = keep_flag e.who m w e.b (leb-true e.b 1 (not-false (leb e.b 1) p.1.0))
keep_effect_of m e take_offline w p =
    keep_offline e.who m w (in_range m.n e.who p.0) (any_none _ (row m e.who) p.1.0) (eqb-false _ 0 p.1.1.1.0)
keep_effect_of m e bring_online w p = keep_back e.who m w (in_range m.n e.who p.0)

pub keep_effect : (m : Machine) (e : Event) → WellFormed m → refusal m e ≡ 0 → WellFormed (effect e m)
keep_effect m e w h =
    let a : Accepted m e = accepted_checks m e h in
    subst WellFormed (sym (effect_is m e a)) (keep_effect_of m e a.kind w a.checked)
