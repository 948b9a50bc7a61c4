-- The test and the record of propositions say the same: a machine passes the test exactly if it is well-formed.
-- Assumes nothing.
use mathlib.Core.Path.{◌≡◌, refl, sym, ap, ◌∙◌, subst}
use mathlib.Core.Bool.{Bool, true, false, cond, ◌&&◌, ◌||◌}
use mathlib.Core.Logic.{◌⊎◌, inl, inr}
use mathlib.Core.List.{List, [], ◌∷◌}
use Prim.Native.Nat.{ℕ, zero, suc, ◌+◌, ◌≤◌, ◌<◌}
use native.Mathlib.Nat.{not-suc-le-zero, le_of_suc-le-suc, zero-lt-suc}
use native.Mathlib.Omega.{arith}
use lib.Dec.{eqb, leb, ltb}
use lib.ListN.{length, get_or, get_or-eq_default}
use borrow.Author.Tests.{eqb-true, eq-eqb, ne_eqb, leb-true, le-leb, ltb-true, ltb-false, lt-ltb}
use Rattle.rules.specs.Lists.{occ, In, Falling, each}
use Rattle.rules.specs.Machine.{Machine, Task, task_of, free_task, prio_of, row, flag, allows, free, asleep, runnable, fifo, rr, task_places, cpu_places}
use Rattle.rules.specs.Machine.{lowest_priority, highest_priority, longest_slice}
use Rattle.rules.specs.WellFormed.{Shape, Fit, Sound, is_free, is_asleep, is_runnable, standing, WellFormed}
use Rattle.rules.specs.WellFormed.{slice_fits, shaped, gathered, tasks, zeros, fits, sound_task, falls, sound_row, well_formed}
use Rattle.cpupri.specs.Found.{size_fits, mask_fits}
use Rattle.bits.proofs.Tests.{and_both}
use Rattle.laws.proofs.Bools.{both}
use Rattle.laws.proofs.Checks.{mask_good, good_mask}
use Rattle.laws.proofs.Lists.{in_here, in_there, in_cons, not_in_nil}
use Rattle.laws.proofs.Apart.{shaped_place, standing_home, standing_means, in_row}

-- ---- walks

-- every place of the walk, counted from i
module _ {A : Type 0} (d : A) (p : ℕ → A → Bool) where
  pub each_at : (i : ℕ) (xs : List A) → each p i xs ≡ true → (j k : ℕ) → k ≡ i + j → j < length xs → p k (get_or xs j d) ≡ true
  unfolding each
  each_at i [] h j k e l = absurd (not-suc-le-zero l)
  each_at i (x ∷ xs) h zero k e l =
      let s : k ≡ i = omega arith in subst (λ (n : ℕ). p n x ≡ true) (sym s) (both (p i x) (each p (suc i) xs) h).0
  each_at i (x ∷ xs) h (suc j) k e l = each_at (suc i) xs (both (p i x) (each p (suc i) xs) h).1 j k (omega arith) (le_of_suc-le-suc l)

  pub at_each : (i : ℕ) (xs : List A) → ((j k : ℕ) → k ≡ i + j → j < length xs → p k (get_or xs j d) ≡ true) → each p i xs ≡ true
  unfolding each
  at_each i [] h = refl
  at_each i (x ∷ xs) h =
      and_both (p i x) (each p (suc i) xs) (h zero i (omega arith) (zero-lt-suc (length xs)))
      (at_each (suc i) xs (λ j k e l. h (suc j) k (omega arith) (Prim.Native.Nat.suc-le-suc l)))

-- a walk that does not look at the place
module _ (p : ℕ → Bool) where
  pub each_in : (i : ℕ) (xs : List ℕ) → each (λ j u. p u) i xs ≡ true → (u : ℕ) → In u xs → p u ≡ true
  unfolding each
  each_in i [] h u n = absurd (not_in_nil u n)
  each_in i (x ∷ xs) h u n = go (both (p x) (each (λ j u. p u) (suc i) xs) h) (in_cons u x xs n) (each_in (suc i) xs)
    where
      go : (p x ≡ true) × (each (λ j u. p u) (suc i) xs ≡ true) → (u ≡ x) ⊎ In u xs
          → (each (λ j u. p u) (suc i) xs ≡ true → (u : ℕ) → In u xs → p u ≡ true) → p u ≡ true
      go b (inl e) ih = ap p e ∙ b.0
      go b (inr j) ih = ih b.1 u j

  pub in_each : (i : ℕ) (xs : List ℕ) → ((u : ℕ) → In u xs → p u ≡ true) → each (λ j u. p u) i xs ≡ true
  unfolding each
  in_each i [] h = refl
  in_each i (x ∷ xs) h = and_both (p x) (each (λ j u. p u) (suc i) xs) (h x (in_here x xs)) (in_each (suc i) xs (λ u j. h u (in_there u x xs j)))

-- ---- the columns together

pub gathered_length : (ss ps qs cs ls ks : List ℕ) → length ps ≡ length ss → length qs ≡ length ss → length cs ≡ length ss
    → length ls ≡ length ss → length ks ≡ length ss → length (gathered ss ps qs cs ls ks) ≡ length ss
unfolding gathered
gathered_length [] ps qs cs ls ks a b c d e = refl
gathered_length (s ∷ ss) [] qs cs ls ks a b c d e = absurd (omega arith)
gathered_length (s ∷ ss) (p ∷ ps) [] cs ls ks a b c d e = absurd (omega arith)
gathered_length (s ∷ ss) (p ∷ ps) (q ∷ qs) [] ls ks a b c d e = absurd (omega arith)
gathered_length (s ∷ ss) (p ∷ ps) (q ∷ qs) (c' ∷ cs) [] ks a b c d e = absurd (omega arith)
gathered_length (s ∷ ss) (p ∷ ps) (q ∷ qs) (c' ∷ cs) (l ∷ ls) [] a b c d e = absurd (omega arith)
gathered_length (s ∷ ss) (p ∷ ps) (q ∷ qs) (c' ∷ cs) (l ∷ ls) (k ∷ ks) a b c d e =
    ap suc (gathered_length ss ps qs cs ls ks (omega arith) (omega arith) (omega arith) (omega arith) (omega arith))

abbrev entries : List ℕ → List ℕ → List ℕ → List ℕ → List ℕ → List ℕ → ℕ → Task
entries ss ps qs cs ls ks i =
    record { state = get_or ss i 0; policy = get_or ps i 0; prio = get_or qs i 0; cpu = get_or cs i 0; slice = get_or ls i 0; mask = get_or ks i 0 }

pub gathered_at : (ss ps qs cs ls ks : List ℕ) (i : ℕ) → i < length ss → length ps ≡ length ss → length qs ≡ length ss → length cs ≡ length ss
    → length ls ≡ length ss → length ks ≡ length ss → get_or (gathered ss ps qs cs ls ks) i free_task ≡ entries ss ps qs cs ls ks i
unfolding gathered
gathered_at [] ps qs cs ls ks i h a b c d e = absurd (not-suc-le-zero h)
gathered_at (s ∷ ss) [] qs cs ls ks i h a b c d e = absurd (omega arith)
gathered_at (s ∷ ss) (p ∷ ps) [] cs ls ks i h a b c d e = absurd (omega arith)
gathered_at (s ∷ ss) (p ∷ ps) (q ∷ qs) [] ls ks i h a b c d e = absurd (omega arith)
gathered_at (s ∷ ss) (p ∷ ps) (q ∷ qs) (c' ∷ cs) [] ks i h a b c d e = absurd (omega arith)
gathered_at (s ∷ ss) (p ∷ ps) (q ∷ qs) (c' ∷ cs) (l ∷ ls) [] i h a b c d e = absurd (omega arith)
gathered_at (s ∷ ss) (p ∷ ps) (q ∷ qs) (c' ∷ cs) (l ∷ ls) (k ∷ ks) zero h a b c d e = refl
gathered_at (s ∷ ss) (p ∷ ps) (q ∷ qs) (c' ∷ cs) (l ∷ ls) (k ∷ ks) (suc i) h a b c d e =
    gathered_at ss ps qs cs ls ks i (le_of_suc-le-suc h) (omega arith) (omega arith) (omega arith) (omega arith) (omega arith)

module _ (m : Machine) (s : Shape m) where
  pub tasks_length : length (tasks m) ≡ task_places
  tasks_length =
      gathered_length m.state m.policy m.prio m.cpu m.slice m.mask
      (s.policy ∙ sym s.state) (s.prio ∙ sym s.state) (s.cpu ∙ sym s.state) (s.slice ∙ sym s.state) (s.mask ∙ sym s.state)
      ∙ s.state

  pub tasks_at : (t : ℕ) → t < task_places → get_or (tasks m) t free_task ≡ task_of m t
  tasks_at t h =
      gathered_at m.state m.policy m.prio m.cpu m.slice m.mask t (subst (λ (n : ℕ). t < n) (sym s.state) h)
      (s.policy ∙ sym s.state) (s.prio ∙ sym s.state) (s.cpu ∙ sym s.state) (s.slice ∙ sym s.state) (s.mask ∙ sym s.state)

-- ---- N, the full slice and the lengths

pub size_good : (n : ℕ) → size_fits n ≡ true → (1 ≤ n) × (n ≤ cpu_places)
unfolding size_fits
size_good n h = let t = both (ltb 0 n) (leb n cpu_places) h in (ltb-true 0 n t.0, leb-true n cpu_places t.1)

pub good_size : (n : ℕ) → 1 ≤ n → n ≤ cpu_places → size_fits n ≡ true
unfolding size_fits
good_size n a b = and_both (ltb 0 n) (leb n cpu_places) (lt-ltb 0 n a) (le-leb n cpu_places b)

pub slice_good : (full : ℕ) → slice_fits full ≡ true → (1 ≤ full) × (full ≤ longest_slice)
slice_good full h = let t = both (leb 1 full) (leb full longest_slice) h in (leb-true 1 full t.0, leb-true full longest_slice t.1)

pub good_slice : (full : ℕ) → 1 ≤ full → full ≤ longest_slice → slice_fits full ≡ true
good_slice full a b = and_both (leb 1 full) (leb full longest_slice) (le-leb 1 full a) (le-leb full longest_slice b)

pub shaped_shape : (m : Machine) → shaped m ≡ true → Shape m
shaped_shape m h =
    let a = both _ _ h in
    let b = both _ _ a.0 in
    let c = both _ _ b.0 in
    let d = both _ _ c.0 in
    let e = both _ _ d.0 in
    let f = both _ _ e.0 in
    let g = both _ _ f.0 in
    let i = both _ _ g.0 in
    let j = both _ _ i.0 in
    let k = size_good m.n j.0 in
    let l = slice_good m.full j.1 in
    record {
      some_cpu = k.0;
      cpus = k.1;
      some_tick = l.0;
      ticks = l.1;
      state = eqb-true (length m.state) task_places i.1;
      policy = eqb-true (length m.policy) task_places g.1;
      prio = eqb-true (length m.prio) task_places f.1;
      cpu = eqb-true (length m.cpu) task_places e.1;
      slice = eqb-true (length m.slice) task_places d.1;
      mask = eqb-true (length m.mask) task_places c.1;
      rows = eqb-true (length m.rows) m.n b.1;
      flags = eqb-true (length m.flags) m.n a.1;
    }

pub shape_shaped : (m : Machine) → Shape m → shaped m ≡ true
shape_shaped m s =
    and_both _ _ (and_both _ _ (and_both _ _ (and_both _ _ (and_both _ _ (and_both _ _ (and_both _ _ (and_both _ _ (and_both _ _
    (good_size m.n s.some_cpu s.cpus) (good_slice m.full s.some_tick s.ticks))
    (eq-eqb (length m.state) task_places s.state))
    (eq-eqb (length m.policy) task_places s.policy)) (eq-eqb (length m.prio) task_places s.prio))
    (eq-eqb (length m.cpu) task_places s.cpu)) (eq-eqb (length m.slice) task_places s.slice))
    (eq-eqb (length m.mask) task_places s.mask)) (eq-eqb (length m.rows) m.n s.rows)) (eq-eqb (length m.flags) m.n s.flags)

-- ---- one task

zeros_free : (τ : Task) → τ.state ≡ free → zeros τ ≡ true → τ ≡ free_task
zeros_free τ s h =
    let a = both _ _ h in
    let b = both _ _ a.0 in
    let c = both _ _ b.0 in
    let d = both _ _ c.0 in
    let policy : τ.policy ≡ 0 = eqb-true τ.policy 0 d.0 in
    let prio : τ.prio ≡ 0 = eqb-true τ.prio 0 d.1 in
    let cpu : τ.cpu ≡ 0 = eqb-true τ.cpu 0 c.1 in
    let slice : τ.slice ≡ 0 = eqb-true τ.slice 0 b.1 in
    let mask : τ.mask ≡ 0 = eqb-true τ.mask 0 a.1 in
    λ i. record { state = s i; policy = policy i; prio = prio i; cpu = cpu i; slice = slice i; mask = mask i }

fits_fit : (n full : ℕ) (τ : Task) → fits n full τ ≡ true → Fit n full τ
fits_fit n full τ h =
    let a = both _ _ h in
    let b = both _ _ a.0 in
    let c = both _ _ b.0 in
    let d = both _ _ c.0 in
    let e = both _ _ d.0 in
    let f = both _ _ e.0 in
    let g = both _ _ f.0 in
    let k = mask_good τ.mask n a.1 in
    record {
      policy_low = leb-true fifo τ.policy g.0;
      policy_high = leb-true τ.policy rr g.1;
      prio_low = leb-true lowest_priority τ.prio f.1;
      prio_high = leb-true τ.prio highest_priority e.1;
      cpu = ltb-true τ.cpu n d.1;
      slice_low = leb-true 1 τ.slice c.1;
      slice_high = leb-true τ.slice full b.1;
      mask_some = k.0;
      mask_fits = k.1;
    }

fit_fits : (n full : ℕ) (τ : Task) → Fit n full τ → fits n full τ ≡ true
fit_fits n full τ f =
    and_both _ _ (and_both _ _ (and_both _ _ (and_both _ _ (and_both _ _ (and_both _ _ (and_both _ _
    (le-leb fifo τ.policy f.policy_low) (le-leb τ.policy rr f.policy_high)) (le-leb lowest_priority τ.prio f.prio_low))
    (le-leb τ.prio highest_priority f.prio_high)) (lt-ltb τ.cpu n f.cpu)) (le-leb 1 τ.slice f.slice_low))
    (le-leb τ.slice full f.slice_high)) (good_mask τ.mask n f.mask_some f.mask_fits)

-- what the test says of a task besides W1 and W2: a runnable one stands once in the row of its CPU, which is allowed
abbrev Placed : Machine → ℕ → Task → Type 0
Placed m t τ = τ.state ≡ runnable → (occ t (row m τ.cpu) ≡ 1) × (allows m τ.mask τ.cpu ≡ true)

task_sound : (m : Machine) (t : ℕ) (τ : Task) → sound_task m t τ ≡ true → Sound m.n m.full τ × Placed m t τ
task_sound m t τ h = go (eqb τ.state free) refl h
  where
    place : Bool
    place = eqb τ.state runnable && eqb (occ t (row m τ.cpu)) 1 && allows m τ.mask τ.cpu

    state : (b : Bool) → eqb τ.state asleep ≡ b → fits m.n m.full τ ≡ true → (b || place) ≡ true → Sound m.n m.full τ × Placed m t τ
    state true e f p = (is_asleep (eqb-true τ.state asleep e) (fits_fit m.n m.full τ f), λ r. absurd (omega (arith, eqb-true τ.state asleep e)))
    state false e f p =
        let a = both (eqb τ.state runnable && eqb (occ t (row m τ.cpu)) 1) (allows m τ.mask τ.cpu) p in
        let b = both (eqb τ.state runnable) (eqb (occ t (row m τ.cpu)) 1) a.0 in (
          is_runnable (eqb-true τ.state runnable b.0) (fits_fit m.n m.full τ f),
          λ r. (eqb-true (occ t (row m τ.cpu)) 1 b.1, a.1),
        )

    go : (b : Bool) → eqb τ.state free ≡ b → cond b (zeros τ) (fits m.n m.full τ && (eqb τ.state asleep || place)) ≡ true → Sound m.n m.full τ × Placed m t τ
    go true e h = (is_free (zeros_free τ (eqb-true τ.state free e) h), λ r. absurd (omega (arith, eqb-true τ.state free e)))
    go false e h = let a = both (fits m.n m.full τ) (eqb τ.state asleep || place) h in state (eqb τ.state asleep) refl a.0 a.1

sound_task_lem : (m : Machine) (t : ℕ) (τ : Task) → Sound m.n m.full τ → Placed m t τ → sound_task m t τ ≡ true
sound_task_lem m t τ (is_free e) p = subst (λ (σ : Task). sound_task m t σ ≡ true) (sym e) refl
sound_task_lem m t τ (is_asleep s f) p =
    rw (ne_eqb τ.state free (λ z. omega arith), fit_fits m.n m.full τ f, eq-eqb τ.state asleep s)
sound_task_lem m t τ (is_runnable s f) p =
    rw (
      ne_eqb τ.state free (λ z. omega arith),
      fit_fits m.n m.full τ f,
      ne_eqb τ.state asleep (λ z. omega arith),
      eq-eqb τ.state runnable s,
      eq-eqb (occ t (row m τ.cpu)) 1 (p s).0,
    ) (p s).1

-- ---- one row

falls_falling : (p : ℕ → ℕ) (r : List ℕ) → falls p r ≡ true → Falling p r
unfolding falls
falls_falling p [] h = tt
falls_falling p (t ∷ []) h = (λ u i. absurd (not_in_nil u i), tt)
falls_falling p (t ∷ u ∷ us) h = go (both (leb (p u) (p t)) (falls p (u ∷ us)) h) (falls_falling p (u ∷ us))
  where
    go : (leb (p u) (p t) ≡ true) × (falls p (u ∷ us) ≡ true) → (falls p (u ∷ us) ≡ true → Falling p (u ∷ us)) → Falling p (t ∷ u ∷ us)
    go b ih = (λ x i. below x (in_cons x u us i), ih b.1)
      where
        below : (x : ℕ) → (x ≡ u) ⊎ In x us → p x ≤ p t
        below x (inl e) = let s : p x ≡ p u = ap p e in omega (arith, leb-true (p u) (p t) b.0)
        below x (inr j) = omega (arith, leb-true (p u) (p t) b.0, (ih b.1).0 x j)

falling_falls : (p : ℕ → ℕ) (r : List ℕ) → Falling p r → falls p r ≡ true
unfolding falls
falling_falls p [] f = refl
falling_falls p (t ∷ []) f = refl
falling_falls p (t ∷ u ∷ us) f = and_both (leb (p u) (p t)) (falls p (u ∷ us)) (le-leb (p u) (p t) (f.0 u (in_here u us))) (falling_falls p (u ∷ us) f.1)

-- ---- the whole machine

-- a machine of the right shape that passes the test is well-formed
pub test_well_formed : (m : Machine) → shaped m ≡ true → well_formed m ≡ true → WellFormed m
test_well_formed m h t =
    record {
      shape = s;
      tasks = λ u l. (task u l).0;
      flags = λ c l.
          leb-true (flag m c) 1 (each_at 0 (λ c f. leb f 1) 0 m.flags tests.1 c c (omega arith) (subst (λ (n : ℕ). c < n) (sym s.flags) l));
      rows = λ u c. rows u c (occ u (row m c)) refl;
      home = λ u r. ((task u (used u r)).1 r).1;
      falling = λ c. falling c (ltb c m.n) refl;
      online_some = (mask_good m.online m.n parts.1).0;
      online_fits = (mask_good m.online m.n parts.1).1;
    }
  where
    s : Shape m
    s = shaped_shape m h

    parts : (each (sound_task m) 0 (tasks m) && each (sound_row m) 0 m.rows && each (λ c f. leb f 1) 0 m.flags ≡ true) × (mask_fits m.n m.online ≡ true)
    parts = both _ _ t

    tests : (each (sound_task m) 0 (tasks m) && each (sound_row m) 0 m.rows ≡ true) × (each (λ c f. leb f 1) 0 m.flags ≡ true)
    tests = both _ _ parts.0

    front : (each (sound_task m) 0 (tasks m) ≡ true) × (each (sound_row m) 0 m.rows ≡ true)
    front = both _ _ tests.0

    task : (u : ℕ) → u < task_places → Sound m.n m.full (task_of m u) × Placed m u (task_of m u)
    task u l =
        task_sound m u (task_of m u)
        (subst (λ (τ : Task). sound_task m u τ ≡ true) (tasks_at m s u l)
        (each_at free_task (sound_task m) 0 (tasks m) front.0 u u (omega arith) (subst (λ (n : ℕ). u < n) (sym (tasks_length m s)) l)))

    used : (u : ℕ) → (task_of m u).state ≡ runnable → u < task_places
    used u r = shaped_place m u s r

    in_test : (c : ℕ) → c < m.n → (each (λ i u. eqb (standing (task_of m u) c) 1) 0 (row m c) ≡ true) × (falls (prio_of m) (row m c) ≡ true)
    in_test c l =
        both _ _ (each_at [] (sound_row m) 0 m.rows front.1 c c (omega arith) (subst (λ (n : ℕ). c < n) (sym s.rows) l))

    beyond : (c : ℕ) → m.n ≤ c → row m c ≡ []
    beyond c l = get_or-eq_default m.rows [] (subst (λ (n : ℕ). n ≤ c) (sym s.rows) l)

    listed : (u c : ℕ) (b : Bool) → ltb c m.n ≡ b → In u (row m c) → standing (task_of m u) c ≡ 1
    listed u c true e i =
        eqb-true (standing (task_of m u) c) 1
        (each_in (λ u. eqb (standing (task_of m u) c) 1) 0 (row m c) (in_test c (ltb-true c m.n e)).0 u i)
    listed u c false e i = absurd (not_in_nil u (subst (In u) (beyond c (ltb-false c m.n e)) i))

    rows : (u c n : ℕ) → occ u (row m c) ≡ n → occ u (row m c) ≡ standing (task_of m u) c
    rows u c zero e = go (standing (task_of m u) c) refl
      where
        go : (k : ℕ) → standing (task_of m u) c ≡ k → occ u (row m c) ≡ standing (task_of m u) c
        go zero z = e ∙ sym z
        go (suc k) z =
            let r : ((task_of m u).state ≡ runnable) × ((task_of m u).cpu ≡ c) = standing_means (task_of m u) c (omega arith) in
            let one : occ u (row m (task_of m u).cpu) ≡ 1 = ((task u (used u r.0)).1 r.0).0 in
            let here : occ u (row m (task_of m u).cpu) ≡ occ u (row m c) = ap (λ (d : ℕ). occ u (row m d)) r.1 in
            absurd (omega arith)
    rows u c (suc n) e =
        let z : standing (task_of m u) c ≡ 1 = listed u c (ltb c m.n) refl (omega arith) in
        let r : ((task_of m u).state ≡ runnable) × ((task_of m u).cpu ≡ c) = standing_means (task_of m u) c (omega arith) in
        let one : occ u (row m (task_of m u).cpu) ≡ 1 = ((task u (used u r.0)).1 r.0).0 in
        let here : occ u (row m (task_of m u).cpu) ≡ occ u (row m c) = ap (λ (d : ℕ). occ u (row m d)) r.1 in
        omega arith

    falling : (c : ℕ) (b : Bool) → ltb c m.n ≡ b → Falling (prio_of m) (row m c)
    falling c true e = falls_falling (prio_of m) (row m c) (in_test c (ltb-true c m.n e)).1
    falling c false e = subst (Falling (prio_of m)) (sym (beyond c (ltb-false c m.n e))) tt

-- and a well-formed one passes it
pub well_formed_test : (m : Machine) → WellFormed m → (shaped m ≡ true) × (well_formed m ≡ true)
well_formed_test m w = (
  shape_shaped m w.shape,
  and_both _ _ (and_both _ _ (and_both _ _ each_task each_row) each_flag) (good_mask m.online m.n w.online_some w.online_fits),
)
  where
    each_task : each (sound_task m) 0 (tasks m) ≡ true
    each_task =
        at_each free_task (sound_task m) 0 (tasks m)
        (λ j k e l.
        let s : k ≡ j = omega arith in
        let small : j < task_places = subst (λ (n : ℕ). j < n) (tasks_length m w.shape) l in
        subst (λ (τ : Task). sound_task m k τ ≡ true) (ap (task_of m) s ∙ sym (tasks_at m w.shape j small))
        (sound_task_lem m k (task_of m k) (w.tasks k (subst (λ (n : ℕ). n < task_places) (sym s) small))
        (λ r. (w.rows k (task_of m k).cpu ∙ standing_home (task_of m k) (task_of m k).cpu r refl, w.home k r))))

    each_row : each (sound_row m) 0 m.rows ≡ true
    each_row =
        at_each [] (sound_row m) 0 m.rows
        (λ j k e l.
        let s : j ≡ k = omega arith in
        subst (λ (r : List ℕ). sound_row m k r ≡ true) (ap (row m) (sym s))
        (and_both _ _
        (in_each (λ u. eqb (standing (task_of m u) k) 1) 0 (row m k)
        (λ u i. eq-eqb (standing (task_of m u) k) 1 (standing_home (task_of m u) k (in_row m u k w i).0 (in_row m u k w i).1)))
        (falling_falls (prio_of m) (row m k) (w.falling k))))

    each_flag : each (λ c f. leb f 1) 0 m.flags ≡ true
    each_flag = at_each 0 (λ c f. leb f 1) 0 m.flags (λ j k e l. le-leb (get_or m.flags j 0) 1 (w.flags j (subst (λ (n : ℕ). j < n) w.shape.flags l)))
