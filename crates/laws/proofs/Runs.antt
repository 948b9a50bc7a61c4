-- All steps of an event, as a relation: inductions over the steps go over it. The steps end because nothing is movable.
-- Assumes nothing.
use mathlib.Core.Bool.{true}
use mathlib.Core.Path.{◌≡◌, refl, sym, ap, ◌∙◌, subst}
use mathlib.Core.Logic.{◌≢◌, ◌⊎◌, inl, inr}
use mathlib.Core.List.{List, [], ◌∷◌}
use mathlib.Core.Option.{Option, none, some}
use Prim.Native.Nat.{ℕ, zero, suc, ◌≤◌, ◌<◌}
use native.Mathlib.Nat.{not-suc-le-zero, le_of_suc-le-suc}
use native.Mathlib.Omega.{arith}
use lib.ListN.{length, get_or, length-map}
use Rattle.bits.specs.Bit.{bit, first}
use Rattle.rules.specs.Lists.{occ, In, Falling, below}
use Rattle.rules.specs.Machine.{Machine, task_of, prio_of, row, head, running, is_online, level, level_of}
use Rattle.rules.specs.WellFormed.{WellFormed}
use Rattle.rules.specs.Migration.{Move, Chosen, Settled, onward, next, migrate, settle, settle_all}
use Rattle.rules.specs.Demand3.{movers, receivers, online_cpus}
use Rattle.laws.proofs.Lists.{same?, digit_same, digit_other, occ_cons, occ_nil, in_here, in_cons, not_in_nil, in_tails, in_below, in_select, within, length_select, length_from}
use Rattle.laws.proofs.Apart.{in_row, once}
use Rattle.laws.proofs.Online.{lowest_good, home_online, allows_online}
use Rattle.laws.proofs.Choice.{chosen}
use Rattle.laws.proofs.Step.{Cap, cap_step, keep_step, origin_small, origin_level, target_level, target_runs, same_runs, levels_rise}
use Rattle.laws.proofs.Step.{level_running}

-- `Run k m l e`: from m, with at most k steps, the steps l lead to e, where none applies or the k are used up
pub data Run : ℕ → Machine → List Move → Machine → Type 0 where
  out : {m : Machine} → Run zero m [] m
  stop : {k : ℕ} {m : Machine} → next m ≡ none → Run k m [] m
  step : {k : ℕ} {m : Machine} {v : Move} {l : List Move} {e : Machine} → next m ≡ some v → Run k (migrate v m) l e → Run (suc k) m (v ∷ l) e

pub settle_run : (k : ℕ) (m : Machine) → Run k m (settle k m).log (settle k m).machine
unfolding settle
settle_run zero m = out
settle_run (suc k) m = go (next m) refl (λ v. settle_run k (migrate v m))
  where
    go : (o : Option Move) → next m ≡ o → ((v : Move) → Run k (migrate v m) (settle k (migrate v m)).log (settle k (migrate v m)).machine)
        → Run (suc k) m (onward m (λ v. settle k (migrate v m)) o).log (onward m (λ v. settle k (migrate v m)) o).machine
    go none e ih = stop e
    go (some v) e ih = step e (ih v)

-- ---- what stays

pub run_well_formed : {k : ℕ} {m : Machine} {l : List Move} {e : Machine} → WellFormed m → Run k m l e → WellFormed e
run_well_formed w out = w
run_well_formed w (stop h) = w
run_well_formed w (step {m = m} {v = v} h r) = run_well_formed (keep_step m v w (chosen m v w h)) r

-- whatever one step leaves alone
pub run_keeps : {A : Type 0} (f : Machine → A) → ((v : Move) (m : Machine) → f (migrate v m) ≡ f m)
    → {k : ℕ} {m : Machine} {l : List Move} {e : Machine} → Run k m l e → f e ≡ f m
run_keeps f h out = refl
run_keeps f h (stop n) = refl
run_keeps f h (step {m = m} {v = v} n r) = run_keeps f h r ∙ h v m

-- ---- priorities never rise along the log

-- the mover is movable, so it is at most the cap
capped : {m : Machine} {v : Move} (p : ℕ) → Cap m p → Chosen m v → prio_of m v.task ≤ p
capped {m} {v} p c k = c v.task (in_tails v.task v.origin m.rows k.waits) k.moves

pub movers_capped : {k : ℕ} {m : Machine} {l : List Move} {e : Machine} (p : ℕ) → WellFormed m → Cap m p → Run k m l e
    → (u : ℕ) → In u (movers l) → prio_of m u ≤ p
movers_capped p w c out u i = absurd (not_in_nil u i)
movers_capped p w c (stop h) u i = absurd (not_in_nil u i)
movers_capped p w c (step {m = m} {v = v} {l = l} h r) u i =
    go (in_cons u v.task (movers l) i)
    (movers_capped (prio_of m v.task) (keep_step m v w (chosen m v w h)) (cap_step m v w (chosen m v w h)) r u)
  where
    first : prio_of m v.task ≤ p
    first = capped p c (chosen m v w h)

    go : (u ≡ v.task) ⊎ In u (movers l) → (In u (movers l) → prio_of m u ≤ prio_of m v.task) → prio_of m u ≤ p
    go (inl e) ih = let s : prio_of m u ≡ prio_of m v.task = ap (prio_of m) e in omega (arith, first)
    go (inr j) ih = let s : prio_of m u ≤ prio_of m v.task = ih j in omega (arith, first)

pub run_falling : {k : ℕ} {m : Machine} {l : List Move} {e : Machine} → WellFormed m → Run k m l e → Falling (prio_of m) (movers l)
run_falling w out = tt
run_falling w (stop h) = tt
run_falling w (step {m = m} {v = v} h r) = (
  movers_capped (prio_of m v.task) (keep_step m v w (chosen m v w h)) (cap_step m v w (chosen m v w h)) r,
  run_falling (keep_step m v w (chosen m v w h)) r,
)

-- ---- no CPU receives two

-- under a cap, a CPU at that level or above receives nothing any more
pub receives_none : {k : ℕ} {m : Machine} {l : List Move} {e : Machine} (p c : ℕ) → WellFormed m → Cap m p → level_of p ≤ level m c → Run k m l e
    → In c (receivers l) → ⊥
receives_none p c w bound h out i = not_in_nil c i
receives_none p c w bound h (stop n) i = not_in_nil c i
receives_none p c w bound h (step {m = m} {v = v} {l = l} n r) i =
    go (in_cons c v.target (receivers l) i)
    (receives_none (prio_of m v.task) c (keep_step m v w s) (cap_step m v w s) later r)
  where
    s : Chosen m v
    s = chosen m v w n

    first : prio_of m v.task ≤ p
    first = capped p bound s

    later : level_of (prio_of m v.task) ≤ level (migrate v m) c
    later = omega (arith, first, levels_rise m v w s c)

    go : (c ≡ v.target) ⊎ In c (receivers l) → (In c (receivers l) → ⊥) → ⊥
    go (inl e) ih = let q : level m c ≡ level m v.target = ap (level m) e in omega (arith, first, s.below)
    go (inr j) ih = ih j

-- the destination of a step receives nothing later
once_received : {k : ℕ} {m : Machine} {v : Move} {l : List Move} {e : Machine} → WellFormed m → Chosen m v → Run k (migrate v m) l e
    → In v.target (receivers l) → ⊥
once_received {m = m} {v = v} w s r =
    receives_none (prio_of m v.task) v.target (keep_step m v w s) (cap_step m v w s) (omega (arith, target_level m v w s)) r

at_most_once : (x y : ℕ) (ys : List ℕ) → (In y ys → ⊥) → occ x ys ≤ 1 → occ x (y ∷ ys) ≤ 1
at_most_once x y ys never ih = go (same? x y)
  where
    go : (x ≡ y) ⊎ (x ≢ y) → occ x (y ∷ ys) ≤ 1
    go (inl e) =
        let z : (0 < occ x ys) → ⊥ = λ i. never (subst (λ (k : ℕ). In k ys) e i) in
        omega (arith, occ_cons x y ys, digit_same x y e)
    go (inr n) = omega (arith, occ_cons x y ys, digit_other x y n)

pub run_receivers : {k : ℕ} {m : Machine} {l : List Move} {e : Machine} → WellFormed m → Run k m l e → (c : ℕ) → occ c (receivers l) ≤ 1
run_receivers w out c = omega (arith, occ_nil c)
run_receivers w (stop h) c = omega (arith, occ_nil c)
run_receivers w (step {m = m} {v = v} {l = l} h r) c =
    at_most_once c v.target (receivers l) (once_received w (chosen m v w h) r) (run_receivers (keep_step m v w (chosen m v w h)) r c)

pub receivers_small : {k : ℕ} {m : Machine} {l : List Move} {e : Machine} → WellFormed m → Run k m l e → (c : ℕ) → In c (receivers l) → c < m.n
receivers_small w out c i = absurd (not_in_nil c i)
receivers_small w (stop h) c i = absurd (not_in_nil c i)
receivers_small w (step {m = m} {v = v} {l = l} h r) c i =
    go (in_cons c v.target (receivers l) i) (receivers_small (keep_step m v w (chosen m v w h)) r c)
  where
    go : (c ≡ v.target) ⊎ In c (receivers l) → (In c (receivers l) → c < m.n) → c < m.n
    go (inl e) ih = subst (λ (x : ℕ). x < m.n) (sym e) (chosen m v w h).small
    go (inr j) ih = ih j

-- every receiver is online
pub receivers_online : {k : ℕ} {m : Machine} {l : List Move} {e : Machine} → WellFormed m → Run k m l e → (c : ℕ) → In c (receivers l) → is_online m c ≡ true
receivers_online w out c i = absurd (not_in_nil c i)
receivers_online w (stop h) c i = absurd (not_in_nil c i)
receivers_online w (step {m = m} {v = v} {l = l} h r) c i =
    go (in_cons c v.target (receivers l) i) (receivers_online (keep_step m v w (chosen m v w h)) r c)
  where
    go : (c ≡ v.target) ⊎ In c (receivers l) → (In c (receivers l) → is_online m c ≡ true) → is_online m c ≡ true
    go (inl e) ih = subst (λ (x : ℕ). is_online m x ≡ true) (sym e) (allows_online m (task_of m v.task).mask v.target (chosen m v w h).may)
    go (inr j) ih = ih j

-- ---- fewer steps than CPUs are online

in_online : (m : Machine) (c : ℕ) → c < m.n → is_online m c ≡ true → In c (online_cpus m)
in_online m c h on = in_select (is_online m) c (below m.n) (in_below m.n c h) on

some_online : (m : Machine) → WellFormed m → 1 ≤ length (online_cpus m)
some_online m w = within (at ∷ []) (online_cpus m) (λ x. at_most_once x at [] (λ i. not_in_nil at i) (omega (arith, occ_nil x))) (λ x i. up x (in_cons x at [] i))
  where
    at : ℕ
    at = first (bit m.online) m.n

    up : (x : ℕ) → (x ≡ at) ⊎ In x [] → In x (online_cpus m)
    up x (inl e) =
        let good = lowest_good m.online m.n w.online_some w.online_fits in
        subst (λ (y : ℕ). In y (online_cpus m)) (sym e) (in_online m at good.0 good.1)
    up x (inr j) = absurd (not_in_nil x j)

pub online_most : (m : Machine) → length (online_cpus m) ≤ m.n
online_most m = omega (arith, length_from 0 m.n, length_select (is_online m) (below m.n))

-- the first mover's own CPU never receives, and the others receive at most once
pub run_few : {k : ℕ} {m : Machine} {l : List Move} {e : Machine} → WellFormed m → Run k m l e → suc (length l) ≤ length (online_cpus m)
run_few {m = m} w out = some_online m w
run_few {m = m} w (stop h) = some_online m w
run_few w (step {k = k} {m = m} {v = v} {l = l} {e = e} h r) =
    subst (λ (x : ℕ). suc x ≤ length (online_cpus m)) (length-map (v ∷ l) (λ (v : Move). v.target))
    (within (v.origin ∷ receivers (v ∷ l)) (online_cpus m) different (λ x i. in_online m x (small x i) (up x i)))
  where
    all : Run (suc k) m (v ∷ l) e
    all = step h r

    s : Chosen m v
    s = chosen m v w h

    different : (x : ℕ) → occ x (v.origin ∷ receivers (v ∷ l)) ≤ 1
    different x =
        at_most_once x v.origin (receivers (v ∷ l)) (receives_none (prio_of m v.task) v.origin w s.highest (origin_level m v w s) all)
        (run_receivers w all x)

    small : (x : ℕ) → In x (v.origin ∷ receivers (v ∷ l)) → x < m.n
    small x i = go (in_cons x v.origin (receivers (v ∷ l)) i)
      where
        go : (x ≡ v.origin) ⊎ In x (receivers (v ∷ l)) → x < m.n
        go (inl e) = subst (λ (x : ℕ). x < m.n) (sym e) (origin_small m v w s)
        go (inr j) = receivers_small w all x j

    up : (x : ℕ) → In x (v.origin ∷ receivers (v ∷ l)) → is_online m x ≡ true
    up x i = go (in_cons x v.origin (receivers (v ∷ l)) i)
      where
        go : (x ≡ v.origin) ⊎ In x (receivers (v ∷ l)) → is_online m x ≡ true
        go (inl e) = subst (λ (y : ℕ). is_online m y ≡ true) (s.origin ∙ sym e) (home_online m v.task w s.runs)
        go (inr j) = receivers_online w all x j

-- ---- a task that moved runs to the end, and moves no more

pub stays : {k : ℕ} {m : Machine} {l : List Move} {e : Machine} (p c t : ℕ) → WellFormed m → Cap m p → p ≤ prio_of m t → running m c ≡ some t
    → Run k m l e → (running e c ≡ some t) × (In t (movers l) → ⊥)
stays p c t w bound h n out = (n, λ i. not_in_nil t i)
stays p c t w bound h n (stop x) = (n, λ i. not_in_nil t i)
stays p c t w bound h n (step {m = m} {v = v} {l = l} {e = e} x r) =
    go (stays (prio_of m v.task) c t (keep_step m v w s) (cap_step m v w s) (omega (arith, first)) (same_runs m v w s c elsewhere ∙ n) r)
  where
    s : Chosen m v
    s = chosen m v w x

    first : prio_of m v.task ≤ p
    first = capped p bound s

    here : level m c ≡ level_of (prio_of m t)
    here = level_running m c t n

    elsewhere : c ≢ v.target
    elsewhere q = let z : level m c ≡ level m v.target = ap (level m) q in omega (arith, first, here, s.below)

    -- who runs does not wait
    not_mover : t ≢ v.task
    not_mover q = top (row m c) refl n
      where
        top : (r : List ℕ) → row m c ≡ r → head r ≡ some t → ⊥
        top [] b a = let z : ◌≡◌ {A = ℕ} 0 1 = cc in omega arith
        top (y ∷ ys) b a = twice
          where
            is : y ≡ t
            is = cc

            in_c : In t (row m c)
            in_c = subst (In t) (sym b) (subst (λ (k : ℕ). In k (y ∷ ys)) is (in_here y ys))

            same_cpu : c ≡ v.origin
            same_cpu = sym (in_row m t c w in_c).1 ∙ ap (λ (k : ℕ). (task_of m k).cpu) q ∙ s.origin

            behind : In t ys
            behind =
                subst (λ (r : List ℕ). In t (mathlib.Core.List.tail r)) (ap (row m) (sym same_cpu) ∙ b)
                (subst (λ (k : ℕ). In k (mathlib.Core.List.tail (row m v.origin))) (sym q) s.waits)

            twice : ⊥
            twice =
                let two : occ t (row m c) ≡ occ t (y ∷ ys) = ap (occ t) b in
                omega (arith, once m t c w, occ_cons t y ys, digit_same t y (sym is), behind)

    go : (running e c ≡ some t) × (In t (movers l) → ⊥) → (running e c ≡ some t) × (In t (v.task ∷ movers l) → ⊥)
    go ih = (ih.0, λ i. pick (in_cons t v.task (movers l) i))
      where
        pick : (t ≡ v.task) ⊎ In t (movers l) → ⊥
        pick (inl q) = not_mover q
        pick (inr j) = ih.1 j

mover_stays : {k : ℕ} {m : Machine} {v : Move} {l : List Move} {e : Machine} → WellFormed m → Chosen m v → Run k (migrate v m) l e
    → (running e v.target ≡ some v.task) × (In v.task (movers l) → ⊥)
mover_stays {m = m} {v = v} w s r =
    stays (prio_of m v.task) v.target v.task (keep_step m v w s) (cap_step m v w s) (omega arith) (target_runs m v w s) r

pub run_movers : {k : ℕ} {m : Machine} {l : List Move} {e : Machine} → WellFormed m → Run k m l e → (t : ℕ) → occ t (movers l) ≤ 1
run_movers w out t = omega (arith, occ_nil t)
run_movers w (stop h) t = omega (arith, occ_nil t)
run_movers w (step {m = m} {v = v} {l = l} h r) t =
    at_most_once t v.task (movers l) (mover_stays w (chosen m v w h) r).1 (run_movers (keep_step m v w (chosen m v w h)) r t)

pub run_movers_run : {k : ℕ} {m : Machine} {l : List Move} {e : Machine} → WellFormed m → Run k m l e → (i : ℕ) → i < length l
    → running e (get_or (receivers l) i 0) ≡ some (get_or (movers l) i 0)
run_movers_run w out i h = absurd (not-suc-le-zero h)
run_movers_run w (stop n) i h = absurd (not-suc-le-zero h)
run_movers_run w (step {m = m} {v = v} n r) zero h = (mover_stays w (chosen m v w n) r).0
run_movers_run w (step {m = m} {v = v} n r) (suc i) h = run_movers_run (keep_step m v w (chosen m v w n)) r i (le_of_suc-le-suc h)

-- ---- the end

-- the steps ended because none applies, or the bound is used up
pub run_end : {k : ℕ} {m : Machine} {l : List Move} {e : Machine} → Run k m l e → (length l ≡ k) ⊎ (next e ≡ none)
run_end out = inl refl
run_end (stop h) = inr h
run_end (step {k = k} {l = l} {e = e} h r) = go (run_end r)
  where
    go : (length l ≡ k) ⊎ (next e ≡ none) → (suc (length l) ≡ suc k) ⊎ (next e ≡ none)
    go (inl s) = inl (ap suc s)
    go (inr n) = inr n

-- never the bound: there are fewer steps than CPUs online
pub settle_ends : (k : ℕ) (m : Machine) → WellFormed m → m.n ≤ k → next (settle k m).machine ≡ none
settle_ends k m w h = go (run_end (settle_run k m))
  where
    go : (length (settle k m).log ≡ k) ⊎ (next (settle k m).machine ≡ none) → next (settle k m).machine ≡ none
    go (inl e) = absurd (omega (arith, run_few w (settle_run k m), online_most m))
    go (inr n) = n

-- where no step applies any more, a larger bound changes nothing
pub settle_more : (k j : ℕ) (m : Machine) → next (settle k m).machine ≡ none → k ≤ j → settle j m ≡ settle k m
unfolding settle
settle_more zero zero m n h = refl
settle_more zero (suc j) m n h = ap (onward m (λ v. settle j (migrate v m))) n
settle_more (suc k) zero m n h = absurd (not-suc-le-zero h)
settle_more (suc k) (suc j) m n h = go (next m) refl n (λ v x. settle_more k j (migrate v m) x (le_of_suc-le-suc h))
  where
    go : (o : Option Move) → next m ≡ o → next (onward m (λ v. settle k (migrate v m)) o).machine ≡ none
        → ((v : Move) → next (settle k (migrate v m)).machine ≡ none → settle j (migrate v m) ≡ settle k (migrate v m))
        → onward m (λ v. settle j (migrate v m)) (next m) ≡ onward m (λ v. settle k (migrate v m)) (next m)
    go none e n ih = ap (onward m (λ v. settle j (migrate v m))) e ∙ sym (ap (onward m (λ v. settle k (migrate v m))) e)
    go (some v) e n ih =
        ap (onward m (λ v. settle j (migrate v m))) e
        ∙ ap (λ (s : Settled). record { log = v ∷ s.log; machine = s.machine }) (ih v n)
        ∙ sym (ap (onward m (λ v. settle k (migrate v m))) e)

-- the end does not depend on the bound
pub settle_any : (k : ℕ) (m : Machine) → WellFormed m → m.n ≤ k → settle k m ≡ settle m.n m
settle_any k m w h = settle_more m.n k m (settle_ends m.n m w (omega arith)) h

-- ---- all steps, one by one

pub settled_stop : (m : Machine) → next m ≡ none → settle_all m ≡ record { log = []; machine = m }
unfolding settle
settled_stop m e = go m.n
  where
    go : (k : ℕ) → settle k m ≡ record { log = []; machine = m }
    go zero = refl
    go (suc k) = ap (onward m (λ v. settle k (migrate v m))) e
