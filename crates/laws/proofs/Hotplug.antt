-- Who can move after a CPU came back or went offline, on a machine that was settled. A CPU that came back draws, as one whose level fell. Where
-- one went, only the task that ran on it can have found a CPU below it: the others waited there already. So it can move, or whom it displaced.
-- Assumes nothing.
use mathlib.Core.Path.{◌≡◌, refl, sym, ap, ◌∙◌, subst}
use mathlib.Core.Bool.{Bool, true, false, cond, ◌&&◌, true≢false}
use mathlib.Core.List.{List, [], ◌∷◌, map, tail}
use mathlib.Core.Logic.{◌≢◌, ◌⊎◌, inl, inr}
use mathlib.Core.Option.{none, some}
use Prim.Native.Nat.{ℕ, ◌≤◌, ◌<◌}
use native.Mathlib.Omega.{arith}
use lib.Dec.{ltb}
use lib.ListN.{length, get_or, length-set}
use borrow.Author.Tests.{le-ltb, ltb-false}
use Rattle.bits.specs.Bit.{bit, without_bit}
use Rattle.bits.proofs.Word.{bit_put_same, bit_put_other}
use Rattle.rules.specs.Lists.{In, Falling, joined, insert_before, delete}
use Rattle.rules.specs.Machine.{Machine, task_of, prio_of, row, flag, is_online, idle_level, head, running, row_level, level, level_of, invalid}
use Rattle.rules.specs.Machine.{allowed, allows, lowest_allowed, stranded, runnable, queued, enqueue, dequeue, without_cpu, with_cpu}
use Rattle.rules.specs.WellFormed.{WellFormed}
use Rattle.rules.specs.Events.{evacuated, taken_offline}
use Rattle.rules.specs.Migration.{waiting, next}
use Rattle.laws.specs.Limited.{Limited, holds, second, fallen_cpu, new_task}
use Rattle.laws.proofs.Lists.{same?, digit_other, in_here, in_there, in_cons, not_in_nil, in_tails, tails_in, occ_insert}
use Rattle.laws.proofs.Rows.{row_same, row_other}
use Rattle.laws.proofs.Apart.{in_row, runnable_fit}
use Rattle.laws.proofs.Online.{evacuated_keeps, lowest_up, idle_online, offline_empty, level_offline, allows_mask, allows_online, both_allow}
use Rattle.laws.proofs.Limited.{none_some, holds_some}
use Rattle.laws.proofs.Step.{level_running}
use Rattle.laws.proofs.Touched.{settled_above, new_waits, new_runs, new_task_waits}

-- ---- a CPU came back

pub limited_back : (c : ℕ) (m : Machine) → next m ≡ none → c < m.n → Limited (with_cpu c m) (some c) none
limited_back c m still h =
    record {
      small = λ d e. let s : c ≡ d = cc in omega arith;
      waits = λ t e. absurd (none_some t e);
      only = λ u d i s a l. only u d i s a l (same? c d);
      quiet = λ x d u e n. absurd (none_some x n);
    }
  where
    only : (u d : ℕ) → In u (waiting m) → d < m.n → allowed (with_cpu c m) u d ≡ true → level (with_cpu c m) d < level_of (prio_of m u) → (c ≡ d) ⊎ (c ≢ d)
        → (none ≡ some u) ⊎ (some c ≡ some d)
    only u d i s a l (inl e) = inr (ap (λ (x : ℕ). some x) e)
    only u d i s a l (inr n) =
        let on : is_online (with_cpu c m) d ≡ is_online m d = bit_put_other true m.online c d n in
        let same : level (with_cpu c m) d ≡ level m d = ap (λ (b : Bool). row_level (prio_of m) (cond b (flag m d) invalid) (row m d)) on in
        let may : allowed m u d ≡ true = ap (λ (b : Bool). bit (task_of m u).mask d && b) (sym on) ∙ a in
        absurd (omega (arith, settled_above m u d still i s may, same))

-- ---- rows that tasks enter

in_queued : (k : ℕ) (p : ℕ → ℕ) (e u : ℕ) (r : List ℕ) → In u (queued k p e r) → (u ≡ e) ⊎ In u r
in_queued k p e u r i = go (same? u e)
  where
    go : (u ≡ e) ⊎ (u ≢ e) → (u ≡ e) ⊎ In u r
    go (inl s) = inl s
    go (inr n) = inr (omega (arith, occ_insert (λ x. ltb (p x) k) e u r, digit_other u e n))

-- a task enters behind one that is not lower
passes : (p : ℕ → ℕ) (e f : ℕ) (r : List ℕ) → p e ≤ p f → queued (p e) p e (f ∷ r) ≡ f ∷ queued (p e) p e r
unfolding insert_before
passes p e f r h = ap (λ (b : Bool). cond b (e ∷ f ∷ r) (f ∷ queued (p e) p e r)) (le-ltb (p f) (p e) h)

-- The row `old` has grown to `now` by tasks of the list `leavers`: what ran there runs, or stands behind the task r alone.
abbrev Grown : ℕ → List ℕ → List ℕ → List ℕ → Type 0
Grown r leavers [] now = (u : ℕ) → In u now → In u leavers
Grown r leavers (f ∷ fs) now =
    (rest : List ℕ) × ((now ≡ f ∷ rest) ⊎ (now ≡ r ∷ f ∷ rest)) × ((u : ℕ) → In u rest → In u fs ⊎ In u leavers)

-- the task e is not above what ran there, nor above r
abbrev Low : (ℕ → ℕ) → ℕ → ℕ → List ℕ → Type 0
Low p r e [] = Unit {0}
Low p r e (f ∷ fs) = (p e ≤ p f) × (p e ≤ p r)

grown_not : (r : ℕ) (leavers old : List ℕ) → Grown r leavers old old
grown_not r leavers [] = λ u i. absurd (not_in_nil u i)
grown_not r leavers (f ∷ fs) = (fs, inl refl, λ u i. inl i)

-- whoever is in a row that e enters
with_one : (p : ℕ → ℕ) (e : ℕ) (leavers fs r : List ℕ) → In e leavers → ((u : ℕ) → In u r → In u fs ⊎ In u leavers)
    → (u : ℕ) → In u (queued (p e) p e r) → In u fs ⊎ In u leavers
with_one p e leavers fs r member all u i = go (in_queued (p e) p e u r i)
  where
    go : (u ≡ e) ⊎ In u r → In u fs ⊎ In u leavers
    go (inl s) = inr (subst (λ (x : ℕ). In x leavers) (sym s) member)
    go (inr j) = all u j

-- r enters
grown_first : (p : ℕ → ℕ) (r : ℕ) (leavers old : List ℕ) → In r leavers → Grown r leavers old (queued (p r) p r old)
unfolding insert_before
grown_first p r leavers [] member = λ u i. go u (in_queued (p r) p r u [] i)
  where
    go : (u : ℕ) → (u ≡ r) ⊎ In u [] → In u leavers
    go u (inl s) = subst (λ (x : ℕ). In x leavers) (sym s) member
    go u (inr j) = absurd (not_in_nil u j)
grown_first p r leavers (f ∷ fs) member = go (ltb (p f) (p r)) refl
  where
    go : (b : Bool) → ltb (p f) (p r) ≡ b → Grown r leavers (f ∷ fs) (queued (p r) p r (f ∷ fs))
    go true e = (fs, inr (ap (λ (b : Bool). cond b (r ∷ f ∷ fs) (f ∷ queued (p r) p r fs)) e), λ u i. inl i)
    go false e = (queued (p r) p r fs, inl (passes p r f fs (ltb-false (p f) (p r) e)), with_one p r leavers fs fs member (λ u i. inl i))

-- another enters
grown_low : (p : ℕ → ℕ) (r e : ℕ) (leavers old now : List ℕ) → In e leavers → Low p r e old → Grown r leavers old now → Grown r leavers old (queued (p e) p e now)
grown_low p r e leavers [] now member low g = λ u i. go u (in_queued (p e) p e u now i)
  where
    go : (u : ℕ) → (u ≡ e) ⊎ In u now → In u leavers
    go u (inl s) = subst (λ (x : ℕ). In x leavers) (sym s) member
    go u (inr j) = g u j
grown_low p r e leavers (f ∷ fs) now member low g = (queued (p e) p e g.0, go g.1, with_one p e leavers fs g.0 member g.2)
  where
    go : (now ≡ f ∷ g.0) ⊎ (now ≡ r ∷ f ∷ g.0)
        → (queued (p e) p e now ≡ f ∷ queued (p e) p e g.0) ⊎ (queued (p e) p e now ≡ r ∷ f ∷ queued (p e) p e g.0)
    go (inl q) = inl (ap (queued (p e) p e) q ∙ passes p e f g.0 low.0)
    go (inr q) = inr (ap (queued (p e) p e) q ∙ passes p e r (f ∷ g.0) low.1 ∙ ap (λ (xs : List ℕ). r ∷ xs) (passes p e f g.0 low.0))

-- ---- the row of CPU d while tasks leave CPU c

module _ (c d : ℕ) (away : d ≢ c) where
  -- task e goes to CPU k
  row_entered : (x : Machine) (e k : ℕ) → d < length x.rows → k ≡ d → row (enqueue e k (dequeue e c x)) d ≡ queued (prio_of x e) (prio_of x) e (row x d)
  row_entered x e k s h =
      subst (λ (y : ℕ). row (enqueue e y (dequeue e c x)) d ≡ queued (prio_of x e) (prio_of x) e (row x d)) (sym h)
      (row_same (dequeue e c x) d (queued (prio_of x e) (prio_of x) e (row (dequeue e c x) d)) (simp length-set s)
      ∙ ap (queued (prio_of x e) (prio_of x) e) (row_other x c d (delete e (row x c)) away))

  row_passed : (x : Machine) (e k : ℕ) → k ≢ d → row (enqueue e k (dequeue e c x)) d ≡ row x d
  row_passed x e k n =
      row_other (dequeue e c x) k d (queued (prio_of x e) (prio_of x) e (row (dequeue e c x) k)) (λ s. n (sym s))
      ∙ row_other x c d (delete e (row x c)) away

  grown_all : (r : ℕ) (leavers old ts : List ℕ) (x : Machine) → d < length x.rows → ((e : ℕ) → In e ts → In e leavers)
      → ((e : ℕ) → In e ts → lowest_allowed x (task_of x e).mask ≡ d → Low (prio_of x) r e old)
      → Grown r leavers old (row x d) → Grown r leavers old (row (evacuated c ts x) d)
  unfolding evacuated
  grown_all r leavers old [] x s member low g = g
  grown_all r leavers old (e ∷ ts) x s member low g =
      grown_all r leavers old ts after (simp length-set s) (λ u i. member u (in_there u e ts i)) (λ u i. low u (in_there u e ts i)) (go (same? to d))
    where
      to : ℕ
      to = lowest_allowed x (task_of x e).mask

      after : Machine
      after = enqueue e (lowest_allowed x (task_of x e).mask) (dequeue e c x)

      go : (to ≡ d) ⊎ (to ≢ d) → Grown r leavers old (row (enqueue e (lowest_allowed x (task_of x e).mask) (dequeue e c x)) d)
      go (inl h) =
          subst (Grown r leavers old) (sym (row_entered x e (lowest_allowed x (task_of x e).mask) s h))
          (grown_low (prio_of x) r e leavers old (row x d) (member e (in_here e ts)) (low e (in_here e ts) h) g)
      go (inr n) = subst (Grown r leavers old) (sym (row_passed x e (lowest_allowed x (task_of x e).mask) n)) g

-- ---- CPU c went

module _ (c : ℕ) (m : Machine) (w : WellFormed m) (h : c < m.n) (w' : WellFormed (taken_offline c m)) (still : next m ≡ none) where
  abbrev m' : Machine
  m' = taken_offline c m

  kept : {A : Type 0} (f : Machine → A) → ((t d : ℕ) (x : Machine) → f (enqueue t d (dequeue t c x)) ≡ f x) → f m' ≡ f (without_cpu c m)
  kept f k = evacuated_keeps c f k (row m c) (without_cpu c m)

  prio_kept : (u : ℕ) → prio_of m' u ≡ prio_of m u
  prio_kept u = kept (λ x. prio_of x u) (λ t d x. refl)

  -- a CPU of the others is online as it was
  others : (d : ℕ) → bit (without_bit m.online c) d ≡ true → (d ≢ c) × (is_online m d ≡ true)
  others d on =
      let away : c ≢ d = λ s. true≢false (sym on ∙ ap (bit (without_bit m.online c)) (sym s) ∙ bit_put_same false m.online c) in
      (λ s. away (sym s), sym (bit_put_other false m.online c d away) ∙ on)

  was_allowed : (k d : ℕ) → allows (without_cpu c m) k d ≡ true → (d ≢ c) × (allows m k d ≡ true)
  was_allowed k d a =
      let o = others d (allows_online (without_cpu c m) k d a) in (o.0, both_allow m k d (allows_mask (without_cpu c m) k d a) o.1)

  allowed_before : (u d : ℕ) → allowed m' u d ≡ true → (d ≢ c) × (allowed m u d ≡ true)
  allowed_before u d a = was_allowed (task_of m u).mask d (sym (kept (λ x. allowed x u d) (λ t d x. refl)) ∙ a)

  idle_kept : (d : ℕ) → d ≢ c → idle_level m' d ≡ idle_level m d
  idle_kept d n =
      kept (λ x. idle_level x d) (λ t d x. refl)
      ∙ ap (λ (b : Bool). cond b (flag m d) invalid) (bit_put_other false m.online c d (λ s. n (sym s)))

  -- a task that waited finds no CPU below it, where levels have not fallen
  still_above : (u d : ℕ) → In u (waiting m) → d < m.n → allowed m' u d ≡ true → level m d ≤ level m' d → level m' d < level_of (prio_of m' u) → ⊥
  still_above u d i s a l x = omega (arith, settled_above m u d still i s (allowed_before u d a).1, prio_kept u)

  -- nobody was there
  pub limited_left : row m c ≡ [] → Limited m' none none
  unfolding evacuated
  limited_left e =
      record {
        small = λ d q. absurd (none_some d q);
        waits = λ t q. absurd (none_some t q);
        only = λ u d i s a l. absurd (still_above u d (same_waiting u i) (subst (λ (n : ℕ). d < n) cpus s) a (same_level d (allowed_before u d a).0) l);
        quiet = λ x d u y q. absurd (none_some x q);
      }
    where
      rows : m'.rows ≡ m.rows
      rows = ap (λ (r : List ℕ). (evacuated c r (without_cpu c m)).rows) e

      cpus : m'.n ≡ m.n
      cpus = kept (λ x. x.n) (λ t d x. refl)

      same_waiting : (u : ℕ) → In u (waiting m') → In u (waiting m)
      same_waiting u i = subst (λ (r : List (List ℕ)). In u (joined (map tail r))) rows i

      same_level : (d : ℕ) → d ≢ c → level m d ≤ level m' d
      same_level d n =
          let r : row m' d ≡ row m d = ap (λ (x : List (List ℕ)). get_or x d []) rows in
          go (row m' d) (row m d) r
        where
          go : (a b : List ℕ) → a ≡ b → row_level (prio_of m) (idle_level m d) b ≤ row_level (prio_of m') (idle_level m' d) a
          go [] [] q = omega (arith, idle_kept d n)
          go [] (y ∷ ys) q = absurd (let z : ◌≡◌ {A = ℕ} 0 1 = cc in omega arith)
          go (x ∷ xs) [] q = absurd (let z : ◌≡◌ {A = ℕ} 0 1 = cc in omega arith)
          go (x ∷ xs) (y ∷ ys) q = let s : x ≡ y = cc in let p : prio_of m' x ≡ prio_of m y = prio_kept x ∙ ap (prio_of m) s in omega arith

  -- r ran there, and rs waited
  module _ (placed : (t : ℕ) → In t (row m c) → stranded (without_cpu c m) (task_of m t).mask ≡ false) (r : ℕ) (rs : List ℕ) (e : row m c ≡ r ∷ rs) where
    there : (u : ℕ) → In u rs → In u (row m c)
    there u i = subst (In u) (sym e) (in_there u r rs i)

    waited : (u : ℕ) → In u rs → In u (waiting m)
    waited u i = in_tails u c m.rows (subst (λ (x : List ℕ). In u (tail x)) (sym e) i)

    -- who waited there is not above what runs where it goes, nor above r
    low : (d u : ℕ) → In u rs → lowest_allowed (without_cpu c m) (task_of m u).mask ≡ d → Low (prio_of m) r u (row m d)
    low d u i to = go (row m d) refl
      where
        fits : (lowest_allowed (without_cpu c m) (task_of m u).mask < m.n)
            × (allows (without_cpu c m) (task_of m u).mask (lowest_allowed (without_cpu c m) (task_of m u).mask) ≡ true)
        fits = lowest_up (without_cpu c m) (task_of m u).mask (runnable_fit m u w (in_row m u c w (there u i)).0).mask_fits (placed u (there u i))

        high : level_of (prio_of m u) ≤ level m d
        high =
            settled_above m u d still (waited u i) (subst (λ (x : ℕ). x < m.n) to fits.0)
            (was_allowed (task_of m u).mask d (subst (λ (x : ℕ). allows (without_cpu c m) (task_of m u).mask x ≡ true) to fits.1)).1

        falls : prio_of m u ≤ prio_of m r
        falls = (subst (Falling (prio_of m)) e (w.falling c)).0 u i

        go : (x : List ℕ) → row m d ≡ x → Low (prio_of m) r u x
        go [] q = tt
        go (f ∷ fs) q = (omega (arith, high, level_running m d f (ap head q)), falls)

    grown : (d : ℕ) → d ≢ c → d < m.n → Grown r (row m c) (row m d) (row m' d)
    unfolding evacuated
    grown d n s =
        subst (λ (ts : List ℕ). Grown r (row m c) (row m d) (row (evacuated c ts (without_cpu c m)) d)) (sym e)
        (grown_all c d n r (row m c) (row m d) rs (enqueue r to (dequeue r c (without_cpu c m))) (simp length-set fits) there (low d) (go (same? to d)))
      where
        to : ℕ
        to = lowest_allowed (without_cpu c m) (task_of m r).mask

        fits : d < length m.rows
        fits = omega (arith, w.shape.rows)

        go : (lowest_allowed (without_cpu c m) (task_of m r).mask ≡ d) ⊎ (lowest_allowed (without_cpu c m) (task_of m r).mask ≢ d)
            → Grown r (row m c) (row m d) (row (enqueue r (lowest_allowed (without_cpu c m) (task_of m r).mask) (dequeue r c (without_cpu c m))) d)
        go (inl q) =
            subst (Grown r (row m c) (row m d)) (sym (row_entered c d n (without_cpu c m) r (lowest_allowed (without_cpu c m) (task_of m r).mask) fits q))
            (grown_first (prio_of m) r (row m c) (row m d) (subst (In r) (sym e) (in_here r rs)))
        go (inr q) =
            subst (Grown r (row m c) (row m d)) (sym (row_passed c d n (without_cpu c m) r (lowest_allowed (without_cpu c m) (task_of m r).mask) q))
            (grown_not r (row m c) (row m d))

    -- levels have risen
    rises : (d : ℕ) → d ≢ c → d < m.n → is_online m d ≡ true → level m d ≤ level m' d
    rises d n s on = go (row m d) (row m' d) (grown d n s) (w'.falling d)
      where
        go : (a b : List ℕ) → Grown r (row m c) a b → Falling (prio_of m') b → row_level (prio_of m) (idle_level m d) a ≤ row_level (prio_of m') (idle_level m' d) b
        go [] [] g f = omega (arith, idle_kept d n)
        go [] (y ∷ ys) g f = omega (arith, idle_online m d on, w.flags d s)
        go (x ∷ xs) b g f = which g.1
          where
            which : (b ≡ x ∷ g.0) ⊎ (b ≡ r ∷ x ∷ g.0) → level_of (prio_of m x) ≤ row_level (prio_of m') (idle_level m' d) b
            which (inl q) =
                let p : row_level (prio_of m') (idle_level m' d) b ≡ level_of (prio_of m' x) = ap (row_level (prio_of m') (idle_level m' d)) q in
                omega (arith, prio_kept x)
            which (inr q) =
                let p : row_level (prio_of m') (idle_level m' d) b ≡ level_of (prio_of m' r) = ap (row_level (prio_of m') (idle_level m' d)) q in
                let l : prio_of m' x ≤ prio_of m' r = (subst (Falling (prio_of m')) q f).0 x (in_here x g.0) in
                omega (arith, prio_kept x)

    -- who waits now: r, or who waited, or who ran where r runs now
    abbrev Waits : ℕ → ℕ → Type 0
    Waits u d = (u ≡ r) ⊎ (In u (waiting m) ⊎ ((running m d ≡ some u) × (running m' d ≡ some r) × (second (row m' d) ≡ some u)))

    waits_now : (u d : ℕ) → d ≢ c → d < m.n → In u (tail (row m' d)) → Waits u d
    waits_now u d n s i = go (row m d) (row m' d) refl refl (grown d n s) i
      where
        gone : In u (row m c) → Waits u d
        gone j = which (in_cons u r rs (subst (In u) e j))
          where
            which : (u ≡ r) ⊎ In u rs → Waits u d
            which (inl q) = inl q
            which (inr k) = inr (inl (waited u k))

        old : (f : ℕ) (fs : List ℕ) → row m d ≡ f ∷ fs → In u fs ⊎ In u (row m c) → Waits u d
        old f fs q (inl j) = inr (inl (in_tails u d m.rows (subst (λ (x : List ℕ). In u (tail x)) (sym q) j)))
        old f fs q (inr j) = gone j

        go : (a b : List ℕ) → row m d ≡ a → row m' d ≡ b → Grown r (row m c) a b → In u (tail b) → Waits u d
        go [] [] p q g i = absurd (not_in_nil u i)
        go [] (y ∷ ys) p q g i = gone (g u (in_there u y ys i))
        go (f ∷ fs) b p q g i = which g.1
          where
            which : (b ≡ f ∷ g.0) ⊎ (b ≡ r ∷ f ∷ g.0) → Waits u d
            which (inl z) = old f fs p (g.2 u (subst (λ (x : List ℕ). In u (tail x)) z i))
            which (inr z) = last (in_cons u f g.0 (subst (λ (x : List ℕ). In u (tail x)) z i))
              where
                last : (u ≡ f) ⊎ In u g.0 → Waits u d
                last (inl s) =
                    inr (inr (ap head p ∙ ap (λ (x : ℕ). some x) (sym s), ap head (q ∙ z), ap second (q ∙ z) ∙ ap (λ (x : ℕ). some x) (sym s)))
                last (inr j) = old f fs p (g.2 u j)

    -- it is at no level now
    none_fell : fallen_cpu r m m' ≡ none
    none_fell = ap (λ (b : Bool). cond (holds (running m from) r && b) (some from) none) (le-ltb (level m' from) (level m from) lower) ∙ go (holds (running m from) r)
      where
        from : ℕ
        from = (task_of m r).cpu

        stands : ((task_of m r).state ≡ runnable) × ((task_of m r).cpu ≡ c)
        stands = in_row m r c w (subst (In r) (sym e) (in_here r rs))

        off : is_online m' c ≡ false
        off = kept (λ x. is_online x c) (λ t d x. refl) ∙ bit_put_same false m.online c

        lower : level m (task_of m r).cpu ≤ level m' (task_of m r).cpu
        lower =
            subst (λ (x : ℕ). level m x ≤ level m' x) (sym stands.1)
            (omega (arith, level_offline m' c w' off, level_running m c r (ap head e), (runnable_fit m r w stands.0).prio_high))

        go : (b : Bool) → cond (b && false) (some (task_of m r).cpu) none ≡ none
        go true = refl
        go false = refl

    pub limited_gone : Limited m' (fallen_cpu r m m') (new_task r m m')
    limited_gone =
        record {
          small = λ d q. absurd (none_some d (sym none_fell ∙ q));
          waits = new_task_waits r m m' w w';
          only = λ u d i s a l. inl (only u d i (subst (λ (n : ℕ). d < n) cpus s) a l);
          quiet = λ x d u y q z. absurd (none_some d (sym none_fell ∙ z));
        }
      where
        cpus : m'.n ≡ m.n
        cpus = kept (λ x. x.n) (λ t d x. refl)

        only : (u d : ℕ) → In u (waiting m') → d < m.n → allowed m' u d ≡ true → level m' d < level_of (prio_of m' u) → new_task r m m' ≡ some u
        only u d i s a l = go (tails_in u m'.rows i)
          where
            go : (k : ℕ) × (k < length m'.rows) × (In u (tail (row m' k))) → new_task r m m' ≡ some u
            go f = which (same? u r) (waits_now u f.0 away (omega (arith, w'.shape.rows, cpus, f.1)) f.2)
              where
                -- the row of CPU c is empty
                away : f.0 ≢ c
                away q =
                    not_in_nil u (subst (λ (x : List ℕ). In u (tail x))
                    (offline_empty m' f.0 w' (ap (is_online m') q ∙ kept (λ x. is_online x c) (λ t d x. refl) ∙ bit_put_same false m.online c)) f.2)

                which : (u ≡ r) ⊎ (u ≢ r) → Waits u f.0 → new_task r m m' ≡ some u
                which (inl q) x = new_waits r m m' w w' (subst (λ (y : ℕ). In y (waiting m')) q i) ∙ ap (λ (y : ℕ). some y) (sym q)
                which (inr n) (inl q) = absurd (n q)
                which (inr n) (inr (inl j)) =
                    let before = allowed_before u d a in
                    absurd (still_above u d j s a (rises d before.0 s (allows_online m (task_of m u).mask d before.1)) l)
                which (inr n) (inr (inr q)) = new_runs r m m' w w' f.0 q.1 ∙ no (holds (running m f.0) r) refl
                  where
                    no : (b : Bool) → holds (running m f.0) r ≡ b → cond b none (second (row m' f.0)) ≡ some u
                    no true x =
                        let same : some u ≡ some r = sym q.0 ∙ holds_some (running m f.0) r x in absurd (n (cc))
                    no false x = q.2
