-- An event is refused with k exactly if k is the first number that applies, and accepted exactly if none does; and the finder refuses so too.
-- Assumes nothing.
use mathlib.Core.Path.{◌≡◌, refl, sym, ◌∙◌}
use mathlib.Core.Bool.{Bool, true, false, cond, false≢true}
use mathlib.Core.Logic.{inl, inr, ⊎_elim}
use mathlib.Core.List.{List, [], ◌∷◌, map}
use mathlib.Core.Option as maybe
use mathlib.Core.Option.{none, some}
use Prim.Native.Nat.{ℕ, zero, suc, ◌≤◌, ◌<◌}
use native.Mathlib.Omega.{arith}
use Rattle.std.specs.Prelude.{Option, None, Some, Err}
use Rattle.levels.specs.declared.record.Record.{Record}
use Rattle.refusal.specs.Answers.{number_of}
use Rattle.cpupri.specs.Found.{Test, told, answer_of, lowest_found, find_tests, numbered, find_checks, tested, found}
use Rattle.cpupri.specs.declared.find.Found.{Found}
use Rattle.cpupri.specs.declared.find.Lowest.{Lowest}
use Rattle.rules.specs.Machine.{Machine}
use Rattle.rules.specs.Events.{Event, Kind, kind_of, by_kind}
use Rattle.rules.specs.Events.{add, remove, wake, sleep, set_priority, set_affinity, tick, yield, set_ordinary, take_offline, bring_online}
use Rattle.rules.specs.Refusals.{Check, first_failing, Applies, First, checks, no_kind}
use Rattle.rules.specs.Tables.{Tables, machine_of}
use Rattle.rules.specs.Entry.{size_check, form_check, event_answer, all_checks}

-- ---- a list of checks whose numbers rise

abbrev Rising : ℕ → List Check → Type 0
Rising low [] = Unit {0}
Rising low (c ∷ cs) = (low ≤ c.number) × Rising c.number cs

above : (low : ℕ) (cs : List Check) → Rising low cs → (j : ℕ) → Applies j cs → low ≤ j
above low [] up j a = elim a [ ]
above low (c ∷ cs) up j (inl a) = let at : low ≤ c.number = up.0 in omega (arith, a.1)
above low (c ∷ cs) up j (inr a) = let at : low ≤ c.number = up.0 in omega (arith, above c.number cs up.1 j a)

-- the first check that fails has the first number that applies
failing_first : (low : ℕ) (cs : List Check) → Rising low cs → (k : ℕ) → 0 < k → first_failing cs ≡ k → First k cs
unfolding first_failing
failing_first low [] up k p h = absurd (omega (arith, h))
failing_first low (c ∷ cs) up k p h = go c.fails refl h (failing_first c.number cs up.1 k p)
  where
    go : (b : Bool) → c.fails ≡ b → cond b c.number (first_failing cs) ≡ k → (first_failing cs ≡ k → First k cs) → First k (c ∷ cs)
    go true e q later = record {
      applies = inl (e, q);
      least = λ j. ⊎_elim (λ a. omega (arith, q, a.1)) (λ a. omega (arith, q, above c.number cs up.1 j a));
    }
    go false e q later =
        let f = later q in
        record { applies = inr f.applies; least = λ j. ⊎_elim (λ a. absurd (false≢true (sym e ∙ a.0))) (f.least j) }

first_failing_lem : (low : ℕ) (cs : List Check) → Rising low cs → (k : ℕ) → First k cs → first_failing cs ≡ k
unfolding first_failing
first_failing_lem low [] up k f = absurd f.applies
first_failing_lem low (c ∷ cs) up k f = go c.fails refl f.applies (first_failing_lem c.number cs up.1 k)
  where
    go : (b : Bool) → c.fails ≡ b → Applies k (c ∷ cs) → (First k cs → first_failing cs ≡ k) → cond b c.number (first_failing cs) ≡ k
    go true e (inl a) later = a.1
    go true e (inr a) later = omega (arith, f.least c.number (inl (e, refl)), above c.number cs up.1 k a)
    go false e (inl a) later = absurd (false≢true (sym e ∙ a.0))
    go false e (inr a) later = later (record { applies = a; least = λ j b. f.least j (inr b) })

-- none fails exactly if no number applies
none_applies : (low : ℕ) (cs : List Check) → 0 < low → Rising low cs → first_failing cs ≡ 0 → (j : ℕ) → Applies j cs → ⊥
unfolding first_failing
none_applies low [] p up h j a = elim a [ ]
none_applies low (c ∷ cs) p up h j a =
    let least : low ≤ c.number = up.0 in
    let big : 0 < c.number = omega arith in
    go big c.fails refl h (λ q. none_applies c.number cs big up.1 q j) a
  where
    go : 0 < c.number → (b : Bool) → c.fails ≡ b → cond b c.number (first_failing cs) ≡ 0 → (first_failing cs ≡ 0 → Applies j cs → ⊥) → Applies j (c ∷ cs) → ⊥
    go big true e q later a = omega (arith, q, big)
    go big false e q later a = ⊎_elim (λ b. false≢true (sym e ∙ b.0)) (later q) a

-- ---- an event's checks

rising : (n : ℕ) (r : Record) (s : Tables) (m : Machine) (e : Event) (o : maybe.Option Kind) → Rising 1 (size_check n s ∷ form_check n r s ∷ by_kind (no_kind ∷ []) (checks m e) o)
rising n r s m e none = omega arith
rising n r s m e (some add) = omega arith
rising n r s m e (some remove) = omega arith
rising n r s m e (some wake) = omega arith
rising n r s m e (some sleep) = omega arith
rising n r s m e (some set_priority) = omega arith
rising n r s m e (some set_affinity) = omega arith
rising n r s m e (some tick) = omega arith
rising n r s m e (some yield) = omega arith
rising n r s m e (some set_ordinary) = omega arith
rising n r s m e (some take_offline) = omega arith
rising n r s m e (some bring_online) = omega arith

module _ (n : ℕ) (r : Record) (s : Tables) (e : Event) where
  up : Rising 1 (all_checks n r s e)
  up = rising n r s (machine_of n s) e (kind_of e.kind)

  -- refused with k: k is the first number that applies
  pub refused_first : (k : ℕ) → 0 < k → event_answer n r s e ≡ k → First k (all_checks n r s e)
  unfolding event_answer
  refused_first k p h = failing_first 1 (all_checks n r s e) up k p h

  -- and never otherwise
  pub first_refused : (k : ℕ) → First k (all_checks n r s e) → event_answer n r s e ≡ k
  unfolding event_answer
  first_refused k f = first_failing_lem 1 (all_checks n r s e) up k f

  -- accepted exactly if no number applies
  pub accepted_none : event_answer n r s e ≡ 0 → (j : ℕ) → Applies j (all_checks n r s e) → ⊥
  unfolding event_answer
  accepted_none h = none_applies 1 (all_checks n r s e) (omega arith) up h

  pub none_accepted : ((j : ℕ) → Applies j (all_checks n r s e) → ⊥) → event_answer n r s e ≡ 0
  none_accepted free = go (event_answer n r s e) refl
    where
      go : (a : ℕ) → event_answer n r s e ≡ a → a ≡ 0
      go zero h = refl
      go (suc a) h = absurd (free (suc a) (refused_first (suc a) (omega arith) h).applies)

-- ---- the finder's

told_number : (read : ℕ) (o : Option Lowest) → (told read o).number ≡ 0
told_number read None = refl
told_number read (Some l) = refl

tested_number : (ts : List Test) (f : Found) → (answer_of (tested ts f)).number ≡ first_failing (map numbered ts)
unfolding tested first_failing
tested_number [] f = told_number f.read f.lowest
tested_number (t ∷ ts) f = go t.fails (tested_number ts f)
  where
    go : (b : Bool) → (answer_of (tested ts f)).number ≡ first_failing (map numbered ts)
        → (answer_of (cond b (Err t.refusal) (tested ts f))).number ≡ cond b (number_of t.refusal) (first_failing (map numbered ts))
    go true later = refl
    go false later = later

module _ (n : ℕ) (r : Record) (level mask : ℕ) where
  find_number : (answer_of (found n r level mask)).number ≡ first_failing (find_checks n r level mask)
  unfolding found
  find_number = tested_number (find_tests n r level mask) (lowest_found r.masks level mask)

  rise : Rising 1 (find_checks n r level mask)
  unfolding find_tests
  rise = omega arith

  pub find_refused_first : (k : ℕ) → 0 < k → (answer_of (found n r level mask)).number ≡ k → First k (find_checks n r level mask)
  find_refused_first k p h = failing_first 1 (find_checks n r level mask) rise k p (sym find_number ∙ h)

  pub first_find_refused : (k : ℕ) → First k (find_checks n r level mask) → (answer_of (found n r level mask)).number ≡ k
  first_find_refused k f = find_number ∙ first_failing_lem 1 (find_checks n r level mask) rise k f
