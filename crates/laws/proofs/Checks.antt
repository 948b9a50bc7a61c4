-- Refusals: an event is accepted exactly if every check of its kind passes; and what the checks say once they pass.
-- Assumes nothing.
use mathlib.Core.Path.{◌≡◌, refl, ap, ◌∙◌}
use mathlib.Core.Bool.{Bool, true, false, cond, ◌&&◌, ◌||◌, not}
use mathlib.Core.Logic.{◌⊎◌, inl, inr}
use mathlib.Core.List.{List, [], ◌∷◌}
use mathlib.Core.Option.{Option, none, some}
use Prim.Native.Nat.{ℕ, zero, suc, ◌≤◌, ◌<◌, ◌^◌}
use native.Mathlib.Nat.{not-suc-le-zero, le_of_suc-le-suc}
use native.Mathlib.Omega.{arith}
use lib.ListN.{length, get_elem?}
use lib.Dec.{eqb, leb, ltb}
use borrow.Author.Tests.{eqb-true, leb-true, leb-false, ltb-true, lt-ltb, not-false}
use Rattle.rules.specs.Machine.{Machine}
use Rattle.rules.specs.Events.{Event, Kind, kinds, kind_of, by_kind, effect, effect_of}
use Rattle.rules.specs.Events.{add, remove, wake, sleep, set_priority, set_affinity, tick, yield, set_ordinary, take_offline, bring_online}
use Rattle.cpupri.specs.Found.{mask_fits}
use Rattle.rules.specs.Refusals.{Check, first_failing, Passes, no_kind, checks, refusal}
use Rattle.rules.specs.Outcome.{outcome, answered, accepted}
use Rattle.bits.proofs.Tests.{and_both}
use Rattle.laws.proofs.Bools.{both}

-- ---- the first that fails

abbrev Positive : List Check → Type 0
Positive [] = Unit {0}
Positive (c ∷ cs) = (0 < c.number) × Positive cs

positive : (m : Machine) (e : Event) (k : Kind) → Positive (checks m e k)
positive m e add = omega arith
positive m e remove = omega arith
positive m e wake = omega arith
positive m e sleep = omega arith
positive m e set_priority = omega arith
positive m e set_affinity = omega arith
positive m e tick = omega arith
positive m e yield = omega arith
positive m e set_ordinary = omega arith
positive m e take_offline = omega arith
positive m e bring_online = omega arith

pub passes : (cs : List Check) → Positive cs → first_failing cs ≡ 0 → Passes cs
unfolding first_failing
passes [] p h = tt
passes (c ∷ cs) p h = go c.fails refl h (passes cs p.1)
  where
    go : (b : Bool) → c.fails ≡ b → cond b c.number (first_failing cs) ≡ 0 → (first_failing cs ≡ 0 → Passes cs) → (c.fails ≡ false) × Passes cs
    go true e h ih = absurd (let q : 0 < c.number = p.0 in omega arith)
    go false e h ih = (e, ih h)

pub passed : (cs : List Check) → Passes cs → first_failing cs ≡ 0
unfolding first_failing
passed [] p = refl
passed (c ∷ cs) p = ap (λ (b : Bool). cond b c.number (first_failing cs)) p.0 ∙ passed cs p.1

-- ---- accepted and refused

-- an event of kind k whose every check passes
pub record Accepted (m : Machine) (e : Event) : Type 0 where
  pub kind : Kind
  pub named : kind_of e.kind ≡ some kind
  pub checked : Passes (checks m e kind)

pub accepted_checks : (m : Machine) (e : Event) → refusal m e ≡ 0 → Accepted m e
unfolding first_failing
accepted_checks m e h = go (kind_of e.kind) refl h
  where
    go : (o : Option Kind) → kind_of e.kind ≡ o → first_failing (by_kind (no_kind ∷ []) (checks m e) o) ≡ 0 → Accepted m e
    go none n h = absurd (omega arith)
    go (some k) n h = record { kind = k; named = n; checked = passes (checks m e k) (positive m e k) h }

pub checks_accepted : (m : Machine) (e : Event) → Accepted m e → refusal m e ≡ 0
checks_accepted m e a =
    ap (λ (o : Option Kind). first_failing (by_kind (no_kind ∷ []) (checks m e) o)) a.named ∙ passed (checks m e a.kind) a.checked

pub effect_is : (m : Machine) (e : Event) (a : Accepted m e) → effect e m ≡ effect_of a.kind e m
effect_is m e a = ap (by_kind m (λ k. effect_of k e m)) a.named

-- an accepted event: its own effect, then all steps
pub outcome_accepted : (m : Machine) (e : Event) → refusal m e ≡ 0 → outcome m e ≡ accepted e m
unfolding outcome
outcome_accepted m e h = ap (λ (r : ℕ). answered r e m) h

pub outcome_answer : (m : Machine) (e : Event) → (outcome m e).answer ≡ refusal m e
unfolding outcome
outcome_answer m e = go (refusal m e)
  where
    go : (r : ℕ) → (answered r e m).answer ≡ r
    go zero = refl
    go (suc r) = refl

-- the count is the number of log entries
pub outcome_moves : (m : Machine) (e : Event) → (outcome m e).moves ≡ length (outcome m e).log
unfolding outcome
outcome_moves m e = go (refusal m e)
  where
    go : (r : ℕ) → (answered r e m).moves ≡ length (answered r e m).log
    go zero = refl
    go (suc r) = refl

-- a number that is no kind
pub no_kind_lem : (k : ℕ) → length kinds < k → kind_of k ≡ none
no_kind_lem zero h = absurd (not-suc-le-zero h)
no_kind_lem (suc i) h = past kinds i (le_of_suc-le-suc h)
  where
    past : (xs : List Kind) (i : ℕ) → length xs ≤ i → get_elem? xs i ≡ none
    past [] i h = refl
    past (x ∷ xs) zero h = absurd (not-suc-le-zero h)
    past (x ∷ xs) (suc i) h = past xs i (le_of_suc-le-suc h)

-- ---- what passed checks say

pub in_range : (a b : ℕ) → leb a b ≡ false → b < a
in_range a b h = leb-false a b h

pub is_state : (a b : ℕ) → not (eqb a b) ≡ false → a ≡ b
is_state a b h = eqb-true a b (not-false (eqb a b) h)

pub between : (a b c : ℕ) → not (leb a b && leb b c) ≡ false → (a ≤ b) × (b ≤ c)
between a b c h =
    let t : (leb a b ≡ true) × (leb b c ≡ true) = both (leb a b) (leb b c) (not-false (leb a b && leb b c) h) in
    (leb-true a b t.0, leb-true b c t.1)

pub one_of : (a b c : ℕ) → not (eqb a b || eqb a c) ≡ false → (a ≡ b) ⊎ (a ≡ c)
one_of a b c h = go (eqb a b) refl (not-false (eqb a b || eqb a c) h)
  where
    go : (t : Bool) → eqb a b ≡ t → (t || eqb a c) ≡ true → (a ≡ b) ⊎ (a ≡ c)
    go true e h = inl (eqb-true a b e)
    go false e h = inr (eqb-true a c h)

pub mask_good : (k n : ℕ) → mask_fits n k ≡ true → (0 < k) × (k < 2 ^ n)
unfolding mask_fits
mask_good k n h = let t = both (ltb 0 k) (ltb k (2 ^ n)) h in (ltb-true 0 k t.0, ltb-true k (2 ^ n) t.1)

pub good_mask : (k n : ℕ) → 0 < k → k < 2 ^ n → mask_fits n k ≡ true
unfolding mask_fits
good_mask k n a b = and_both (ltb 0 k) (ltb k (2 ^ n)) (lt-ltb 0 k a) (lt-ltb k (2 ^ n) b)
