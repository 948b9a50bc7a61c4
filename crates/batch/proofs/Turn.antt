-- One turn of a replay's loop, as a fact about lists: what is left to run is one event and the rest.
-- Assumes nothing.
use mathlib.Core.Path.{◌≡◌, refl, sym, ap, subst, ◌∙◌}
use Prim.Native.Nat.{ℕ, zero, suc, ◌+◌, ◌-◌, ◌≤◌, ◌<◌, zero-le}
use native.Mathlib.Nat.{not-suc-le-zero, le_of_suc-le-suc}
use native.Mathlib.Numerals.{add-one}
use native.Mathlib.Omega.{arith}
use mathlib.Core.List.{List, [], ◌∷◌}
use lib.ListN.{length, get_or, drop, drop_of_length-le}
use Rattle.recording.specs.declared.Event.{Event}
use Rattle.recording.specs.Replay.{Run, next, runs}
use Rattle.playing.specs.Ready.{no_event, Ready}
use Rattle.playing.proofs.Readiness.{ready_one, ready_next}

drop_suc : (es : List Event) (i : ℕ) → i < length es → drop i es ≡ get_or es i no_event ∷ drop (suc i) es
drop_suc [] i l = absurd (not-suc-le-zero l)
drop_suc (e ∷ es) zero l = refl
drop_suc (e ∷ es) (suc i) l = drop_suc es i (le_of_suc-le-suc l)

drop_at : (es : List Event) (i : ℕ) → i < length es → drop i es ≡ get_or es i no_event ∷ drop (i + 1) es
drop_at es i l = drop_suc es i l ∙ ap (λ (k : ℕ). get_or es i no_event ∷ drop k es) (sym (add-one i))

-- i events are done, there is room for the others, and what they make of the machine now is what all make of the machine at the start
abbrev pub Inv : List Event → ℕ → Run → Run → ℕ → Type 0
Inv es n m₀ m i = (i ≤ length es) × Ready n (length es - i) m × (runs n (drop i es) m ≡ runs n es m₀)

-- of the events that are left, one and the others
left : (k i : ℕ) → i < k → k - i ≡ suc (k - (i + 1))
left k i l = omega (arith, l)

ready_left : (es : List Event) (n : ℕ) (m₀ m : Run) (i : ℕ) → i < length es → Inv es n m₀ m i → Ready n (suc (length es - (i + 1))) m
ready_left es n m₀ m i l inv = subst (λ (k : ℕ). Ready n k m) (left (length es) i l) inv.1

pub ready_now : (es : List Event) (n : ℕ) (m₀ m : Run) (i : ℕ) → i < length es → Inv es n m₀ m i → Ready n 1 m
ready_now es n m₀ m i l inv = ready_one n (length es - (i + 1)) m (ready_left es n m₀ m i l inv)

pub turn : (es : List Event) (n : ℕ) (m₀ m m' : Run) (i : ℕ) → i < length es → m' ≡ next n (get_or es i no_event) m → Inv es n m₀ m i → Inv es n m₀ m' (i + 1)
unfolding runs
turn es n m₀ m m' i l e inv = (
  omega (arith, l),
  subst (λ (u : Run). Ready n (length es - (i + 1)) u) (sym e) (ready_next n (length es - (i + 1)) (get_or es i no_event) m (ready_left es n m₀ m i l inv)),
  ap (runs n (drop (i + 1) es)) e ∙ sym (ap (λ (xs : List Event). runs n xs m) (drop_at es i l)) ∙ inv.2,
)

pub ends : (es : List Event) (n : ℕ) (m₀ m : Run) (i : ℕ) → length es ≤ i → Inv es n m₀ m i → m ≡ runs n es m₀
unfolding runs
ends es n m₀ m i l inv = sym (ap (λ (xs : List Event). runs n xs m) (drop_of_length-le es {i = i} l)) ∙ inv.2

pub starts : (es : List Event) (n : ℕ) (m₀ : Run) → Ready n (length es) m₀ → Inv es n m₀ m₀ 0
starts es n m₀ ready =
    let all : length es ≡ length es - 0 = omega arith in
    (zero-le, subst (λ (k : ℕ). Ready n k m₀) all ready, refl)
