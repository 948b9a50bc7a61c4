-- Answers: the first check that fails, from the tests on the way.
-- Assumes nothing.
use mathlib.Core.Path.{◌≡◌, refl, sym, ap, ap₂, ◌∙◌}
use mathlib.Core.Bool.{Bool, true, false, cond, not}
use mathlib.Core.List.{List, [], ◌∷◌}
use mathlib.Core.Logic.{◌≢◌}
use Prim.Native.Nat.{ℕ}
use lib.Bits.{bit_and}
use lib.Dec.{eqb}
use borrow.Author.Tests.{eq-eqb, ne_eqb}
use Rattle.cpupri.specs.Found.{mask_fits}
use Rattle.bits.specs.Bit.{bit}
use Rattle.rules.specs.Machine.{Machine, is_online, stranded}
use Rattle.rules.specs.Refusals.{Check, first_failing}

pub fails_here : (b : Bool) (n : ℕ) (cs : List Check) → b ≡ true → n ≡ first_failing (record { fails = b; number = n } ∷ cs)
unfolding first_failing
fails_here b n cs e = sym (ap (λ (x : Bool). cond x n (first_failing cs)) e)

pub passes_here : (b : Bool) (n : ℕ) (cs : List Check) (a : ℕ) → b ≡ false → a ≡ first_failing cs → a ≡ first_failing (record { fails = b; number = n } ∷ cs)
unfolding first_failing
passes_here b n cs a e h = h ∙ sym (ap (λ (x : Bool). cond x n (first_failing cs)) e)

pub none_left : 0 ≡ first_failing []
unfolding first_failing
none_left = refl

-- ---- a test that was made before: what its outcome says of what it tested

pub tested : {r b x : Bool} → r ≡ b → not r ≡ x → not b ≡ x
tested e h = sym (ap not e) ∙ h

pub tested_online : (m : Machine) (c : ℕ) {r x : Bool} {on : ℕ} → on ≡ m.online → r ≡ bit on c → not r ≡ x → not (is_online m c) ≡ x
tested_online m c e t h = tested (t ∙ ap (λ (o : ℕ). bit o c) e) h

-- no bit is left of a mask's online part, or one is
pub tested_up : (m : Machine) {k j on : ℕ} → k ≡ j → on ≡ m.online → bit_and k on ≡ 0 → stranded m j ≡ true
tested_up m {k} e on z = ap₂ (λ (a b : ℕ). eqb (bit_and a b) 0) (sym e) (sym on) ∙ eq-eqb (bit_and k _) 0 z

pub tested_some : (m : Machine) {k j on : ℕ} → k ≡ j → on ≡ m.online → bit_and k on ≢ 0 → stranded m j ≡ false
tested_some m {k} e on z = ap₂ (λ (a b : ℕ). eqb (bit_and a b) 0) (sym e) (sym on) ∙ ne_eqb (bit_and k _) 0 z

pub tested_mask : {r x : Bool} {n n' : ℕ} (k : ℕ) → n ≡ n' → r ≡ mask_fits n k → not r ≡ x → not (mask_fits n' k) ≡ x
tested_mask k same e h = ap (λ (j : ℕ). not (mask_fits j k)) (sym same) ∙ tested e h
