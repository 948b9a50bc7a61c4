-- The fresh record: its levels, that it is whole, and that one more idle CPU makes the next one.
-- Assumes nothing.
use mathlib.Core.Path.{◌≡◌, refl, ap, ◌∙◌}
use mathlib.Core.Bool.{Bool, true, false}
use mathlib.Core.List.{List, ◌∷◌, ◌++◌}
use Prim.Native.Nat.{ℕ, zero, suc, ◌+◌, ◌-◌, ◌≤◌, ◌<◌}
use native.Mathlib.Omega.{arith}
use lib.Dec.{ltb}
use lib.ListN.{length, get_or, set, replicate, length-append, length-replicate, get_or-replicate, get_or-append}
use lib.Seq.{get_or-append-add}
use borrow.Author.Tests.{ltb-true, ltb-false}
use Rattle.levels.specs.Level.{cpu_places, idle, invalid, known}
use Rattle.levels.specs.Record.{record_of, fresh_levels, Whole}

pub length_fresh : (n : ℕ) → n ≤ cpu_places → length (fresh_levels n) ≡ cpu_places
unfolding fresh_levels
length_fresh n h =
    length-append (replicate n idle) (replicate (cpu_places - n) invalid)
    ∙ omega (arith, length-replicate n idle, length-replicate (cpu_places - n) invalid)

pub fresh_below : (n c : ℕ) → c < n → get_or (fresh_levels n) c 0 ≡ idle
unfolding fresh_levels
fresh_below n c h =
    get_or-append (replicate n idle) (replicate (cpu_places - n) invalid) 0 c (omega (arith, length-replicate n idle))
    ∙ get_or-replicate n c idle 0 h

pub fresh_above : (n c : ℕ) → n ≤ c → c < cpu_places → get_or (fresh_levels n) c 0 ≡ invalid
unfolding fresh_levels
fresh_above n c h hc =
    let size : length (replicate n idle) ≡ n = length-replicate n idle in
    let place : c ≡ length (replicate n idle) + (c - n) = omega arith in
    ap (λ (i : ℕ). get_or (replicate n idle ++ replicate (cpu_places - n) invalid) i 0) place
    ∙ get_or-append-add (replicate n idle) (replicate (cpu_places - n) invalid) (c - n) 0
    ∙ get_or-replicate (cpu_places - n) (c - n) invalid 0 (omega arith)

pub fresh_whole : (n : ℕ) → n ≤ cpu_places → Whole (record_of (fresh_levels n))
unfolding record_of known
fresh_whole n h = record { same = refl; places = length_fresh n h; each = λ c hc. go c hc (ltb c n) refl }
  where
    go : (c : ℕ) → c < cpu_places → (b : Bool) → ltb c n ≡ b → known (get_or (fresh_levels n) c 0) ≡ true
    go c hc true e = ap known (fresh_below n c (ltb-true c n e))
    go c hc false e = ap known (fresh_above n c (ltb-false c n e) hc)

set_next : (n : ℕ) (a b : ℕ) (ys : List ℕ) → set (replicate n a ++ (b ∷ ys)) n a ≡ a ∷ (replicate n a ++ ys)
set_next zero a b ys = refl
set_next (suc n) a b ys = ap (λ (l : List ℕ). a ∷ l) (set_next n a b ys)

pub fresh_next : (n : ℕ) → n < cpu_places → set (fresh_levels n) n idle ≡ fresh_levels (suc n)
unfolding fresh_levels
fresh_next n h =
    let more : cpu_places - n ≡ suc (cpu_places - suc n) = omega arith in
    ap (λ (k : ℕ). set (replicate n idle ++ replicate k invalid) n idle) more ∙ set_next n idle invalid (replicate (cpu_places - suc n) invalid)
