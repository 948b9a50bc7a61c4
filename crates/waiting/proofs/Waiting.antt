-- CPUs on which nobody waits.
-- Assumes nothing.
use mathlib.Core.Path.{◌≡◌, refl, ap}
use mathlib.Core.Bool.{Bool, true, false}
use mathlib.Core.List.{List}
use Prim.Native.Nat.{ℕ, ◌+◌, ◌-◌, ◌≤◌, ◌<◌}
use native.Mathlib.Omega.{arith}
use lib.Dec.{ltb}
use lib.ListN.{get_or}
use borrow.Author.Tests.{ltb-true, ltb-false}
use Rattle.ranking.specs.Row.{block}
use Rattle.std.specs.Prelude.{Option, Some, None, IfSome, unwrap_or}
use Rattle.waiting.specs.Waiting.{NobodyWaits, NextWaiting}

-- up to mid, and from there on
pub nobody_further : (ks : List ℕ) (from mid to : ℕ) → NobodyWaits ks from mid → NobodyWaits ks mid to → NobodyWaits ks from to
nobody_further ks from mid to before behind d l h = go (ltb d mid) refl
  where
    go : (b : Bool) → ltb d mid ≡ b → get_or ks d 0 < 2
    go true e = before d (ltb-true d mid e) h
    go false e = behind d l (ltb-false d mid e)

-- on the CPUs of a block
pub nobody_in_block : (ks : List ℕ) (from : ℕ) → ((k : ℕ) → k < block → get_or ks (from + k) 0 < 2) → NobodyWaits ks from (from + block)
nobody_in_block ks from none d high low =
    let here : from + (d - from) ≡ d = omega arith in
    omega (arith, none (d - from) (omega arith), ap (λ (k : ℕ). get_or ks k 0) here)

-- where the next one is, or n
abbrev pub until : ℕ → Option ℕ → ℕ
until n o = unwrap_or o n

-- nobody waits before it
pub nobody_before : (ks : List ℕ) (from n : ℕ) (o : Option ℕ) → NextWaiting ks from n o → NobodyWaits ks from (until n o)
nobody_before ks from n None h = h
nobody_before ks from n (Some c) h = h.before

pub until_most : (ks : List ℕ) (from n : ℕ) (o : Option ℕ) → NextWaiting ks from n o → until n o ≤ n
until_most ks from n None h = omega arith
until_most ks from n (Some c) h = omega (arith, h.high)

pub until_least : (ks : List ℕ) (from n : ℕ) (o : Option ℕ) → from ≤ n → NextWaiting ks from n o → from ≤ until n o
until_least ks from n None le h = le
until_least ks from n (Some c) le h = h.low

-- nobody waits up to mid
pub next_further : (ks : List ℕ) (from mid n : ℕ) (o : Option ℕ) → from ≤ mid → NobodyWaits ks from mid → NextWaiting ks mid n o → NextWaiting ks from n o
next_further ks from mid n None le before h = nobody_further ks from mid n before h
next_further ks from mid n (Some c) le before h =
    record { low = omega (arith, h.low); high = h.high; before = nobody_further ks from mid c before h.before; waits = h.waits }

-- a task waits there
pub found : (ks : List ℕ) (from n : ℕ) (o : Option ℕ) → NextWaiting ks from n o → IfSome o (λ c. (c < n) × (2 ≤ get_or ks c 0))
found ks from n None h = tt
found ks from n (Some c) h = (h.high, h.waits)
