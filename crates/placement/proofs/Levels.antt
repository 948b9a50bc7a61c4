-- The levels of a machine in which one CPU's level changes, and that its record is whole.
-- Assumes nothing.
use mathlib.Core.Path.{◌≡◌, refl, sym, ap, ◌∙◌}
use mathlib.Core.Bool.{Bool, true, false, cond}
use mathlib.Core.Logic.{◌≢◌}
use mathlib.Core.List.{List, [], ◌∷◌}
use Prim.Native.Nat.{ℕ, ◌≤◌, ◌<◌}
use native.Mathlib.Omega.{arith}
use lib.Dec.{eqb, ltb}
use lib.ListN.{length, get_or, set, length-set}
use lib.Seq.{ext_get_or, get_or-set_same, get_or-set_other}
use borrow.Author.Tests.{eqb-true, eqb-false, ltb-true, ltb-false}
use Rattle.cpupri.specs.Level.{known}
use Rattle.cpupri.specs.Record.{record_of, Whole}
use Rattle.levels.proofs.Whole.{level_known}
use Rattle.rules.specs.Lists.{In}
use Rattle.rules.specs.Machine.{Machine, prio_of, flag, is_online, idle_level, level, level_of, levels, invalid, row_level, with_row, cpu_places, highest_priority}
use Rattle.laws.proofs.Lists.{in_here}
use Rattle.laws.proofs.Record.{length_levels, levels_below, levels_above}
use Rattle.laws.proofs.Rows.{row_same, row_other}

-- one CPU's level changes
pub levels_change : (m m' : Machine) (c v : ℕ) → m.n ≤ cpu_places → m'.n ≡ m.n → c < m.n
    → ((d : ℕ) → d < m.n → d ≢ c → level m' d ≡ level m d) → level m' c ≡ v → levels m' ≡ set (levels m) c v
levels_change m m' c v small same hc other here =
    ext_get_or 0 (levels m') (set (levels m) c v)
    (length_levels m' (omega arith) ∙ sym (length-set (levels m) c v ∙ length_levels m small))
    (λ d h. go d (omega (arith, length_levels m' (omega arith))) (eqb d c) refl (ltb d m.n) refl)
  where
    size : c < length (levels m)
    size = omega (arith, length_levels m small)

    go : (d : ℕ) → d < cpu_places → (b : Bool) → eqb d c ≡ b → (b' : Bool) → ltb d m.n ≡ b' → get_or (levels m') d 0 ≡ get_or (set (levels m) c v) d 0
    go d h true e b' e' =
        let q : d ≡ c = eqb-true d c e in
        levels_below m' d (omega arith) ∙ ap (level m') q ∙ here ∙ sym (ap (λ (k : ℕ). get_or (set (levels m) c v) k 0) q ∙ get_or-set_same (levels m) c v 0 size)
    go d h false e true e' =
        let l : d < m.n = ltb-true d m.n e' in
        let apart : d ≢ c = eqb-false d c e in
        levels_below m' d (omega arith) ∙ other d l apart ∙ sym (get_or-set_other (levels m) c d v 0 apart ∙ levels_below m d l)
    go d h false e false e' =
        let l : m.n ≤ d = ltb-false d m.n e' in
        let apart : d ≢ c = eqb-false d c e in
        levels_above m' d (omega arith) h ∙ sym (get_or-set_other (levels m) c d v 0 apart ∙ levels_above m d l h)

-- one row changes
pub levels_row : (m : Machine) (c : ℕ) (r : List ℕ) → m.n ≤ cpu_places → length m.rows ≡ m.n → c < m.n
    → levels (with_row c r m) ≡ set (levels m) c (row_level (prio_of m) (idle_level m c) r)
levels_row m c r small size hc =
    levels_change m (with_row c r m) c (row_level (prio_of m) (idle_level m c) r) small refl hc
    (λ d h apart. ap (row_level (prio_of m) (idle_level m d)) (row_other m c d r apart))
    (ap (row_level (prio_of m) (idle_level m c)) (row_same m c r (omega arith)))

-- the level of a row whose tasks have priorities can be recorded, if that of an empty one can
pub row_level_known : (p : ℕ → ℕ) (f : ℕ) (r : List ℕ) → known f ≡ true → ((u : ℕ) → In u r → p u ≤ highest_priority) → known (row_level p f r) ≡ true
row_level_known p f [] hf h = hf
row_level_known p f (u ∷ us) hf h = level_known (level_of (p u)) (let l : p u ≤ highest_priority = h u (in_here u us) in omega arith)

-- and it can: it is a flag, or INVALID
pub idle_known : (m : Machine) (c : ℕ) → flag m c ≤ 1 → known (idle_level m c) ≡ true
unfolding known
idle_known m c h = go (is_online m c)
  where
    go : (b : Bool) → known (cond b (flag m c) invalid) ≡ true
    go true = level_known (flag m c) (omega arith)
    go false = refl

-- a machine whose levels are levels has a whole record
pub whole_levels : (m : Machine) → m.n ≤ cpu_places → ((c : ℕ) → c < m.n → known (level m c) ≡ true) → Whole (record_of (levels m))
unfolding record_of known
whole_levels m small h = record { same = refl; places = length_levels m small; each = λ c l. go c l (ltb c m.n) refl }
  where
    go : (c : ℕ) → c < cpu_places → (b : Bool) → ltb c m.n ≡ b → known (get_or (levels m) c 0) ≡ true
    go c l true e = let k : c < m.n = ltb-true c m.n e in ap known (levels_below m c k) ∙ h c k
    go c l false e = ap known (levels_above m c (ltb-false c m.n e) l)
