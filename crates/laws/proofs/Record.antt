-- W6: the record that the caller hands in passes the test exactly if it is the one that the machine's levels determine.
-- Assumes nothing.
use mathlib.Core.Path.{◌≡◌, refl, sym, ap, ◌∙◌, subst}
use mathlib.Core.Bool.{Bool, true, false}
use mathlib.Core.Logic.{◌≢◌}
use mathlib.Core.List.{List, [], ◌∷◌, map}
use Prim.Native.Nat.{ℕ, zero, suc, ◌+◌, ◌-◌, ◌*◌, ◌≤◌, ◌<◌, ◌^◌}
use native.Mathlib.Nat.{not-suc-le-zero, le_of_suc-le-suc, pow-suc}
use native.Mathlib.Omega.{arith}
use lib.Dec.{ltb}
use lib.Pow.{pow_pos}
use lib.ListN.{length, get_or, replicate, length-append, length-replicate, length-map, get_or-replicate, get_or-append}
use lib.Seq.{get_or-append-add, ext_get_or}
use borrow.Author.Tests.{ltb-true, ltb-false}
use Rattle.bits.specs.Bit.{bit, digit}
use Rattle.bits.proofs.Digits.{bit_low, bit_rest}
use Rattle.bits.proofs.Tests.{and_both}
use Rattle.cpupri.specs.Level.{level_count, unused}
use Rattle.cpupri.specs.Record.{record_of, Whole, fresh_levels}
use Rattle.cpupri.specs.Consistent.{consistent, levels_fit, level_fits, agrees, same}
use Rattle.levels.specs.declared.record.Record.{Record}
use Rattle.whole.proofs.Same.{same_is, same_refl}
use Rattle.consistency.proofs.Agrees.{agrees_of, fit_all, below_fits, invalid_fits, consistent_whole}
use Rattle.levels.proofs.Fresh.{length_fresh, fresh_below, fresh_above}
use Rattle.rules.specs.Lists.{In, from, below}
use Rattle.rules.specs.Machine.{Machine, task_of, prio_of, row, flag, is_online, idle_level, row_level, level, levels, invalid, cpu_places, highest_priority, lowest_priority, fresh}
use Rattle.rules.specs.WellFormed.{WellFormed, Fit}
use Rattle.rules.specs.Tables.{record_fits}
use Rattle.laws.proofs.Bools.{both}
use Rattle.laws.proofs.Lists.{length_from, in_here}
use Rattle.laws.proofs.Apart.{in_row, runnable_fit}
use Rattle.laws.proofs.Online.{idle_online, level_offline}

-- ---- the levels, place by place

map_from : (f : ℕ → ℕ) (i k j c : ℕ) → j < k → c ≡ i + j → get_or (map f (from i k)) j 0 ≡ f c
unfolding from
map_from f i zero j c h e = absurd (not-suc-le-zero h)
map_from f i (suc k) zero c h e = let s : i ≡ c = omega arith in ap f s
map_from f i (suc k) (suc j) c h e = map_from f (suc i) k j c (le_of_suc-le-suc h) (omega arith)

module _ (m : Machine) where
  long : length (map (level m) (below m.n)) ≡ m.n
  long = length-map (below m.n) (level m) ∙ length_from 0 m.n

  pub length_levels : m.n ≤ cpu_places → length (levels m) ≡ cpu_places
  length_levels h =
      let e : length (levels m) ≡ length (map (level m) (below m.n)) + length (replicate (cpu_places - m.n) invalid) =
      length-append (map (level m) (below m.n)) (replicate (cpu_places - m.n) invalid) in
      omega (arith, long, length-replicate (cpu_places - m.n) invalid)

  pub levels_below : (c : ℕ) → c < m.n → get_or (levels m) c 0 ≡ level m c
  levels_below c h =
      get_or-append (map (level m) (below m.n)) (replicate (cpu_places - m.n) invalid) 0 c (subst (λ (x : ℕ). c < x) (sym long) h)
      ∙ map_from (level m) 0 m.n c c h (omega arith)

  pub levels_above : (c : ℕ) → m.n ≤ c → c < cpu_places → get_or (levels m) c 0 ≡ invalid
  levels_above c g h =
      let at : c ≡ length (map (level m) (below m.n)) + (c - m.n) = omega (arith, long) in
      ap (λ (x : ℕ). get_or (levels m) x 0) at
      ∙ get_or-append-add (map (level m) (below m.n)) (replicate (cpu_places - m.n) invalid) (c - m.n) 0
      ∙ get_or-replicate (cpu_places - m.n) (c - m.n) invalid 0 (omega arith)

-- an online CPU's level is 0 to 101, and never 2
pub level_range : (m : Machine) (c : ℕ) → WellFormed m → c < m.n → is_online m c ≡ true → (level m c < level_count) × (level m c ≢ unused)
level_range m c w h on = go (row m c) refl
  where
    go : (r : List ℕ) → row m c ≡ r
        → (row_level (prio_of m) (idle_level m c) r < level_count) × (row_level (prio_of m) (idle_level m c) r ≢ unused)
    go [] e = let f : flag m c ≤ 1 = w.flags c h in omega (arith, idle_online m c on)
    go (t ∷ ts) e =
        let f : Fit m.n m.full (task_of m t) = runnable_fit m t w (in_row m t c w (subst (In t) (sym e) (in_here t ts))).0 in
        let low : lowest_priority ≤ prio_of m t = f.prio_low in
        let high : prio_of m t ≤ highest_priority = f.prio_high in
        omega arith

pub levels_fit_lem : (m : Machine) → WellFormed m → levels_fit m.n (levels m) ≡ true
levels_fit_lem m w = fit_all m.n (levels m) (λ c h. go c (subst (λ (x : ℕ). c < x) (length_levels m w.shape.cpus) h) (ltb c m.n) refl)
  where
    go : (c : ℕ) → c < cpu_places → (b : Bool) → ltb c m.n ≡ b → level_fits m.n c (get_or (levels m) c 0) ≡ true
    go c h true e =
        let l : c < m.n = ltb-true c m.n e in
        subst (λ (x : ℕ). level_fits m.n c x ≡ true) (sym (levels_below m c l))
        (one l (is_online m c) refl)
      where
        one : c < m.n → (b : Bool) → is_online m c ≡ b → level_fits m.n c (level m c) ≡ true
        one l true on = below_fits m.n c (level m c) l (level_range m c w l on).0 (level_range m c w l on).1
        one l false off = invalid_fits m.n c (level m c) (level_offline m c w off)
    go c h false e =
        let l : m.n ≤ c = ltb-false c m.n e in invalid_fits m.n c (get_or (levels m) c 0) (levels_above m c l h)

-- ---- the record

pub record_is : (m : Machine) (r : Record) → WellFormed m → record_fits m r ≡ true → r ≡ record_of (levels m)
record_is m r w h = whole.same ∙ ap record_of equal
  where
    parts : (consistent m.n r ≡ true) × (same r.levels (levels m) ≡ true)
    parts = both _ _ h

    equal : r.levels ≡ levels m
    equal = same_is r.levels (levels m) parts.1

    whole : Whole r
    whole = consistent_whole m.n r (ap length equal ∙ length_levels m w.shape.cpus) parts.0

own_record : (n : ℕ) (ls : List ℕ) → levels_fit n ls ≡ true → (consistent n (record_of ls) ≡ true) × (same (record_of ls).levels ls ≡ true)
unfolding consistent record_of
own_record n ls fit = (and_both (levels_fit n ls) (agrees (record_of ls)) fit (agrees_of (record_of ls) refl refl refl), same_refl ls)

pub is_record : (m : Machine) (r : Record) → WellFormed m → r ≡ record_of (levels m) → record_fits m r ≡ true
is_record m r w e =
    let own = own_record m.n (levels m) (levels_fit_lem m w) in
    subst (λ (q : Record). record_fits m q ≡ true) (sym e)
    (and_both (consistent m.n (record_of (levels m))) (same (record_of (levels m)).levels (levels m)) own.0 own.1)

-- ---- a fresh machine's levels

ones_split : (k : ℕ) → 2 ^ suc k - 1 ≡ digit true + 2 * (2 ^ k - 1)
ones_split k = let one : 1 ≤ 2 ^ k = pow_pos k in let two : 2 ^ suc k ≡ 2 ^ k * 2 = pow-suc 2 k in omega arith

-- all its CPUs are online
pub all_online : (n c : ℕ) → c < n → bit (2 ^ n - 1) c ≡ true
all_online zero c h = absurd (not-suc-le-zero h)
all_online (suc k) zero h = ap (λ (x : ℕ). bit x 0) (ones_split k) ∙ bit_low true (2 ^ k - 1)
all_online (suc k) (suc c) h = ap (λ (x : ℕ). bit x (suc c)) (ones_split k) ∙ bit_rest true (2 ^ k - 1) c ∙ all_online k c (le_of_suc-le-suc h)

empty_row_lem : (n full c : ℕ) → row (fresh n full) c ≡ []
empty_row_lem zero full c = refl
empty_row_lem (suc n) full zero = refl
empty_row_lem (suc n) full (suc c) = empty_row_lem n full c

pub levels_fresh : (n full : ℕ) → n ≤ cpu_places → levels (fresh n full) ≡ fresh_levels n
levels_fresh n full l =
    ext_get_or 0 (levels (fresh n full)) (fresh_levels n) (length_levels (fresh n full) l ∙ sym (length_fresh n l))
    (λ c h. go c (subst (λ (x : ℕ). c < x) (length_levels (fresh n full) l) h) (ltb c n) refl)
  where
    go : (c : ℕ) → c < cpu_places → (b : Bool) → ltb c n ≡ b → get_or (levels (fresh n full)) c 0 ≡ get_or (fresh_levels n) c 0
    go c h true e =
        let k : c < n = ltb-true c n e in
        levels_below (fresh n full) c k
        ∙ ap (row_level (prio_of (fresh n full)) (idle_level (fresh n full) c)) (empty_row_lem n full c)
        ∙ idle_online (fresh n full) c (all_online n c k)
        ∙ get_or-replicate n c 0 0 k ∙ sym (fresh_below n c k)
    go c h false e =
        let k : n ≤ c = ltb-false c n e in levels_above (fresh n full) c k h ∙ sym (fresh_above n c k h)
