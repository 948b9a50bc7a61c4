-- The finder answers the rules' questions: asked with the record of the machine's levels, it finds a level exactly if the task is movable, and
-- the lowest set bit of its mask is then the destination. The CPUs below the task's level, if they are at hand, say as much by one AND.
-- Assumes nothing.
use mathlib.Core.Path.{◌≡◌, refl, sym, ap, ◌∙◌, subst}
use mathlib.Core.Bool.{Bool, true, false, not, ◌&&◌, false≢true}
use Prim.Native.Nat.{ℕ, ◌-◌, ◌≤◌, ◌<◌, ◌^◌}
use native.Mathlib.Nat.{lt_of_lt_of_le, lt_of_le_of_lt}
use native.Mathlib.Omega.{arith}
use lib.Bits.{bit_and, and_le_r}
use lib.Dec.{eqb, ltb}
use lib.ListN.{length, get_or}
use lib.Pow.{pow_mono}
use borrow.Author.Tests.{eqb-true, eqb-false, ltb-true, ltb-false, lt-ltb}
use Rattle.bits.specs.Bit.{bit, lowest}
use Rattle.bits.proofs.Search.{lowest_bit, lowest_lt}
use Rattle.bits.proofs.Word.{bit_above, bit_of_and, bit_of_zero}
use Rattle.bits.proofs.Tests.{and_left, and_right, and_both, fails}
use Rattle.cpupri.specs.Level.{level_count}
use Rattle.cpupri.specs.Record.{masks_of}
use Rattle.cpupri.specs.Found.{allowed_at, lowest_level}
use Rattle.under.specs.Under.{under_of}
use Rattle.under.proofs.Below.{under_at_lem, under_bit}
use Rattle.cpupri.proofs.Found.{LowestCpu, lowest_most, found_at_most, found_some, found_cpu, cpu_level}
use Rattle.rules.specs.Machine.{Machine, task_of, prio_of, level, level_of, levels, allowed, cpu_places, highest_priority}
use Rattle.rules.specs.WellFormed.{WellFormed, Fit}
use Rattle.rules.specs.Migration.{movable, destination}
use Rattle.laws.proofs.Choice.{movable_one, movable_by, Target, target_of, target_same}
use Rattle.laws.proofs.Online.{level_online}
use Rattle.laws.proofs.Record.{length_levels, levels_below, all_online}

module _ (m : Machine) (w : WellFormed m) (t : ℕ) (fit : Fit m.n m.full (task_of m t)) where
  abbrev mask : ℕ
  mask = (task_of m t).mask

  abbrev asked : ℕ
  asked = level_of (prio_of m t)

  -- the lowest level below the task's that has an allowed CPU, and the lowest-numbered of those CPUs
  abbrev found : ℕ
  found = lowest_level (masks_of (levels m)) asked mask

  abbrev cpu : ℕ
  cpu = lowest 64 (allowed_at (masks_of (levels m)) mask found)

  small : m.n ≤ cpu_places
  small = w.shape.cpus

  places : length (levels m) ≡ cpu_places
  places = length_levels m small

  word : mask < 2 ^ 64
  word = lt_of_lt_of_le fit.mask_fits (pow_mono small)

  most : asked ≤ level_count
  most = let high : prio_of m t ≤ highest_priority = fit.prio_high in omega arith

  -- a CPU of its mask is one of the N
  pub allowed_small : (c : ℕ) → bit mask c ≡ true → c < m.n
  allowed_small c a = go (ltb c m.n) refl
    where
      go : (b : Bool) → ltb c m.n ≡ b → c < m.n
      go true e = ltb-true c m.n e
      go false e = absurd (false≢true (sym (bit_above m.n mask c fit.mask_fits (ltb-false c m.n e)) ∙ a))

  pub movable_found : movable m t ≡ true → found < asked
  movable_found h =
      let f : (c : ℕ) × (c < m.n) × (allowed m t c ≡ true) × (level m c < level_of (prio_of m t)) = movable_one m t h in
      found_some (levels m) places mask word asked most f.0 (omega (arith, small, f.1)) (and_left _ _ f.2)
      (subst (λ (l : ℕ). l < asked) (sym (levels_below m f.0 f.1)) f.3)

  -- the CPUs below the task's level that its mask has
  abbrev lower_cpus : ℕ
  lower_cpus = bit_and (get_or (under_of (levels m)) asked 0) mask

  lower_bit : (c : ℕ) → c < cpu_places → bit lower_cpus c ≡ (ltb (get_or (levels m) c 0) asked && bit mask c)
  lower_bit c h =
      let high : asked < level_count = let p : prio_of m t ≤ highest_priority = fit.prio_high in omega arith in
      bit_of_and (get_or (under_of (levels m)) asked 0) mask c
      ∙ ap (λ (b : Bool). b && bit mask c) (ap (λ (x : ℕ). bit x c) (under_at_lem (levels m) asked high) ∙ under_bit (levels m) asked c (omega (arith, places)))

  pub lower_movable : not (eqb lower_cpus 0) ≡ movable m t
  lower_movable = go (eqb lower_cpus 0) refl
    where
      go : (b : Bool) → eqb lower_cpus 0 ≡ b → not b ≡ movable m t
      go true e = sym (fails (movable m t) (λ h.
          let f : (c : ℕ) × (c < m.n) × (allowed m t c ≡ true) × (level m c < level_of (prio_of m t)) = movable_one m t h in
          let set_there : bit lower_cpus f.0 ≡ true = lower_bit f.0 (omega (arith, small, f.1))
          ∙ and_both _ _ (lt-ltb _ asked (subst (λ (l : ℕ). l < asked) (sym (levels_below m f.0 f.1)) f.3)) (and_left _ _ f.2) in
          false≢true (sym (bit_of_zero f.0) ∙ ap (λ (x : ℕ). bit x f.0) (sym (eqb-true lower_cpus 0 e)) ∙ set_there)))
      go false e = sym (movable_by m t one one_small one_allowed one_below)
        where
          one : ℕ
          one = lowest 64 lower_cpus

          one_lt : one < cpu_places
          one_lt = lowest_lt 64 lower_cpus (lt_of_le_of_lt (and_le_r (get_or (under_of (levels m)) asked 0) mask) word) (eqb-false lower_cpus 0 e)

          both_hold : (ltb (get_or (levels m) one 0) asked && bit mask one) ≡ true
          both_hold = sym (lower_bit one one_lt) ∙ lowest_bit 64 lower_cpus one_lt

          one_small : one < m.n
          one_small = allowed_small one (and_right (ltb (get_or (levels m) one 0) asked) (bit mask one) both_hold)

          one_below : level m one < asked
          one_below = subst (λ (l : ℕ). l < asked) (levels_below m one one_small) (ltb-true _ asked (and_left (ltb (get_or (levels m) one 0) asked) (bit mask one) both_hold))

          one_allowed : allowed m t one ≡ true
          one_allowed = and_both _ _ (and_right (ltb (get_or (levels m) one 0) asked) (bit mask one) both_hold) (level_online m one w (omega (arith, one_below, most)))

  module _ (h : found < asked) where
    here : LowestCpu (levels m) mask cpu
    here = found_cpu (levels m) places mask word asked most h

    cpu_small : cpu < m.n
    cpu_small = allowed_small cpu here.allowed

    pub found_level : level m cpu ≡ found
    found_level = sym (levels_below m cpu cpu_small) ∙ cpu_level (levels m) places mask word asked most h

    -- it has a level, so it is online
    cpu_allowed : allowed m t cpu ≡ true
    cpu_allowed = and_both _ _ here.allowed (level_online m cpu w (omega (arith, found_level, most)))

    pub found_movable : movable m t ≡ true
    found_movable = movable_by m t cpu cpu_small cpu_allowed (omega (arith, found_level))

    pub found_destination : cpu ≡ destination m t
    found_destination = target_same m t cpu (destination m t) aim (target_of m t cpu cpu_small cpu_allowed)
      where
        least : (c : ℕ) → c < m.n → allowed m t c ≡ true → level m cpu ≤ level m c
        least c l a =
            let s : get_or (levels m) cpu 0 ≤ get_or (levels m) c 0 = here.least c (omega (arith, small)) (and_left _ _ a) in
            omega (arith, levels_below m cpu cpu_small, levels_below m c l)

        aim : Target m t cpu
        aim = record {
          small = cpu_small;
          may = cpu_allowed;
          lowest = least;
          nearest = λ c l a e.
              here.lowest_numbered c (omega (arith, small)) (and_left _ _ a) (omega (arith, levels_below m cpu cpu_small, levels_below m c l, least c l a));
        }

-- so it finds a level exactly if the task is movable
pub found_is : (m : Machine) → WellFormed m → (t : ℕ) → Fit m.n m.full (task_of m t)
    → ltb (lowest_level (masks_of (levels m)) (level_of (prio_of m t)) (task_of m t).mask) (level_of (prio_of m t)) ≡ movable m t
found_is m w t fit = go (ltb (found m w t fit) (asked m w t fit)) refl
  where
    contra : {a b : ℕ} → a < b → b ≤ a → ⊥
    contra p q = omega arith

    go : (b : Bool) → ltb (found m w t fit) (asked m w t fit) ≡ b → b ≡ movable m t
    go true e = sym (found_movable m w t fit (ltb-true _ _ e))
    go false e = sym (fails (movable m t) (λ h. contra (movable_found m w t fit h) (ltb-false _ _ e)))

-- ---- the lowest level of any CPU

-- asked for all CPUs below no level in particular, the finder gives a level that no CPU is below
pub lowest_of_all : (m : Machine) → WellFormed m → (c : ℕ) → c < m.n → lowest_level (masks_of (levels m)) level_count (2 ^ 64 - 1) ≤ level m c
lowest_of_all m w c h = go (ltb (level m c) level_count) refl
  where
    small : m.n ≤ cpu_places
    small = w.shape.cpus

    go : (b : Bool) → ltb (level m c) level_count ≡ b → lowest_level (masks_of (levels m)) level_count (2 ^ 64 - 1) ≤ level m c
    go true e =
        subst (λ (l : ℕ). lowest_level (masks_of (levels m)) level_count (2 ^ 64 - 1) ≤ l) (levels_below m c h)
        (found_at_most (levels m) (length_levels m small) (2 ^ 64 - 1) (omega arith) level_count (omega arith) c (omega arith) (all_online 64 c (omega arith))
        (subst (λ (l : ℕ). l < level_count) (sym (levels_below m c h)) (ltb-true (level m c) level_count e)))
    go false e =
        let high : level_count ≤ level m c = ltb-false (level m c) level_count e in
        omega (arith, lowest_most (masks_of (levels m)) level_count (2 ^ 64 - 1))
