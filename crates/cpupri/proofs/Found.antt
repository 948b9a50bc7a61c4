-- What the lowest-priority search finds: a level exactly if some allowed CPU has a lower one than was asked, and then the lowest set bit of the
-- mask is the lowest-numbered allowed CPU of the lowest level.
-- Assumes nothing.
use mathlib.Core.Path.{◌≡◌, refl, sym, ap, ◌∙◌, subst}
use mathlib.Core.Bool.{Bool, true, false, not, cond, ◌&&◌, false≢true}
use mathlib.Core.List.{List}
use Prim.Native.Nat.{ℕ, ◌^◌, ◌≤◌, ◌<◌}
use native.Mathlib.Nat.{lt_of_le_of_lt, le_trans, le_of_eq}
use native.Mathlib.Omega.{arith}
use lib.Bits.{and_le_r}
use lib.Dec.{eqb, ltb}
use lib.ListN.{length, get_or}
use borrow.Author.Tests.{eqb-true, eq-eqb, ne_eqb, ltb-true, ltb-false, lt-ltb, le-ltb, not-true, eqb-false}
use Rattle.bits.specs.Bit.{bit, lowest}
use Rattle.bits.proofs.Tests.{and_left, and_right, and_both}
use Rattle.bits.proofs.Word.{bit_of_and, bit_of_zero}
use Rattle.bits.proofs.Search.{first_le, first_holds, first_at_most, lowest_bit, lowest_lt, lowest_at_most}
use Rattle.levels.specs.Level.{level_count, cpu_places}
use Rattle.levels.specs.Record.{masks_of}
use Rattle.std.specs.Prelude.{None, Some}
use Rattle.std.proofs.lemmas.Option.{none-some, same_Some}
use Rattle.cpupri.specs.Found.{allowed_at, any_at, lowest_level, lowest_below, found_at, found_nothing, lowest_found}
use Rattle.levels.proofs.Moved.{mask_at_lem}
use Rattle.consistency.proofs.Agrees.{mask_bit}

-- Of the CPUs of a mask, d is one of the lowest level, and of those the lowest-numbered.
pub record LowestCpu (levels : List ℕ) (mask d : ℕ) : Type 0 where
  pub place : d < cpu_places
  pub allowed : bit mask d ≡ true
  pub least : (c : ℕ) → c < cpu_places → bit mask c ≡ true → get_or levels d 0 ≤ get_or levels c 0
  pub lowest_numbered : (c : ℕ) → c < cpu_places → bit mask c ≡ true → get_or levels c 0 ≡ get_or levels d 0 → d ≤ c

module _ (levels : List ℕ) (places : length levels ≡ cpu_places) (mask : ℕ) (fits : mask < 2 ^ 64) where
  -- the CPUs found at a level are the allowed ones at it
  pub allowed_bit : (l c : ℕ) → l < level_count → c < cpu_places → bit (allowed_at (masks_of levels) mask l) c ≡ (eqb (get_or levels c 0) l && bit mask c)
  unfolding allowed_at
  allowed_bit l c hl hc =
      bit_of_and (get_or (masks_of levels) l 0) mask c
      ∙ ap (λ (b : Bool). b && bit mask c) (ap (λ (m : ℕ). bit m c) (mask_at_lem levels l hl) ∙ mask_bit levels l c (omega arith))

  allowed_lt : (l : ℕ) → allowed_at (masks_of levels) mask l < 2 ^ 64
  unfolding allowed_at
  allowed_lt l = lt_of_le_of_lt (and_le_r (get_or (masks_of levels) l 0) mask) fits

  any_of : (c : ℕ) → c < cpu_places → bit mask c ≡ true → get_or levels c 0 < level_count → any_at (masks_of levels) mask (get_or levels c 0) ≡ true
  unfolding any_at
  any_of c hc a hl =
      ap not (ne_eqb (allowed_at (masks_of levels) mask (get_or levels c 0)) 0 (λ z.
      let set_there : bit (allowed_at (masks_of levels) mask (get_or levels c 0)) c ≡ true =
      allowed_bit (get_or levels c 0) c hl hc ∙ and_both (eqb (get_or levels c 0) (get_or levels c 0)) (bit mask c) (eq-eqb (get_or levels c 0) (get_or levels c 0) refl) a in
      false≢true (sym (bit_of_zero c) ∙ ap (λ (m : ℕ). bit m c) (sym z) ∙ set_there)))

  module _ (below : ℕ) (most : below ≤ level_count) where
    -- an allowed CPU below the asked level bounds what is found
    pub found_at_most : (c : ℕ) → c < cpu_places → bit mask c ≡ true → get_or levels c 0 < below → lowest_level (masks_of levels) below mask ≤ get_or levels c 0
    unfolding lowest_level
    found_at_most c hc a h = first_at_most (any_at (masks_of levels) mask) below (get_or levels c 0) (any_of c hc a (omega arith)) h

    -- so a level is found
    pub found_some : (c : ℕ) → c < cpu_places → bit mask c ≡ true → get_or levels c 0 < below → lowest_level (masks_of levels) below mask < below
    found_some c hc a h = lt_of_le_of_lt (found_at_most c hc a h) h

    -- and where none is, no allowed CPU is below the asked level
    pub found_none : below ≤ lowest_level (masks_of levels) below mask → (c : ℕ) → c < cpu_places → bit mask c ≡ true → below ≤ get_or levels c 0
    found_none out c hc a = go (ltb (get_or levels c 0) below) refl
      where
        go : (b : Bool) → ltb (get_or levels c 0) below ≡ b → below ≤ get_or levels c 0
        go true e = let in_reach : lowest_level (masks_of levels) below mask < below = found_some c hc a (ltb-true _ below e) in omega arith
        go false e = ltb-false (get_or levels c 0) below e

    -- what is found: the lowest set bit of the mask
    module _ (here : lowest_level (masks_of levels) below mask < below) where
      abbrev level : ℕ
      level = lowest_level (masks_of levels) below mask

      abbrev cpu : ℕ
      cpu = lowest 64 (allowed_at (masks_of levels) mask level)

      level_lt : level < level_count
      level_lt = omega arith

      some_cpu : allowed_at (masks_of levels) mask level ≡ 0 → ⊥
      unfolding lowest_level any_at
      some_cpu = eqb-false _ 0 (not-true _ (first_holds (any_at (masks_of levels) mask) below here))

      pub cpu_lt : cpu < cpu_places
      cpu_lt = lowest_lt 64 (allowed_at (masks_of levels) mask level) (allowed_lt level) some_cpu

      both : (eqb (get_or levels cpu 0) level && bit mask cpu) ≡ true
      both = sym (allowed_bit level cpu level_lt cpu_lt) ∙ lowest_bit 64 (allowed_at (masks_of levels) mask level) cpu_lt

      pub cpu_level : get_or levels cpu 0 ≡ level
      cpu_level = eqb-true (get_or levels cpu 0) level (and_left (eqb (get_or levels cpu 0) level) (bit mask cpu) both)

      pub found_cpu : LowestCpu levels mask cpu
      found_cpu = record {
        place = cpu_lt;
        allowed = and_right (eqb (get_or levels cpu 0) level) (bit mask cpu) both;
        least = λ c hc a. le_trans (le_of_eq cpu_level) (go c hc a (ltb (get_or levels c 0) below) refl);
        lowest_numbered = λ c hc a e.
            lowest_at_most 64 (allowed_at (masks_of levels) mask level) c
            (allowed_bit level c level_lt hc ∙ and_both (eqb (get_or levels c 0) level) (bit mask c) (eq-eqb (get_or levels c 0) level (e ∙ cpu_level)) a) hc;
      }
        where
          go : (c : ℕ) → c < cpu_places → bit mask c ≡ true → (b : Bool) → ltb (get_or levels c 0) below ≡ b → level ≤ get_or levels c 0
          go c hc a true e = found_at_most c hc a (ltb-true (get_or levels c 0) below e)
          go c hc a false e = let far : below ≤ get_or levels c 0 = ltb-false (get_or levels c 0) below e in omega arith

-- ---- the answer

pub lowest_most : (masks : List ℕ) (below mask : ℕ) → lowest_level masks below mask ≤ below
unfolding lowest_level
lowest_most masks below mask = first_le (any_at masks mask) below

module _ (masks : List ℕ) (below mask : ℕ) where
  abbrev lowest_here : ℕ
  lowest_here = lowest_level masks below mask

  -- the lowest level as an option
  pub below_some : lowest_here < below → lowest_below masks below mask ≡ Some lowest_here
  unfolding lowest_below
  below_some h = ap (λ (b : Bool). cond b (Some lowest_here) None) (lt-ltb lowest_here below h)

  pub below_none : below ≤ lowest_here → lowest_below masks below mask ≡ None
  unfolding lowest_below
  below_none h = ap (λ (b : Bool). cond b (Some lowest_here) None) (le-ltb lowest_here below h)

  -- and back
  pub some_below : {l : ℕ} → lowest_below masks below mask ≡ Some l → (l ≡ lowest_here) × (lowest_here < below)
  some_below {l} e = go (ltb lowest_here below) refl
    where
      go : (b : Bool) → ltb lowest_here below ≡ b → (l ≡ lowest_here) × (lowest_here < below)
      go true q = let h = ltb-true lowest_here below q in (sym (same_Some lowest_here l (sym (below_some h) ∙ e)), h)
      go false q = absurd (none-some l (sym (below_none (ltb-false lowest_here below q)) ∙ e))

  pub some_under : {l : ℕ} → lowest_below masks below mask ≡ Some l → l < below
  some_under e = let is = some_below e in subst (λ (i : ℕ). i < below) (sym is.0) is.1

  pub none_below : lowest_below masks below mask ≡ None → below ≤ lowest_here
  none_below e = go (ltb lowest_here below) refl
    where
      go : (b : Bool) → ltb lowest_here below ≡ b → below ≤ lowest_here
      go true q = absurd (none-some lowest_here (sym e ∙ below_some (ltb-true lowest_here below q)))
      go false q = ltb-false lowest_here below q

  -- a level that is found comes with its allowed CPUs and the number of masks read
  pub finds : lowest_here < below → lowest_found masks below mask ≡ found_at masks mask lowest_here
  unfolding lowest_found
  finds h = ap (λ (b : Bool). cond b (found_at masks mask lowest_here) (found_nothing masks below)) (lt-ltb lowest_here below h)

  pub finds_nothing : below ≤ lowest_here → lowest_found masks below mask ≡ found_nothing masks below
  unfolding lowest_found
  finds_nothing h = ap (λ (b : Bool). cond b (found_at masks mask lowest_here) (found_nothing masks below)) (le-ltb lowest_here below h)
