-- The search by the two words of level bits: a level without a bit has no CPU, so the lowest set bit whose level has an allowed CPU is the lowest
-- such level; and as many levels have a CPU as bits are set.
-- Assumes nothing.
use mathlib.Core.Path.{◌≡◌, refl, sym, ap, ap₂, ◌∙◌, subst}
use mathlib.Core.Bool.{Bool, true, false, not, false≢true}
use mathlib.Core.List.{List}
use Prim.Native.Nat.{ℕ, ◌+◌, ◌-◌, ◌/◌, ◌%◌, ◌^◌, ◌≤◌, ◌<◌}
use native.Mathlib.Nat.{le_of_eq}
use native.Mathlib.Omega.{arith}
use lib.Bits.{bit_and, and_zero_l}
use lib.Dec.{eqb, ltb}
use lib.ListN.{get_or}
use borrow.Author.Tests.{eqb-true, eqb-false, eq-eqb, ne_eqb, ltb-true, ltb-false, not-false}
use Rattle.bits.specs.Bit.{bit, without_bit, count, lowest, weight}
use Rattle.bits.proofs.Word.{bit_put_same, bit_put_other, bit_of_zero}
use Rattle.bits.proofs.Search.{first_is, first_none, first_before, count_cong, count_split, weight_mod}
use Rattle.bits.proofs.Packed.{packed_none, none_packed}
use Rattle.levels.specs.Level.{level_count}
use Rattle.levels.specs.Record.{mask_at, count_at, masks_of, counts_of, words_of, active, Whole}
use Rattle.levels.specs.declared.record.Record.{Record}
use Rattle.levels.proofs.Moved.{mask_at_lem, count_at_lem}
use Rattle.levels.proofs.Whole.{active_is, masks_are, words_are}
use Rattle.consistency.proofs.Words.{words_bit}
use Rattle.std.specs.Prelude.{Option, None, Some, MatchOption}
use Rattle.cpupri.specs.Found.{allowed_at, any_at, lowest_level, lowest_below, occupied, occupied_below, marked, Marked}
use Rattle.cpupri.specs.Search.{Passed, LowestIn, NoneIn}
use Rattle.cpupri.proofs.Found.{below_some, below_none}

-- ---- the words of a record

-- a level's mask is 0 exactly if its count is
mask_count : (levels : List ℕ) (l : ℕ) → active (count_at levels l) ≡ not (eqb (mask_at levels l) 0)
unfolding mask_at count_at
mask_count levels l = active_is (count_at levels l) ∙ ap not (go (eqb (mask_at levels l) 0) refl)
  where
    go : (b : Bool) → eqb (mask_at levels l) 0 ≡ b → eqb (count_at levels l) 0 ≡ b
    go true e = eq-eqb (count_at levels l) 0 (none_packed (λ (x : ℕ). eqb x l) levels (eqb-true (mask_at levels l) 0 e))
    go false e = ne_eqb (count_at levels l) 0 (λ z. eqb-false (mask_at levels l) 0 e (packed_none (λ (x : ℕ). eqb x l) levels z))

marked_levels : (levels : List ℕ) → Marked (masks_of levels) (words_of (counts_of levels))
unfolding occupied
marked_levels levels =
    record {
      each = λ l h.
          words_bit (counts_of levels) l (omega arith)
          ∙ ap active (count_at_lem levels l h)
          ∙ mask_count levels l
          ∙ ap (λ (m : ℕ). not (eqb m 0)) (sym (mask_at_lem levels l h));
    }

-- of tables that hold these levels' masks and words
pub marked_by : {masks words : List ℕ} (levels : List ℕ) → masks ≡ masks_of levels → words ≡ words_of (counts_of levels) → Marked masks words
marked_by {words = words} levels em ew =
    subst (λ (ms : List ℕ). Marked ms words) (sym em) (subst (λ (ws : List ℕ). Marked (masks_of levels) ws) (sym ew) (marked_levels levels))

pub marked_whole : (r : Record) → Whole r → Marked r.masks r.words
marked_whole r w = marked_by r.levels (masks_are r w) (words_are r w)

-- ---- one word

module _ (masks : List ℕ) (mask base below : ℕ) where
  -- what is left of a word in the search: a level below `below` without a bit has no CPU of the mask, and no other level has a bit
  pub record Going (word : ℕ) : Type 0 where
    pub passed : (c : ℕ) → c < 64 → base + c < below → bit word c ≡ false → any_at masks mask (base + c) ≡ false
    pub under : (c : ℕ) → c < 64 → bit word c ≡ true → base + c < below

  pub going_first : (word part : ℕ) → below ≤ level_count → Passed masks mask base word → ((c : ℕ) → c < 64 → base + c < below → bit part c ≡ bit word c)
      → ((c : ℕ) → c < 64 → below ≤ base + c → bit part c ≡ false) → Going part
  going_first word part most passed kept cut = record {
    passed = λ c hc l e. passed c hc (omega arith) (sym (kept c hc l) ∙ e);
    under = λ c hc e. go c hc e (ltb (base + c) below) refl;
  }
    where
      go : (c : ℕ) → c < 64 → bit part c ≡ true → (b : Bool) → ltb (base + c) below ≡ b → base + c < below
      go c hc e true t = ltb-true (base + c) below t
      go c hc e false t = absurd (false≢true (sym (cut c hc (ltb-false (base + c) below t)) ∙ e))

  -- the levels below `end` of which no bit is left have no CPU of the mask
  none_below : (word end : ℕ) → end ≤ below → Going word → ((c : ℕ) → c < 64 → base + c < end → bit word c ≡ false)
      → (k : ℕ) → base ≤ k → k < base + 64 → k < end → any_at masks mask k ≡ false
  none_below word end most g clear k low high h =
      let is : base + (k - base) ≡ k = omega arith in
      ap (any_at masks mask) (sym is) ∙ g.passed (k - base) (omega arith) (omega arith) (clear (k - base) (omega arith) (omega arith))

  before_lowest : (word c : ℕ) → c < lowest 64 word → bit word c ≡ false
  unfolding lowest
  before_lowest word c h = first_before (bit word) 64 c h

  -- a level that was looked at is passed
  pub pass : (word place : ℕ) → Going word → any_at masks mask (base + place) ≡ false → Going (without_bit word place)
  pass word place g none = record {
    passed = λ c hc l e. go c hc l e (eqb c place) refl;
    under = λ c hc e. stays c hc e (eqb c place) refl;
  }
    where
      other : (c : ℕ) → eqb c place ≡ false → bit (without_bit word place) c ≡ bit word c
      other c q = bit_put_other false word place c (λ i. eqb-false c place q (sym i))

      go : (c : ℕ) → c < 64 → base + c < below → bit (without_bit word place) c ≡ false → (b : Bool) → eqb c place ≡ b → any_at masks mask (base + c) ≡ false
      go c hc l e true q = ap (λ (i : ℕ). any_at masks mask (base + i)) (eqb-true c place q) ∙ none
      go c hc l e false q = g.passed c hc l (sym (other c q) ∙ e)

      stays : (c : ℕ) → c < 64 → bit (without_bit word place) c ≡ true → (b : Bool) → eqb c place ≡ b → base + c < below
      stays c hc e true q =
          absurd (false≢true (sym (bit_put_same false word place) ∙ ap (bit (without_bit word place)) (sym (eqb-true c place q)) ∙ e))
      stays c hc e false q = g.under c hc (sym (other c q) ∙ e)

  module _ (word : ℕ) (g : Going word) where
    -- no bit is left
    pub none_left : word ≡ 0 → NoneIn masks mask base below
    none_left z = none_below word below (omega arith) g (λ c hc l. ap (λ (w : ℕ). bit w c) z ∙ bit_of_zero c)

    -- the lowest bit's level has a CPU of the mask
    pub one_in : lowest 64 word < 64 → base + lowest 64 word < below → any_at masks mask (base + lowest 64 word) ≡ true → LowestIn masks mask base below (base + lowest 64 word)
    one_in small here any = record {
      under = here;
      within = omega arith;
      some = any;
      least = λ k low h.
          none_below word (base + lowest 64 word) (omega arith) g (λ c hc l. before_lowest word c (omega arith)) k low (omega arith) h;
    }

-- ---- both words

module _ (masks : List ℕ) (mask below : ℕ) where
  some_is : (l : ℕ) → l < below → any_at masks mask l ≡ true → ((k : ℕ) → k < l → any_at masks mask k ≡ false) → Some l ≡ lowest_below masks below mask
  unfolding lowest_level
  some_is l h any least =
      let is : lowest_level masks below mask ≡ l = first_is (any_at masks mask) below l h any least in
      ap Some (sym is) ∙ sym (below_some masks below mask (subst (λ (i : ℕ). i < below) (sym is) h))

  none_is : ((k : ℕ) → k < below → any_at masks mask k ≡ false) → None ≡ lowest_below masks below mask
  unfolding lowest_level
  none_is none = sym (below_none masks below mask (le_of_eq (sym (first_none (any_at masks mask) below none))))

  -- in the first word
  pub lowest_low : (l : ℕ) → LowestIn masks mask 0 below l → Some l ≡ lowest_below masks below mask
  lowest_low l low = some_is l low.under low.some (λ k h. low.least k (omega arith) h)

  module _ (low : NoneIn masks mask 0 below) where
    -- not there, and the second has no level below
    pub lowest_out : below ≤ 64 → None ≡ lowest_below masks below mask
    lowest_out h = none_is (λ k q. low k (omega arith) (omega arith) q)

    -- in the second
    pub lowest_high : below ≤ level_count → (o : Option ℕ) → MatchOption o (NoneIn masks mask 64 below) (λ l. LowestIn masks mask 64 below l) → o ≡ lowest_below masks below mask
    lowest_high most None high = none_is (λ k q. go k q (ltb k 64) refl)
      where
        go : (k : ℕ) → k < below → (b : Bool) → ltb k 64 ≡ b → any_at masks mask k ≡ false
        go k q true e = let s : k < 64 = ltb-true k 64 e in low k (omega arith) (omega arith) q
        go k q false e = let s : 64 ≤ k = ltb-false k 64 e in high k s (omega arith) q
    lowest_high most (Some l) high = some_is l high.under high.some (λ k q. go k q (ltb k 64) refl)
      where
        go : (k : ℕ) → k < l → (b : Bool) → ltb k 64 ≡ b → any_at masks mask k ≡ false
        go k q true e = let s : k < 64 = ltb-true k 64 e in low k (omega arith) (omega arith) (omega (arith, high.under))
        go k q false e = let s : 64 ≤ k = ltb-false k 64 e in high.least k s q

-- a level that is not marked has no CPU
module _ (masks words : List ℕ) (mask : ℕ) (m : Marked masks words) where
  empty : (l : ℕ) → l < level_count → marked words l ≡ false → any_at masks mask l ≡ false
  unfolding any_at allowed_at occupied
  empty l h e =
      let none : get_or masks l 0 ≡ 0 = eqb-true (get_or masks l 0) 0 (not-false (eqb (get_or masks l 0) 0) (sym (m.each l h) ∙ e)) in
      ap not (eq-eqb (bit_and (get_or masks l 0) mask) 0 (ap (λ (x : ℕ). bit_and x mask) none ∙ and_zero_l mask))

  pub passed_low : Passed masks mask 0 (get_or words 0 0)
  passed_low c hc hl e =
      let quotient : (0 + c) / 64 ≡ 0 = omega arith in
      let remainder : (0 + c) % 64 ≡ c = omega arith in
      empty (0 + c) hl (ap₂ (λ (q i : ℕ). bit (get_or words q 0) i) quotient remainder ∙ e)

  pub passed_high : Passed masks mask 64 (get_or words 1 0)
  passed_high c hc hl e =
      let quotient : (64 + c) / 64 ≡ 1 = omega arith in
      let remainder : (64 + c) % 64 ≡ c = omega arith in
      empty (64 + c) hl (ap₂ (λ (q i : ℕ). bit (get_or words q 0) i) quotient remainder ∙ e)

-- ---- how many levels have a CPU

module _ (words : List ℕ) where
  low_marked : (k : ℕ) → k ≤ 64 → weight k (get_or words 0 0) ≡ count (marked words) k
  unfolding weight
  low_marked k h =
      count_cong (bit (get_or words 0 0)) (marked words) k (λ c l.
      let quotient : c / 64 ≡ 0 = omega arith in
      let remainder : c % 64 ≡ c = omega arith in
      sym (ap₂ (λ (q i : ℕ). bit (get_or words q 0) i) quotient remainder))

  high_marked : (k : ℕ) → k ≤ 64 → weight k (get_or words 1 0) ≡ count (λ c. marked words (64 + c)) k
  unfolding weight
  high_marked k h =
      count_cong (bit (get_or words 1 0)) (λ c. marked words (64 + c)) k (λ c l.
      let quotient : (64 + c) / 64 ≡ 1 = omega arith in
      let remainder : (64 + c) % 64 ≡ c = omega arith in
      sym (ap₂ (λ (q i : ℕ). bit (get_or words q 0) i) quotient remainder))

  pub count_low : (k : ℕ) → k ≤ 64 → weight 64 (get_or words 0 0 % 2 ^ k) ≡ count (marked words) k
  count_low k h = weight_mod 64 k (get_or words 0 0) h ∙ low_marked k h

  pub count_high : (k : ℕ) → 64 ≤ k → k ≤ level_count → weight 64 (get_or words 0 0) + weight 64 (get_or words 1 0 % 2 ^ (k - 64)) ≡ count (marked words) k
  count_high k h most =
      let split : 64 + (k - 64) ≡ k = omega arith in
      ap₂ ◌+◌ (low_marked 64 (omega arith)) (weight_mod 64 (k - 64) (get_or words 1 0) (omega arith) ∙ high_marked (k - 64) (omega arith))
      ∙ sym (count_split (marked words) 64 (k - 64))
      ∙ ap (count (marked words)) split

pub occupied_marked : (masks words : List ℕ) → Marked masks words → (k : ℕ) → k ≤ level_count → count (marked words) k ≡ occupied_below masks k
unfolding occupied_below
occupied_marked masks words m k h = count_cong (marked words) (occupied masks) k (λ l q. m.each l (omega arith))
