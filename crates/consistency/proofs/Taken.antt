-- The pass over the CPUs: what several more at one level change in masks, counts and words, and that passes in a row are one pass.
-- Assumes nothing.
use Rattle.std.proofs.Common.{◌≡◌, ℕ, zero, suc, ◌+◌, ◌-◌, ◌*◌, ◌/◌, ◌%◌, ◌^◌, ◌<◌, ◌≤◌, Bool, true, false, cond, ◌||◌, eqb, ltb, List, [], ◌∷◌, length, get_or, set, replicate, sym, refl, ap, ◌∙◌, subst, ap₂, le_of_suc-le-suc, not-suc-le-zero, add-zero, add-suc, arith, length-set, get_or-set_other, get_or-set_same, ext_get_or, ltb-false, ltb-true, le-ltb, lt-ltb, eq-eqb, ne_eqb, eqb-true}
use mathlib.Core.Bool.{false≢true}
use lib.ListN.{length-replicate, get_or-replicate}
use borrow.Author.Tests.{eqb-false}
use Rattle.bits.specs.Bit.{digit, packed, tally, with_bit, put_bit}
use Rattle.levels.specs.Level.{level_count, word_count, cpu_places, invalid, known}
use Rattle.levels.specs.Record.{table, mask_at, count_at, masks_of, counts_of, words_of}
use Rattle.levels.proofs.Table.{table_cong, table_set}
use Rattle.levels.proofs.Moved.{length_masks, length_counts, mask_at_lem, count_at_lem, words_moved}
use Rattle.levels.proofs.Whole.{no_level, level_known}
use Rattle.bits.proofs.Packed.{tally_le}
use Rattle.whole.proofs.Same.{same_is, is_same}
use Rattle.consistency.proofs.Agrees.{mask_lt}
use Rattle.whole.proofs.Compared.{both_ways}
use Rattle.whole.proofs.From.{length_from}
use Rattle.whole.specs.Whole.{same, invalid_from}
use Rattle.consistency.specs.Gathered.{Gathered, Left, Gathers}

-- ---- one CPU more

module _ (l : ℕ) (hl : l < level_count) where
  mask_next : (c : ℕ) (xs : List ℕ) → c < length xs
      → mask_at (invalid_from (suc c) xs) l ≡ mask_at (invalid_from c xs) l + cond (eqb (get_or xs c 0) l) (2 ^ c) 0
  unfolding mask_at invalid_from packed
  mask_next c [] h = absurd (not-suc-le-zero h)
  mask_next zero (x ∷ xs) h = first (eqb x l) (eqb invalid l) (packed (λ y. eqb y l) (invalid_from zero xs)) (no_level l hl)
    where
      first : (b e : Bool) (p : ℕ) → e ≡ false → digit b + 2 * p ≡ (digit e + 2 * p) + cond b (2 ^ 0) 0
      first b true p n = absurd (false≢true (sym n))
      first true false p n = omega arith
      first false false p n = omega arith
  mask_next (suc c) (x ∷ xs) h =
      rest (eqb x l) (eqb (get_or xs c 0) l) (packed (λ y. eqb y l) (invalid_from c xs)) (packed (λ y. eqb y l) (invalid_from (suc c) xs)) (mask_next c xs (le_of_suc-le-suc h))
    where
      rest : (d b : Bool) (p q : ℕ) → q ≡ p + cond b (2 ^ c) 0 → digit d + 2 * q ≡ (digit d + 2 * p) + cond b (2 ^ suc c) 0
      rest d true p q e = let sum : q ≡ p + 2 ^ c = e in let goal : digit d + 2 * q ≡ (digit d + 2 * p) + 2 ^ suc c = omega arith in goal
      rest d false p q e = omega arith

  count_next : (c : ℕ) (xs : List ℕ) → c < length xs → count_at (invalid_from (suc c) xs) l ≡ count_at (invalid_from c xs) l + digit (eqb (get_or xs c 0) l)
  unfolding count_at invalid_from tally
  count_next c [] h = absurd (not-suc-le-zero h)
  count_next zero (x ∷ xs) h = let n : digit (eqb invalid l) ≡ 0 = ap digit (no_level l hl) in omega arith
  count_next (suc c) (x ∷ xs) h = let ih = count_next c xs (le_of_suc-le-suc h) in omega (arith, ih)

  -- ---- several at one level v

  module _ (c : ℕ) (xs : List ℕ) (v : ℕ) where
    next_mask : (b : Bool) (p q r m : ℕ) → q + cond b (2 ^ c) 0 ≡ p + cond b (2 ^ m) 0 → r ≡ q + cond b (2 ^ m) 0
        → r + cond b (2 ^ c) 0 ≡ p + cond b (2 ^ suc m) 0
    next_mask true p q r m e f =
        let sum : q + 2 ^ c ≡ p + 2 ^ m = e in
        let more : r ≡ q + 2 ^ m = f in
        let goal : r + 2 ^ c ≡ p + 2 ^ suc m = omega arith in
        goal
    next_mask false p q r m e f = omega arith

    next_count : (b : Bool) (p q r k : ℕ) → q ≡ p + cond b k 0 → r ≡ q + digit b → r ≡ p + cond b (suc k) 0
    next_count true p q r k e f = omega arith
    next_count false p q r k e f = omega arith

    mask_run : (k : ℕ) → c + k ≤ length xs → ((i : ℕ) → i < k → get_or xs (c + i) 0 ≡ v)
        → mask_at (invalid_from (c + k) xs) l + cond (eqb v l) (2 ^ c) 0 ≡ mask_at (invalid_from c xs) l + cond (eqb v l) (2 ^ (c + k)) 0
    mask_run zero h e =
        ap₂ (λ (i j : ℕ). mask_at (invalid_from i xs) l + cond (eqb v l) (2 ^ j) 0) (add-zero c) (sym (add-zero c))
    mask_run (suc k) h e =
        let more : suc (c + k) ≤ length xs = omega (arith, add-suc c k) in
        let before = mask_run k (omega arith) (λ i hi. e i (omega arith)) in
        let step : mask_at (invalid_from (suc (c + k)) xs) l ≡ mask_at (invalid_from (c + k) xs) l + cond (eqb v l) (2 ^ (c + k)) 0 =
        mask_next (c + k) xs more ∙ ap (λ (x : ℕ). mask_at (invalid_from (c + k) xs) l + cond (eqb x l) (2 ^ (c + k)) 0) (e k (omega arith)) in
        subst (λ (j : ℕ). mask_at (invalid_from j xs) l + cond (eqb v l) (2 ^ c) 0 ≡ mask_at (invalid_from c xs) l + cond (eqb v l) (2 ^ j) 0) (sym (add-suc c k))
        (next_mask (eqb v l) (mask_at (invalid_from c xs) l) (mask_at (invalid_from (c + k) xs) l) (mask_at (invalid_from (suc (c + k)) xs) l) (c + k) before step)

    count_run : (k : ℕ) → c + k ≤ length xs → ((i : ℕ) → i < k → get_or xs (c + i) 0 ≡ v)
        → count_at (invalid_from (c + k) xs) l ≡ count_at (invalid_from c xs) l + cond (eqb v l) k 0
    count_run zero h e = ap (λ (i : ℕ). count_at (invalid_from i xs) l) (add-zero c) ∙ none (eqb v l)
      where
        none : (b : Bool) → count_at (invalid_from c xs) l ≡ count_at (invalid_from c xs) l + cond b 0 0
        none true = omega arith
        none false = omega arith
    count_run (suc k) h e =
        let more : suc (c + k) ≤ length xs = omega (arith, add-suc c k) in
        let before = count_run k (omega arith) (λ i hi. e i (omega arith)) in
        let step : count_at (invalid_from (suc (c + k)) xs) l ≡ count_at (invalid_from (c + k) xs) l + digit (eqb v l) =
        count_next (c + k) xs more ∙ ap (λ (x : ℕ). count_at (invalid_from (c + k) xs) l + digit (eqb x l)) (e k (omega arith)) in
        ap (λ (j : ℕ). count_at (invalid_from j xs) l) (add-suc c k)
        ∙ next_count (eqb v l) (count_at (invalid_from c xs) l) (count_at (invalid_from (c + k) xs) l) (count_at (invalid_from (suc (c + k)) xs) l) k before step

-- ---- what that makes of the gathered tables

module _ (from : List ℕ) (c k : ℕ) (some : 1 ≤ k) (size : c + k ≤ length from) (v : ℕ) (alike : (i : ℕ) → i < k → get_or from (c + i) 0 ≡ v) where
  -- at INVALID, which is no level, nothing changes
  module _ (no : (l : ℕ) → l < level_count → eqb v l ≡ false) where
    counts_kept : counts_of (invalid_from (c + k) from) ≡ counts_of (invalid_from c from)
    unfolding counts_of
    counts_kept = table_cong (count_at (invalid_from c from)) (count_at (invalid_from (c + k) from)) level_count (λ l hl.
        let run = count_run l hl c from v k size alike in
        let none : cond (eqb v l) k 0 ≡ 0 = ap (λ (b : Bool). cond b k 0) (no l hl) in
        omega (arith, run, none))

    mask_kept : (l : ℕ) → l < level_count → mask_at (invalid_from (c + k) from) l ≡ mask_at (invalid_from c from) l
    mask_kept l hl =
        let run = mask_run l hl c from v k size alike in
        let low : cond (eqb v l) (2 ^ c) 0 ≡ 0 = ap (λ (b : Bool). cond b (2 ^ c) 0) (no l hl) in
        let high : cond (eqb v l) (2 ^ (c + k)) 0 ≡ 0 = ap (λ (b : Bool). cond b (2 ^ (c + k)) 0) (no l hl) in
        omega (arith, run, low, high)

  -- at a level, its count and its bit
  module _ (hv : v < level_count) where
    counts_more : counts_of (invalid_from (c + k) from) ≡ set (counts_of (invalid_from c from)) v (get_or (counts_of (invalid_from c from)) v 0 + k)
    unfolding counts_of
    counts_more =
        table_set (count_at (invalid_from c from)) (count_at (invalid_from (c + k) from)) level_count v hv (λ l hl d.
        let run = count_run l hl c from v k size alike in
        let none : cond (eqb v l) k 0 ≡ 0 = ap (λ (b : Bool). cond b k 0) (ne_eqb v l (λ e. d (sym e))) in
        omega (arith, run, none))
        ∙ ap (set (counts_of (invalid_from c from)) v)
        (let run = count_run v hv c from v k size alike in
        let all : cond (eqb v v) k 0 ≡ k = ap (λ (b : Bool). cond b k 0) (eq-eqb v v refl) in
        omega (arith, run, all, count_at_lem (invalid_from c from) v hv))

    gathered_more : {counts words : List ℕ} → Gathered from c counts words
        → Gathered from (c + k) (set counts v (get_or counts v 0 + k)) (set words (v / 64) (with_bit (get_or words (v / 64) 0) (v % 64)))
    gathered_more {counts} {words} g = record {
      counts_are = ap (λ (cs : List ℕ). set cs v (get_or cs v 0 + k)) g.counts_are ∙ sym counts_more;
      words_are =
          ap (λ (ws : List ℕ). set ws (v / 64) (with_bit (get_or ws (v / 64) 0) (v % 64))) g.words_are
          ∙ sym (words_moved counts v (get_or counts v 0 + k) (ap length g.counts_are ∙ length_counts (invalid_from c from)) hv
          ∙ ap (λ (b : Bool). set (words_of counts) (v / 64) (put_bit b (get_or (words_of counts) (v / 64) 0) (v % 64))) (lt-ltb 0 (get_or counts v 0 + k) (omega arith)));
    }

    -- and its mask
    mask_more : (cpus : ℕ) → cpus + 2 ^ c ≡ 2 ^ (c + k) → (l : ℕ) → l < level_count
        → mask_at (invalid_from (c + k) from) l ≡ mask_at (invalid_from c from) l + cond (eqb v l) cpus 0
    mask_more cpus e l hl = go (eqb v l) (mask_run l hl c from v k size alike)
      where
        go : (b : Bool) → mask_at (invalid_from (c + k) from) l + cond b (2 ^ c) 0 ≡ mask_at (invalid_from c from) l + cond b (2 ^ (c + k)) 0
            → mask_at (invalid_from (c + k) from) l ≡ mask_at (invalid_from c from) l + cond b cpus 0
        go true run =
            let sum : mask_at (invalid_from (c + k) from) l + 2 ^ c ≡ mask_at (invalid_from c from) l + 2 ^ (c + k) = run in
            let goal : mask_at (invalid_from (c + k) from) l ≡ mask_at (invalid_from c from) l + cpus = omega (arith, e, sum) in
            goal
        go false run = sym (add-zero (mask_at (invalid_from (c + k) from) l)) ∙ run

    left_more : (cpus w : ℕ) → cpus + 2 ^ c ≡ 2 ^ (c + k) → w < 2 ^ 64 → {left : List ℕ} → (w + cpus) % 2 ^ 64 ≡ get_or left v 0
        → (masks : List ℕ) → Left from c masks left → Left from (c + k) masks (set left v w)
    left_more cpus w e hw {left} out masks h = record {
      long = length-set left v w ∙ h.long;
      word = λ l hl. word l hl (eqb v l) refl;
      each = λ l hl. go l hl (eqb v l) refl;
    }
      where
        word : (l : ℕ) → l < level_count → (b : Bool) → eqb v l ≡ b → get_or (set left v w) l 0 < 2 ^ 64
        word l hl true t =
            let here : get_or (set left v w) l 0 ≡ w =
            ap (λ (i : ℕ). get_or (set left v w) i 0) (sym (eqb-true v l t)) ∙ get_or-set_same left v w 0 (omega (arith, h.long)) in
            omega (arith, here, hw)
        word l hl false t =
            let kept : get_or (set left v w) l 0 ≡ get_or left l 0 = get_or-set_other left v l w 0 (λ i. eqb-false v l t (sym i)) in
            omega (arith, kept, h.word l hl)

        go : (l : ℕ) → l < level_count → (b : Bool) → eqb v l ≡ b → (get_or (set left v w) l 0 + mask_at (invalid_from (c + k) from) l) % 2 ^ 64 ≡ get_or masks l 0
        go l hl true t =
            let same : v ≡ l = eqb-true v l t in
            let here : get_or (set left v w) l 0 ≡ w =
            ap (λ (i : ℕ). get_or (set left v w) i 0) (sym same) ∙ get_or-set_same left v w 0 (omega (arith, h.long)) in
            let more : mask_at (invalid_from (c + k) from) l ≡ mask_at (invalid_from c from) l + cpus =
            mask_more cpus e l hl ∙ ap (λ (b : Bool). mask_at (invalid_from c from) l + cond b cpus 0) t in
            let before : (get_or left l 0 + mask_at (invalid_from c from) l) % 2 ^ 64 ≡ get_or masks l 0 = h.each l hl in
            let took : (w + cpus) % 2 ^ 64 ≡ get_or left l 0 = out ∙ ap (λ (i : ℕ). get_or left i 0) same in
            mod_sum w cpus (get_or left l 0) (mask_at (invalid_from c from) l) (get_or masks l 0) _ _ here more took before
          where
            mod_sum : (w x y m z a b : ℕ) → a ≡ w → b ≡ m + x → (w + x) % 2 ^ 64 ≡ y → (y + m) % 2 ^ 64 ≡ z → (a + b) % 2 ^ 64 ≡ z
            mod_sum w x y m z a b p q r s = omega arith
        go l hl false t =
            let kept : get_or (set left v w) l 0 ≡ get_or left l 0 = get_or-set_other left v l w 0 (λ i. eqb-false v l t (sym i)) in
            let same : mask_at (invalid_from (c + k) from) l ≡ mask_at (invalid_from c from) l + 0 =
            mask_more cpus e l hl ∙ ap (λ (b : Bool). mask_at (invalid_from c from) l + cond b cpus 0) t in
            ap₂ (λ (a b : ℕ). (a + b) % 2 ^ 64) kept (same ∙ add-zero (mask_at (invalid_from c from) l)) ∙ h.each l hl

-- ---- the pass

-- it begins
pub gathers_none : (from : List ℕ) (k : ℕ) (left : List ℕ) {counts words : List ℕ} → Gathered from k counts words → Gathers from k k true left left counts words
gathers_none from k left g = record {
  all = λ t c h l. absurd (omega arith);
  none = λ e. absurd (false≢true (sym e));
  right = λ t. g;
  takes = λ t masks h. h;
}

-- and goes on
pub gathers_on : {from : List ℕ} {k i j : ℕ} {b : Bool} {left mid rest cs ws counts words : List ℕ} → k ≤ i → i ≤ j
    → Gathers from k i true left mid cs ws → Gathers from i j b mid rest counts words → Gathers from k j b left rest counts words
gathers_on {from} {k} {i} {j} {b} hi hj p q = record {
  all = λ t c h l. go t c h l (ltb c i) refl;
  none = q.none;
  right = q.right;
  takes = λ t masks h. q.takes t masks (p.takes refl masks h);
}
  where
    go : b ≡ true → (c : ℕ) → k ≤ c → c < j → (t : Bool) → ltb c i ≡ t → known (get_or from c 0) ≡ true
    go t c h l true e = p.all refl c h (ltb-true c i e)
    go t c h l false e = q.all t c (ltb-false c i e) l

-- one level that is none ends it
pub gathers_fails : (from : List ℕ) (k j : ℕ) {left rest counts words : List ℕ} (c : ℕ) → c < j → known (get_or from c 0) ≡ false
    → Gathers from k j false left rest counts words
gathers_fails from k j c h e = record {
  all = λ t. absurd (false≢true t);
  none = λ f. (c, (h, e));
  right = λ t. absurd (false≢true t);
  takes = λ t. absurd (false≢true t);
}

module _ (from : List ℕ) (c k : ℕ) (some : 1 ≤ k) (size : c + k ≤ length from) (alike : (i : ℕ) → i < k → get_or from (c + i) 0 ≡ get_or from c 0)
    {counts words : List ℕ} (g : Gathered from c counts words) where
  -- CPUs at INVALID, or at no level
  pub take_none : (left : List ℕ) → level_count ≤ get_or from c 0 → Gathers from c (c + k) (eqb (get_or from c 0) invalid) left left counts words
  unfolding known
  take_none left high = record {
    all = λ t i h l. ap known (there i h l) ∙ is_known ∙ t;
    none = λ e. (c, (omega arith, is_known ∙ e));
    right = λ t. record { counts_are = g.counts_are ∙ sym (counts_kept from c k some size v alike (no t)); words_are = g.words_are };
    takes = λ t masks h. record {
      long = h.long;
      word = h.word;
      each = λ l hl. ap (λ (m : ℕ). (get_or left l 0 + m) % 2 ^ 64) (mask_kept from c k some size v alike (no t) l hl) ∙ h.each l hl;
    };
  }
    where
      v : ℕ
      v = get_or from c 0

      is_known : known v ≡ eqb v invalid
      is_known = ap (λ (b : Bool). b || eqb v invalid) (le-ltb v level_count high)

      there : (i : ℕ) → c ≤ i → i < c + k → get_or from i 0 ≡ v
      there i h l = let place : c + (i - c) ≡ i = omega arith in ap (λ (j : ℕ). get_or from j 0) (sym place) ∙ alike (i - c) (omega arith)

      no : eqb v invalid ≡ true → (l : ℕ) → l < level_count → eqb v l ≡ false
      no t l hl = ne_eqb v l (λ e. omega arith)

  -- CPUs at a level
  pub take_level : (cpus w : ℕ) → cpus + 2 ^ c ≡ 2 ^ (c + k) → w < 2 ^ 64 → (left : List ℕ) → get_or from c 0 < level_count
      → (w + cpus) % 2 ^ 64 ≡ get_or left (get_or from c 0) 0
      → let v = get_or from c 0 in
      Gathers from c (c + k) true left (set left v w) (set counts v (get_or counts v 0 + k)) (set words (v / 64) (with_bit (get_or words (v / 64) 0) (v % 64)))
  unfolding known
  take_level cpus w e hw left hv out = record {
    all = λ t i h l. ap known (there i h l) ∙ level_known v hv;
    none = λ f. absurd (false≢true (sym f));
    right = λ t. gathered_more from c k some size v alike hv g;
    takes = λ t. left_more from c k some size v alike hv cpus w e hw out;
  }
    where
      v : ℕ
      v = get_or from c 0

      there : (i : ℕ) → c ≤ i → i < c + k → get_or from i 0 ≡ v
      there i h l = let place : c + (i - c) ≡ i = omega arith in ap (λ (j : ℕ). get_or from j 0) (sym place) ∙ alike (i - c) (omega arith)

  -- no count is above 64
  pub count_small : get_or from c 0 < level_count → get_or counts (get_or from c 0) 0 + k ≤ length from
  unfolding count_at
  count_small hv =
      let v = get_or from c 0 in
      let at : get_or counts v 0 ≡ count_at (invalid_from c from) v = ap (λ (cs : List ℕ). get_or cs v 0) g.counts_are ∙ count_at_lem (invalid_from c from) v hv in
      let run = count_run v hv c from v k size alike in
      let all : cond (eqb v v) k 0 ≡ k = ap (λ (b : Bool). cond b k 0) (eq-eqb v v refl) in
      let most : count_at (invalid_from (c + k) from) v ≤ length (invalid_from (c + k) from) = tally_le (λ x. eqb x v) (invalid_from (c + k) from) in
      omega (arith, at, run, all, most, length_from (c + k) from)

-- ---- before the first CPU there is nothing

module _ (l : ℕ) (hl : l < level_count) where
  mask_zero : (xs : List ℕ) → mask_at (invalid_from 0 xs) l ≡ 0
  unfolding mask_at invalid_from packed
  mask_zero [] = refl
  mask_zero (x ∷ xs) = let none : digit (eqb invalid l) ≡ 0 = ap digit (no_level l hl) in omega (arith, none, mask_zero xs)

  count_zero : (xs : List ℕ) → count_at (invalid_from 0 xs) l ≡ 0
  unfolding count_at invalid_from tally
  count_zero [] = refl
  count_zero (x ∷ xs) = let none : digit (eqb invalid l) ≡ 0 = ap digit (no_level l hl) in omega (arith, none, count_zero xs)

pub gathered_start : (from : List ℕ) → Gathered from 0 (replicate level_count 0) (replicate word_count 0)
unfolding counts_of table words_of packed
gathered_start from = record {
  counts_are = sym (table_cong (λ l. 0) (count_at (invalid_from 0 from)) level_count (λ l hl. count_zero l hl from));
  words_are = refl;
}

module _ (from : List ℕ) (k : ℕ) (masks left : List ℕ) (small : (l : ℕ) → get_or masks l 0 < 2 ^ 64) where
  pub left_start : length masks ≡ level_count → left ≡ masks → Left from 0 masks left
  left_start len e = record {
    long = ap length e ∙ len;
    word = λ l hl. let same : get_or left l 0 ≡ get_or masks l 0 = ap (λ (xs : List ℕ). get_or xs l 0) e in omega (arith, same, small l);
    each = λ l hl.
        let same : get_or left l 0 ≡ get_or masks l 0 = ap (λ (xs : List ℕ). get_or xs l 0) e in
        omega (arith, same, mask_zero l hl from, small l);
  }

  -- nothing is left exactly if the masks are right
  pub left_none : length masks ≡ level_count → length from ≡ cpu_places → Left from k masks left
      → same left (replicate (length left) 0) ≡ same masks (masks_of (invalid_from k from))
  left_none len places h = both_ways _ _ there back
    where
      right : List ℕ
      right = invalid_from k from

      mask_small : (l : ℕ) → mask_at right l < 2 ^ 64
      mask_small l = mask_lt right l (length_from k from ∙ places)

      there : same left (replicate (length left) 0) ≡ true → same masks (masks_of right) ≡ true
      there t = is_same masks (masks_of right) (ext_get_or 0 masks (masks_of right) (len ∙ sym (length_masks right)) (λ l hl.
          let level : l < level_count = omega (arith, len) in
          let none : get_or left l 0 ≡ 0 =
          ap (λ (xs : List ℕ). get_or xs l 0) (same_is left (replicate (length left) 0) t) ∙ get_or-replicate (length left) l 0 0 (omega (arith, h.long)) in
          let sum = h.each l level in
          omega (arith, none, sum, mask_small l, mask_at_lem right l level)))

      back : same masks (masks_of right) ≡ true → same left (replicate (length left) 0) ≡ true
      back t = is_same left (replicate (length left) 0) (ext_get_or 0 left (replicate (length left) 0) (sym (length-replicate (length left) 0)) (λ l hl.
          let level : l < level_count = omega (arith, h.long) in
          let is : get_or masks l 0 ≡ mask_at right l = ap (λ (xs : List ℕ). get_or xs l 0) (same_is masks (masks_of right) t) ∙ mask_at_lem right l level in
          let sum = h.each l level in
          let zero : get_or left l 0 ≡ 0 = omega (arith, is, sum, mask_small l, h.word l level) in
          zero ∙ sym (get_or-replicate (length left) l 0 0 hl)))
