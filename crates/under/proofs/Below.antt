-- The laws of the CPUs below each level: from one level to the next, and when a CPU rises.
-- Assumes nothing.
use mathlib.Core.Path.{◌≡◌, refl, sym, ap, ap₂, ◌∙◌}
use mathlib.Core.Bool.{Bool, true, false, cond, ◌&&◌, ◌||◌}
use mathlib.Core.List.{List, [], ◌∷◌}
use Prim.Native.Nat.{ℕ, suc, ◌+◌, ◌≤◌, ◌<◌, zero-le}
use native.Mathlib.Omega.{arith}
use lib.Arith.{lt_of_le-ne}
use lib.Bits.{bit_or}
use lib.Dec.{eqb, ltb, leb}
use lib.ListN.{length, get_or, set}
use lib.Seq.{ext_get_or}
use borrow.Author.Tests.{eqb-true, eqb-false, ltb-true, ltb-false, lt-ltb, le-ltb, leb-true, leb-false}
use Rattle.bits.specs.Bit.{bit, digit, put_bit, without_bit, tally}
use Rattle.bits.proofs.Packed.{bit_packed, packed_set, packed_cong, packed_or, packed_none}
use Rattle.bits.proofs.Word.{put_same}
use Rattle.levels.specs.Level.{level_count, cpu_places}
use Rattle.levels.specs.Record.{mask_at}
use Rattle.levels.proofs.Table.{length_table, get_or_table}
use Rattle.under.specs.Under.{under_at, under_of}

-- ---- one level

pub under_bit : (levels : List ℕ) (l c : ℕ) → c < length levels → bit (under_at levels l) c ≡ ltb (get_or levels c 0) l
unfolding under_at
under_bit levels l c h = bit_packed (λ (x : ℕ). ltb x l) 0 levels c h

-- below the next level are those below this one and those at it
lt_next : (x l : ℕ) → (ltb x l || eqb x l) ≡ ltb x (suc l)
lt_next x l = go (ltb x l) refl
  where
    at : (b : Bool) → eqb x l ≡ b → l ≤ x → b ≡ ltb x (suc l)
    at true e h = sym (lt-ltb x (suc l) (omega (arith, eqb-true x l e)))
    at false e h = sym (le-ltb x (suc l) (let n : x ≡ l → ⊥ = eqb-false x l e in above n h))
      where
        above : (x ≡ l → ⊥) → l ≤ x → suc l ≤ x
        above n h = lt_of_le-ne h (λ q. n (sym q))

    go : (b : Bool) → ltb x l ≡ b → (b || eqb x l) ≡ ltb x (suc l)
    go true e = sym (lt-ltb x (suc l) (omega (arith, ltb-true x l e)))
    go false e = at (eqb x l) refl (ltb-false x l e)

pub under_next : (levels : List ℕ) (l : ℕ) → bit_or (under_at levels l) (mask_at levels l) ≡ under_at levels (suc l)
unfolding under_at mask_at
under_next levels l =
    packed_or (λ (x : ℕ). ltb x l) (λ (x : ℕ). eqb x l) levels
    ∙ packed_cong (λ (x : ℕ). ltb x l || eqb x l) (λ (x : ℕ). ltb x (suc l)) (λ x. lt_next x l) levels

-- below the lowest level is none
pub under_zero : (levels : List ℕ) → under_at levels 0 ≡ 0
unfolding under_at tally
under_zero levels = packed_none (λ (x : ℕ). ltb x 0) levels (none levels)
  where
    none : (xs : List ℕ) → tally (λ (x : ℕ). ltb x 0) xs ≡ 0
    none [] = refl
    none (x ∷ xs) = ap₂ (λ (b : Bool) (n : ℕ). digit b + n) (le-ltb x 0 zero-le) (none xs)

-- ---- all levels

pub length_under : (levels : List ℕ) → length (under_of levels) ≡ level_count
unfolding under_of
length_under levels = length_table (under_at levels) level_count

pub under_at_lem : (levels : List ℕ) (l : ℕ) → l < level_count → get_or (under_of levels) l 0 ≡ under_at levels l
unfolding under_of
under_at_lem levels l h = get_or_table (under_at levels) level_count l 0 h

-- a table with these elements is it
pub under_ext : (levels xs : List ℕ) → length xs ≡ level_count → ((l : ℕ) → l < level_count → get_or xs l 0 ≡ under_at levels l) → xs ≡ under_of levels
under_ext levels xs size each =
    ext_get_or 0 xs (under_of levels) (size ∙ sym (length_under levels)) (λ l h.
    let here : l < level_count = omega (arith, size) in
    each l here ∙ sym (under_at_lem levels l here))

-- ---- a CPU rises

-- the word of level l after a CPU rose from a level to another: its bit goes from those that it rose past
abbrev pub risen : ℕ → ℕ → ℕ → ℕ → ℕ → ℕ
risen cpu from to l word = cond (ltb from l && leb l to) (without_bit word cpu) word

pub under_risen : (levels : List ℕ) (cpu from to : ℕ) → length levels ≡ cpu_places → cpu < cpu_places → get_or levels cpu 0 ≡ from → from ≤ to
    → (l : ℕ) → risen cpu from to l (under_at levels l) ≡ under_at (set levels cpu to) l
unfolding under_at
under_risen levels cpu from to size hc was up l = go (ltb from l) (leb l to) refl refl ∙ sym moved
  where
    here : cpu < length levels
    here = omega (arith, size)

    moved : under_at (set levels cpu to) l ≡ put_bit (ltb to l) (under_at levels l) cpu
    moved = packed_set (λ (x : ℕ). ltb x l) levels cpu to here

    held : bit (under_at levels l) cpu ≡ ltb from l
    held = under_bit levels l cpu here ∙ ap (λ (x : ℕ). ltb x l) was

    go : (a b : Bool) → ltb from l ≡ a → leb l to ≡ b → cond (a && b) (without_bit (under_at levels l) cpu) (under_at levels l) ≡ put_bit (ltb to l) (under_at levels l) cpu
    go true true p q = ap (λ (x : Bool). put_bit x (under_at levels l) cpu) (sym (le-ltb to l (leb-true l to q)))
    go true false p q = sym (put_same (ltb to l) (under_at levels l) cpu (held ∙ p ∙ sym (lt-ltb to l (leb-false l to q))))
    go false b p q =
        let low : l ≤ from = ltb-false from l p in
        sym (put_same (ltb to l) (under_at levels l) cpu (held ∙ p ∙ sym (le-ltb to l (omega arith))))
