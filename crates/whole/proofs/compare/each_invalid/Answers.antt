-- `whole::compare::each_invalid` meets its contract. The loop's invariant: the byte is 0 exactly if the places passed are the same.
-- Assumes nothing.
use mathlib.Core.Path.{◌≡◌, sym, ap, ap₂, ◌∙◌}
use mathlib.Core.List.{List}
use Prim.Native.Nat.{ℕ, ◌+◌, ◌-◌, ◌<◌}
use native.Mathlib.Nat.{add-zero}
use native.Mathlib.Omega.{arith}
use lib.Bits.{bit_or, bit_xor}
use lib.Dec.{eqb}
use lib.ListN.{length, get_or, take, drop, length-take, length-drop}
use Rattle.std.proofs.lemmas.List.{get_or-take, get_or-drop}
use Rattle.whole.specs.Whole.{same, invalid_from}
use Rattle.whole.proofs.Same.{is_same}
use Rattle.whole.proofs.Compared.{compare_more, compare_all}
use Rattle.whole.proofs.From.{length_from, from_above, take_from}
use Rattle.whole.proofs.compare.each_invalid.Goals as goal

-- the place of the slice that is looked at
place : (a : List ℕ) (start i : ℕ) → start + i < length a → get_or (take (length a - start) (drop start a)) i 0 ≡ get_or a (start + i) 0
place a start i h = get_or-take (length a - start) (drop start a) i 0 (omega arith) ∙ get_or-drop start a i 0

pub loop-level-init : goal.loop-level-init
loop-level-init c =
    let start = c.args.start in
    let a = c.args.a.now in
    sym (is_same (take (start + 0) a) (take (start + 0) (invalid_from start a)) (rw add-zero (take_from start a)))

pub loop-level-preserved : goal.loop-level-preserved
loop-level-preserved c =
    let l = c.loop-level in
    let a = c.args.a.now in
    let start = c.args.start in
    let i = l.level-index in
    let more : start + i < length a = omega (arith, length-take (length a - start) (drop start a), length-drop start a) in
    let next : start + i + 1 ≡ start + (i + 1) = omega arith in
    ap₂ (λ (x y : ℕ). eqb (bit_or l.byte (bit_xor x y)) 0) (place a start i more) (sym (from_above start (start + i) a (omega arith) more))
    ∙ compare_more a (invalid_from start a) (sym (length_from start a)) l.byte (start + i) l.invariant more
    ∙ ap (λ (k : ℕ). same (take k a) (take k (invalid_from start a))) next

pub returns : goal.returns
returns c =
    let l = c.loop-level in
    let a = c.args.a.now in
    let start = c.args.start in
    compare_all a (invalid_from start a) (sym (length_from start a)) l.byte (start + l.level-index) l.invariant
    (omega (arith, length-take (length a - start) (drop start a), length-drop start a))
