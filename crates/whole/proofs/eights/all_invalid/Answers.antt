-- `whole::eights::all_invalid` meets its contract. The loop's invariant: the word has the differences to INVALID of the places passed, and of the
-- last eight.
-- Assumes nothing.
use mathlib.Core.Path.{sym, ap, ap₂, ◌∙◌, subst}
use Prim.Native.Nat.{ℕ, ◌+◌}
use native.Mathlib.Omega.{arith}
use lib.Bits.{bit_or, bit_xor}
use lib.Dec.{eqb}
use Rattle.whole.specs.Whole.{invalid_from, number}
use Rattle.whole.proofs.Blocks.{Looked, looked_first, looked_more, looked_all, invalid_bytes, invalid_eight}
use Rattle.whole.proofs.From.{length_from, from_below}
use Rattle.whole.proofs.Numbers.{Bytes}
use Rattle.whole.proofs.eights.all_invalid.Goals.{else-loop-i-test, then-loop-i-test+else-last-i-gt8}
use Rattle.whole.proofs.eights.all_invalid.Goals as goal

pub loop-i-init : goal.loop-i-init
loop-i-init c =
    let s = c.args.s.now in
    let start = c.args.start in
    let last = c.args.last in
    let bytes : Bytes s = λ i. (c.type_inv.s i).fits in
    subst (λ (d : ℕ). Looked s (invalid_from start s) start last d start)
    (ap₂ bit_xor (sym c.eight-word.ensures) (invalid_eight s bytes start last c.requires.0 (omega (arith, c.requires.1))))
    (looked_first s (invalid_from start s) start last bytes (invalid_bytes s bytes start))

pub loop-i-preserved : goal.loop-i-preserved
loop-i-preserved c =
    let s = c.args.s.now in
    let start = c.args.start in
    let last = c.args.last in
    let l = c.loop-i in
    let bytes : Bytes s = λ i. (c.type_inv.s i).fits in
    subst (λ (d : ℕ). Looked s (invalid_from start s) start last (bit_or l.word d) (l.i + 8))
    (ap₂ bit_xor (sym c.eight.ensures) (invalid_eight s bytes start l.i l.auto.i (omega (arith, c.requires.1, c.loop-i-test.true))))
    (looked_more s (invalid_from start s) start last bytes (invalid_bytes s bytes start) l.word l.i l.invariant)

pub returns : goal.returns
returns c =
    let s = c.args.s.now in
    let start = c.args.start in
    let last = c.args.last in
    let l = c.loop-i in
    let bytes : Bytes s = λ i. (c.type_inv.s i).fits in
    let is = invalid_from start s in
    let all = looked_all s is start last (sym c.requires.1) (length_from start s ∙ sym c.requires.1) (λ j h. sym (from_below start j s h)) in
    elim c.loop-i-test.branch [
      | else-loop-i-test w ↦ ap (λ (d : ℕ). eqb d 0) w.word-is ∙ all l.word l.i w.loop-i-test.false l.invariant
      | then-loop-i-test+else-last-i-gt8 w ↦
          ap (λ (d : ℕ). eqb d 0)
          (w.word-is
          ∙ ap₂ (λ (m n : ℕ). bit_or l.word (bit_xor m n)) w.eight.ensures (sym (invalid_eight s bytes start l.i l.auto.i (omega (arith, c.requires.1, w.loop-i-test.true)))))
          ∙ all (bit_or l.word (bit_xor (number s l.i 8) (number is l.i 8))) (l.i + 8) (omega arith)
          (looked_more s is start last bytes (invalid_bytes s bytes start) l.word l.i l.invariant)
    ]
