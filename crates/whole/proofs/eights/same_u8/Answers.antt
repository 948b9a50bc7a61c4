-- `whole::eights::same_u8` meets its contract. The loop's invariant: the word has the differences of the places passed, and of the last eight.
-- Assumes nothing.
use mathlib.Core.Path.{sym, ap, ap₂, ◌∙◌, subst}
use Prim.Native.Nat.{ℕ, ◌+◌, ◌-◌}
use native.Mathlib.Omega.{arith}
use lib.Bits.{bit_or, bit_xor}
use lib.Dec.{eqb}
use lib.ListN.{length}
use Rattle.whole.specs.Whole.{number}
use Rattle.whole.proofs.Blocks.{Looked, looked_first, looked_more, looked_all}
use Rattle.whole.proofs.eights.same_u8.Goals.{else-loop-i-test, then-loop-i-test+else-last-i-gt8}
use Rattle.whole.proofs.eights.same_u8.Goals as goal

pub loop-i-init : goal.loop-i-init
loop-i-init c =
    let a = c.args.a.now in
    let b = c.args.b.now in
    let last = length b - 8 in
    subst (λ (d : ℕ). Looked a b 0 last d 0) (ap₂ bit_xor (sym c.eight.ensures) (sym c.eight-2.ensures))
    (looked_first a b 0 last (λ i. (c.type_inv.a i).fits) (λ i. (c.type_inv.b i).fits))

pub loop-i-preserved : goal.loop-i-preserved
loop-i-preserved c =
    let a = c.args.a.now in
    let b = c.args.b.now in
    let last = length b - 8 in
    let l = c.loop-i in
    subst (λ (d : ℕ). Looked a b 0 last (bit_or l.word d) (l.i + 8)) (ap₂ bit_xor (sym c.eight-in-loop-i.ensures) (sym c.eight-in-loop-i-2.ensures))
    (looked_more a b 0 last (λ i. (c.type_inv.a i).fits) (λ i. (c.type_inv.b i).fits) l.word l.i l.invariant)

pub returns : goal.returns
returns c =
    let a = c.args.a.now in
    let b = c.args.b.now in
    let last = length b - 8 in
    let l = c.loop-i in
    let all = looked_all a b 0 last (omega (arith, c.requires.a_len, c.requires.in_bounds)) (omega (arith, c.requires.in_bounds)) (λ j h. absurd (omega arith)) in
    elim c.loop-i-test.branch [
      | else-loop-i-test w ↦ ap (λ (d : ℕ). eqb d 0) w.word-is ∙ all l.word l.i w.loop-i-test.false l.invariant
      | then-loop-i-test+else-last-i-gt8 w ↦
          let x = w.eight-in-loop-i in
          let y = w.eight-in-loop-i-2 in
          ap (λ (d : ℕ). eqb d 0) (w.word-is ∙ ap₂ (λ (m n : ℕ). bit_or l.word (bit_xor m n)) x.ensures y.ensures)
          ∙ all (bit_or l.word (bit_xor (number a l.i 8) (number b l.i 8))) (l.i + 8) (omega arith)
          (looked_more a b 0 last (λ i. (c.type_inv.a i).fits) (λ i. (c.type_inv.b i).fits) l.word l.i l.invariant)
    ]
