-- `waiting::scan::passes` meets its contract.
-- Assumes nothing.
use mathlib.Core.Path.{◌≡◌, refl, sym, ap, ap₂, ◌∙◌, subst}
use mathlib.Core.Bool.{Bool, not, ◌&&◌, ◌||◌}
use mathlib.Core.List.{List}
use Prim.Native.Nat.{ℕ}
use lib.Bits.{bit_and}
use lib.Dec.{eqb, ltb}
use lib.ListN.{get_or}
use Rattle.bits.specs.Bit.{bit}
use Rattle.cpupri.specs.Level.{level_of}
use Rattle.std.specs.Prelude.{Option, Some, None}
use Rattle.waiting.specs.Wanted.{Asked, names, newly, passing}
use Rattle.waiting.specs.declared.scan.Test.{Test}
use Rattle.waiting.specs.declared.scan.Test.TheVariants.{Movable, Drawn}
use Rattle.waiting.proofs.scan.passes.Goals as goal

module _ {test : Test} (under : List ℕ) (u p k : ℕ) (x : ℕ) (own : x ≡ level_of p) where
  by_word : {low : ℕ} → test ≡ Movable low → not (eqb (bit_and (get_or under x 0) k) 0) ≡ passing test under u p k
  unfolding passing
  by_word is = ap (λ (y : ℕ). not (eqb (bit_and (get_or under y 0) k) 0)) own ∙ sym (ap (λ (q : Test). passing q under u p k) is)

  by_draw : {c l : ℕ} {new : Option ℕ} → test ≡ Drawn c l new → (n b : Bool) → n ≡ names new u → b ≡ bit k c → (n || (b && ltb l x)) ≡ passing test under u p k
  unfolding passing
  by_draw {c} {l} {new} is n b en eb =
      ap₂ (λ (n b : Bool). n || (b && ltb l x)) en eb
      ∙ ap (λ (y : ℕ). names new u || (bit k c && ltb l y)) own
      ∙ sym (ap (λ (q : Test). passing q under u p k) is)

pub test_bit-requires : goal.test_bit-requires
test_bit-requires c = subst Asked c.in-Drawn.is c.requires.asked

pub returns-in-Movable : goal.returns-in-Movable
returns-in-Movable c =
    let x = c.args in
    by_word x.under.now x.task x.priority x.mask c.of_priority-own.result.number c.of_priority-own.ensures c.in-Movable.is

pub returns-in-Drawn : goal.returns-in-Drawn
returns-in-Drawn c =
    let x = c.args in
    by_draw x.under.now x.task x.priority x.mask c.of_priority-own.result.number c.of_priority-own.ensures c.in-Drawn.is (eqb x.new x.task) c.test_bit.result
    (c.requires.new_is ∙ ap (λ (q : Test). names (newly q) x.task) c.in-Drawn.is) c.test_bit.ensures
