-- `under::rise` meets its contract. The loop's invariant: the words passed have lost the CPU, and the others are as they were.
-- Assumes nothing.
use mathlib.Core.Path.{◌≡◌, refl, ap, ◌∙◌}
use mathlib.Core.Bool.{Bool, true, false, cond, ◌&&◌}
use mathlib.Core.List.{List, ◌++◌}
use Prim.Native.Nat.{ℕ, ◌+◌, ◌-◌, ◌≤◌, ◌<◌}
use native.Mathlib.Omega.{arith}
use lib.Dec.{ltb, leb}
use lib.ListN.{length, get_or, set, take, drop, length-take, length-drop, get_or-append}
use borrow.Author.Tests.{ltb-true, ltb-false, leb-true, leb-false}
use borrow.Rule.Slice.PartMut.{mid_of, post_of, put_mid, same_len_mid}
use Rattle.std.proofs.lemmas.List.{get_or-take, get_or-drop, get_or-append_right}
use Rattle.bits.specs.Bit.{without_bit}
use Rattle.levels.specs.Level.{level_count}
use Rattle.under.proofs.Below.{under_at_lem, under_ext, risen, under_risen}
use Rattle.under.proofs.rise.Goals as goal

-- the words past `from`, up to and with `to`, have lost the CPU
module _ (old items : List ℕ) (cpu from to : ℕ) (size : length old ≡ level_count) (up : from ≤ to) (top : to < level_count) where
  abbrev a : ℕ
  a = from + 1

  abbrev k : ℕ
  k = to + 1 - (from + 1)

  before : length (take a old) ≡ a
  before = length-take a old ∙ omega arith

  part : length (mid_of a k old) ≡ k
  part = omega (arith, length-take k (drop a old), length-drop a old)

  risen_part : length items ≡ length (mid_of a k old) → ((j : ℕ) → j < length items → get_or items j 0 ≡ without_bit (get_or (mid_of a k old) j 0) cpu)
      → (l : ℕ) → get_or (put_mid a k old items) l 0 ≡ risen cpu from to l (get_or old l 0)
  risen_part same cleared l = go (ltb from l) refl (leb l to) refl
    where
      go : (b : Bool) → ltb from l ≡ b → (d : Bool) → leb l to ≡ d → get_or (put_mid a k old items) l 0 ≡ cond (b && d) (without_bit (get_or old l 0) cpu) (get_or old l 0)
      go false e d f =
          let low : l < a = omega (arith, ltb-false from l e) in
          get_or-append (take a old) (items ++ post_of a k old) 0 l (omega (arith, before)) ∙ get_or-take a old l 0 low
      go true e true f =
          let in_part : l - a < k = omega (arith, ltb-true from l e, leb-true l to f) in
          let place : a + (l - a) ≡ l = omega (arith, ltb-true from l e) in
          get_or-append_right (take a old) (items ++ post_of a k old) a l 0 before (omega (arith, ltb-true from l e))
          ∙ get_or-append items (post_of a k old) 0 (l - a) (omega (arith, part))
          ∙ cleared (l - a) (omega (arith, part))
          ∙ ap (λ (x : ℕ). without_bit x cpu) (get_or-take k (drop a old) (l - a) 0 in_part ∙ get_or-drop a old (l - a) 0 ∙ ap (λ (i : ℕ). get_or old i 0) place)
      go true e false f =
          let place : a + (k + (l - a - k)) ≡ l = omega (arith, ltb-true from l e, leb-false l to f) in
          get_or-append_right (take a old) (items ++ post_of a k old) a l 0 before (omega (arith, ltb-true from l e))
          ∙ get_or-append_right items (post_of a k old) k (l - a) 0 (same ∙ part) (omega (arith, leb-false l to f))
          ∙ get_or-drop k (drop a old) (l - a - k) 0
          ∙ get_or-drop a old (k + (l - a - k)) 0
          ∙ ap (λ (i : ℕ). get_or old i 0) place

pub returns : goal.returns
returns c =
    let x = c.args in
    let l = c.loop-word in
    let up = c.requires.cpu_lt_cpu_places.1 in
    let top = c.requires.cpu_lt_cpu_places.2 in
    λ levels is size was.
    under_ext (set levels x.cpu x.to) (put_mid (x.from + 1) (x.to + 1 - (x.from + 1)) x.under.now l.word-items)
    (same_len_mid (x.from + 1) (x.to + 1 - (x.from + 1)) x.under.now l.word-items l.auto.word-items ∙ c.requires.under_len)
    (λ j h.
    risen_part x.under.now l.word-items x.cpu x.from x.to c.requires.under_len up top l.auto.word-items (λ i m. l.invariant.passed i (omega arith)) j
    ∙ ap (risen x.cpu x.from x.to j) (ap (λ (us : List ℕ). get_or us j 0) is ∙ under_at_lem levels j h)
    ∙ under_risen levels x.cpu x.from x.to size c.requires.cpu_lt_cpu_places.0 was up j)
