-- `ranking::any_in_block` meets its contract. The loop's invariant: what is found is whether one of the places passed passes the test. Assumes nothing.
use mathlib.Core.Path.{◌≡◌, refl, sym, ◌∙◌, subst}
use mathlib.Core.Bool.{Bool, true, false, false≢true, ◌||◌}
use mathlib.Core.List.{List}
use Prim.Native.Nat.{ℕ, ◌+◌, ◌-◌, ◌≤◌, ◌<◌}
use native.Mathlib.Nat.{not-suc-le-zero}
use native.Mathlib.Omega.{arith}
use lib.ListN.{length, get_or, take, drop, length-drop}
use lib.Seq.{get_or-take, get_or-drop, length-take-le}
use borrow.Author.Count.{below_more}
use Rattle.ranking.specs.Row.{block}
use Rattle.ranking.proofs.any_in_block.Invariants.{Found}
use Rattle.ranking.proofs.any_in_block.Goals as goal

module _ {answers : ℕ → Bool → Type 0} {places : List ℕ} where
  none_passed : Found answers places 0 false
  none_passed = record { some = λ e. absurd (false≢true e); none = λ e k h. absurd (not-suc-le-zero h) }

  one_more : {n : ℕ} (found passes : Bool) → Found answers places n found → answers (get_or places n 0) passes → Found answers places (n + 1) (found || passes)
  one_more {n} true passes old here =
      record {
        some = λ e. let (k, h, passed) = old.some refl in (k, omega arith, passed);
        none = λ e. absurd (false≢true (sym e));
      }
  one_more {n} false true old here = record { some = λ e. (n, omega arith, here); none = λ e. absurd (false≢true (sym e)) }
  one_more {n} false false old here = record { some = λ e. absurd (false≢true e); none = λ e. below_more _ _ (old.none refl) here }

-- the places of the block, as the code lends them
module _ (places : List ℕ) (from : ℕ) (fits : from + block ≤ length places) where
  abbrev lent : List ℕ
  lent = take (from + 16 - from) (drop from places)

  whole : length lent ≡ block
  whole = length-take-le (from + 16 - from) (drop from places) (omega (arith, length-drop from places)) ∙ omega arith

  same : (k : ℕ) → k < block → get_or lent k 0 ≡ get_or places (from + k) 0
  same k h = get_or-take (from + 16 - from) (drop from places) k 0 (omega arith) ∙ get_or-drop from places k 0

pub loop-place-init : goal.loop-place-init
loop-place-init g c = none_passed

pub loop-place-preserved : goal.loop-place-preserved
loop-place-preserved g c = one_more c.loop-place.found c.test-found.result c.loop-place.invariant c.test-found.ensures

pub returns : goal.returns
returns g c =
    let l = c.loop-place in
    let a = c.args in
    let all : l.place-index ≡ block = omega (arith, whole a.places.now a.from c.requires.block_in_bounds) in
    let place = same a.places.now a.from c.requires.block_in_bounds in
    record {
      some = λ e.
          let (k, h, passes) = l.invariant.some e in
          let inside : k < block = omega arith in
          (k, inside, subst (λ (u : ℕ). goal.F-post g a.test u true) (place k inside) passes);
      none = λ e k h. subst (λ (u : ℕ). goal.F-post g a.test u false) (place k h) (l.invariant.none e k (omega arith));
    }
