-- `under::fill` meets its contract. The loop's invariant: the levels passed have the CPUs below them.
-- Assumes nothing.
use mathlib.Core.Path.{◌≡◌, sym, ap, ap₂, ◌∙◌}
use mathlib.Core.List.{List}
use Prim.Native.Nat.{ℕ, suc, ◌+◌, ◌-◌, ◌≤◌, ◌<◌}
use native.Mathlib.Omega.{arith}
use borrow.Author.Count.{below_more}
use lib.Bits.{bit_or}
use lib.ListN.{length, get_or, set, length-set}
use lib.Seq.{get_or-set_same, get_or-set_other}
use Rattle.levels.specs.Level.{level_count}
use Rattle.levels.proofs.Moved.{mask_at_lem}
use Rattle.under.specs.Under.{under_at}
use Rattle.under.proofs.Below.{under_zero, under_next, under_ext}
use Rattle.under.proofs.fill.Invariants.{Filled}
use Rattle.under.proofs.fill.Goals as goal

abbrev next_word : List ℕ → List ℕ → ℕ → ℕ
next_word masks under level = bit_or (get_or under (level - 1) 0) (get_or masks (level - 1) 0)

first : (under : List ℕ) (levels : List ℕ) → get_or under 0 0 ≡ 0 → (j : ℕ) → j < 1 → get_or under j 0 ≡ under_at levels j
first under levels e j h =
    let z : j ≡ 0 = omega arith in
    ap (λ (i : ℕ). get_or under i 0) z ∙ e ∙ sym (under_zero levels) ∙ ap (under_at levels) (sym z)

fill_more : (masks under : List ℕ) (level : ℕ) → length under ≡ level_count → 1 ≤ level → level < level_count → Filled masks under level
    → Filled masks (set under level (next_word masks under level)) (level + 1)
fill_more masks under level size some h filled levels is =
    let before : suc (level - 1) ≡ level = omega arith in
    below_more _ _ (λ j l. get_or-set_other under level j (next_word masks under level) 0 (λ e. omega arith) ∙ filled levels is j l)
    (get_or-set_same under level (next_word masks under level) 0 (omega (arith, size))
    ∙ ap₂ bit_or (filled levels is (level - 1) (omega arith)) (ap (λ (ms : List ℕ). get_or ms (level - 1) 0) is ∙ mask_at_lem levels (level - 1) (omega arith))
    ∙ under_next levels (level - 1) ∙ ap (under_at levels) before)

pub loop-level-init : goal.loop-level-init
loop-level-init c = (c.requires.0, λ levels is. first c.args.under.now levels c.requires.1)

pub loop-level-preserved : goal.loop-level-preserved
loop-level-preserved c =
    let l = c.loop-level in
    let ms = c.args.masks.now in (
      length-set l.under l.level (next_word ms l.under l.level) ∙ l.invariant.0,
      fill_more ms l.under l.level l.invariant.0 (omega arith) (omega arith) l.invariant.1,
    )

pub returns : goal.returns
returns c =
    let l = c.loop-level in
    λ levels is. under_ext levels l.under l.invariant.0 (λ j h. l.invariant.1 levels is j (omega arith))
