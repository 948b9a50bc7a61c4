-- `rowcheck::row::level_fits` meets its contract. Assumes nothing.
use mathlib.Core.Path.{◌≡◌, refl, sym, ◌∙◌}
use Prim.Native.Nat.{ℕ, ◌+◌, ◌<◌}
use lib.ListN.{length, get_or}
use mathlib.Core.List.{List, [], ◌∷◌}
use native.Mathlib.Omega.{arith}
use borrow.Author.Tests.{eqb-true, eqb-false, eq-eqb}
use lib.Dec.{eqb}
use native.Mathlib.Nat.{not-suc-le-zero, suc-ne-zero}
use Rattle.rules.specs.Machine.{row_level, level_of}
use Rattle.rowcheck.proofs.Saying.{say}
use Rattle.rowcheck.proofs.row.level_fits.Goals as goal

level_first : (p : ℕ → ℕ) (idle : ℕ) (tasks : List ℕ) → 0 < length tasks → row_level p idle tasks ≡ level_of (p (get_or tasks 0 0))
level_first p idle [] l = absurd (not-suc-le-zero l)
level_first p idle (x ∷ tasks) l = refl

level_none : (p : ℕ → ℕ) (idle : ℕ) (tasks : List ℕ) → length tasks ≡ 0 → row_level p idle tasks ≡ idle
level_none p idle [] e = refl
level_none p idle (x ∷ tasks) e = absurd (suc-ne-zero (length tasks) e)

pub returns-then-is_empty : goal.returns-then-is_empty
returns-then-is_empty c =
    let a = c.args in
    let e : row_level (λ u. get_or a.prio.now u 0) a.idle a.tasks.now ≡ a.idle = level_none (λ u. get_or a.prio.now u 0) a.idle a.tasks.now (eqb-true (length a.tasks.now) 0 (sym c.is_empty.ensures ∙ c.if-is_empty.true)) in
    say (eqb a.level a.idle) (λ t. eqb-true _ _ t ∙ sym e) (λ l. eq-eqb _ _ (l ∙ e))

pub returns : goal.returns
returns c =
    let a = c.args in
    let e : row_level (λ u. get_or a.prio.now u 0) a.idle a.tasks.now ≡ get_or a.prio.now (get_or a.tasks.now 0 0) 0 + 2 =
    level_first (λ u. get_or a.prio.now u 0) a.idle a.tasks.now (omega (arith, eqb-false (length a.tasks.now) 0 (sym c.is_empty.ensures ∙ c.if-is_empty.false))) in
    say (eqb a.level (get_or a.prio.now (get_or a.tasks.now 0 0) 0 + 2)) (λ t. eqb-true _ _ t ∙ sym e) (λ l. eq-eqb _ _ (l ∙ e))
