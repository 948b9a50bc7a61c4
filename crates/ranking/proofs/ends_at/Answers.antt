-- `ranking::ends_at` meets its contract. Assumes nothing.
use borrow.Author.Tests.{leb-true, leb-false}
use mathlib.Core.Path.{◌≡◌, sym}
use mathlib.Core.Bool.{false≢true}
use Prim.Native.Nat.{ℕ, ◌<◌}
use native.Mathlib.Omega.{arith}
use Rattle.ranking.proofs.ends_at.Goals as goal

none : {k : ℕ} → k ≡ 0 → 0 < k → ⊥
none e h = omega arith

pub returns-then-at-eq0 : goal.returns-then-at-eq0
returns-then-at-eq0 c = record { yes = λ e h. absurd (none c.if-at-eq0.true h); no = λ e. absurd (false≢true (sym e)) }

pub returns : goal.returns
returns c = record { no = λ e. (omega arith, leb-false _ _ e); yes = λ e h. leb-true _ _ e }
