-- `whole::eights::alike` meets its contract.
-- Assumes nothing.
use borrow.Author.Tests.{eqb-true}
use mathlib.Core.Path.{sym, ap, ◌∙◌}
use Prim.Native.Nat.{ℕ, ◌*◌}
use Rattle.whole.proofs.Numbers.{eight_alike}
use Rattle.whole.proofs.eights.alike.Goals as goal

pub returns : goal.returns
returns c = λ t.
    let x = c.args in
    let bytes = c.type_inv.s in
    eight_alike x.s.now (λ i. (bytes i).fits) x.at _ (bytes x.at).fits
    (sym c.eight.ensures ∙ eqb-true c.eight.result (c.from.result * 72340172838076673) t ∙ ap (λ (v : ℕ). v * 72340172838076673) c.from.ensures)
