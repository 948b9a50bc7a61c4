-- `runqueue::row::entry_key` meets its contract. Assumes nothing.
use mathlib.Core.Path.{◌≡◌, sym, ap, ◌∙◌}
use mathlib.Core.Bool.{Bool}
use Prim.Native.Nat.{suc, ◌+◌}
use native.Mathlib.Omega.{arith}
use Rattle.rules.specs.Machine.{entry_key}
use Rattle.runqueue.proofs.row.entry_key.Goals as goal

pub returns-then-front : goal.returns-then-front
returns-then-front c =
    let a = c.args in
    let more : a.priority + 1 ≡ suc a.priority = omega arith in
    more ∙ sym (ap (λ (b : Bool). entry_key b a.priority) c.if-front.true)

pub returns : goal.returns
returns c = let a = c.args in sym (ap (λ (b : Bool). entry_key b a.priority) c.if-front.false)
