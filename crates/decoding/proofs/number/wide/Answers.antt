-- `decoding::number::wide` meets its contract.
-- Assumes nothing.
use mathlib.Core.Path.{sym, ap, ◌∙◌}
use Prim.Native.Nat.{ℕ}
use Rattle.recording.specs.Layout.{number}
use Rattle.decoding.proofs.Numbers.{number_none}
use Rattle.decoding.proofs.number.wide.Goals as goal

pub returns-then-w-eq0 : goal.returns-then-w-eq0
returns-then-w-eq0 c =
    let bs = c.args.bytes.now in
    sym (ap (λ (w : ℕ). number c.args.at w bs) c.if-w-eq0.true ∙ number_none c.args.at bs)
