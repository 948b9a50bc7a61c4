-- `choosing::foremost` meets its contract.
-- Assumes nothing.
use mathlib.Core.Path.{subst}
use Prim.Native.Nat.{ℕ}
use Rattle.std.specs.Prelude as code
use Rattle.laws.specs.Limited.{Limited}
use Rattle.hinting.specs.Hinted.{ruled}
use Rattle.choosing.proofs.Steps.{leads_new}
use Rattle.choosing.proofs.foremost.Goals as goal

pub returns-in_default : goal.returns-in_default
returns-in_default c =
    λ m l h.
    let few = c.args.few in
    leads_new l few.new (subst (λ (o : code.Option ℕ). Limited m (ruled o) (ruled few.new)) c.in_default.is h)
