-- `playing::share` meets its contract.
-- Assumes nothing.
use Rattle.std.proofs.Common.{Bool, cond, sym, ap, eq-eqb, ne_eqb}
use Rattle.playing.proofs.share.Goals as goal

pub returns-then-count-eq0 : goal.returns-then-count-eq0
returns-then-count-eq0 c = sym (ap (λ (b : Bool). cond b 0 c.args.d) (eq-eqb _ _ c.if-count-eq0.true))

pub returns-else-count-eq0 : goal.returns-else-count-eq0
returns-else-count-eq0 c = sym (ap (λ (b : Bool). cond b 0 c.args.d) (ne_eqb _ _ c.if-count-eq0.false))
