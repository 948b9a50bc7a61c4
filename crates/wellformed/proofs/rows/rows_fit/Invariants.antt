-- `wellformed::rows::rows_fit` meets its contract. The loop's invariant: the rows passed are right, and the set has the tasks that stand in
-- them. Assumes nothing.
use mathlib.Core.Path.{◌≡◌}
use mathlib.Core.Bool.{cond}
use Rattle.bits.specs.Bit.{bit}
use Rattle.rules.specs.Machine.{invalid}
use Prim.Native.Nat.{ℕ, ◌<◌}
use lib.ListN.{length, get_or}
use Rattle.rowcheck.specs.Placed.{mark, Row}
use Rattle.wellformed.specs.Passes.{part, standings}
use Rattle.wellformed.proofs.rows.rows_fit.Given as goal

abbrev pub invariant-loop-c : goal.invariant-loop-c
invariant-loop-c l =
    (length l.marks ≡ 8) ×
    ((k : ℕ) → k < l.c → Row l.state l.prio l.cpu (part l.rows k) k (get_or l.counts k 0) (get_or l.flags k 0) (cond (bit l.online k) (get_or l.flags k 0) invalid) (get_or l.levels k 0)) ×
    ((u : ℕ) → mark l.marks u ≡ standings l.counts l.rows l.c u)
