-- `wellformed::columns::task_fits` meets its contract. Assumes nothing.
use mathlib.Core.Path.{◌≡◌, sym, ap, ◌∙◌}
use mathlib.Core.Bool.{Bool, true, ◌&&◌, ◌||◌}
use native.Mathlib.Omega.{arith}
use lib.Dec.{eqb}
use Rattle.bits.proofs.Word.{bit_of_and}
use Rattle.rules.specs.Machine.{Task}
use Rattle.rules.specs.WellFormed.{fits}
use Rattle.wellformed.specs.Passes.{task, ranges_fit}
use Rattle.wellformed.proofs.Sound.{sound_free, sound_out, sound_in, fits_cpu}
use Rattle.wellformed.proofs.columns.task_fits.Goals.{Else-not-in_range, Start}
use Rattle.wellformed.proofs.columns.task_fits.Goals as goal

abbrev given : Start → Task
given c = let a = c.args in task a.state a.policy a.prio a.cpu a.slice a.mask

-- the test of W2 was passed
ranged : (c : Else-not-in_range) → let k = c in fits k.args.n k.args.full (given (goal.at.Else-not-in_range k).Start) ≡ true
unfolding ranges_fit
ranged c = let k = c in sym k.in_range.ensures ∙ k.if-not-in_range.false

pub returns-then-state-eq-FREE : goal.returns-then-state-eq-FREE
returns-then-state-eq-FREE c = sym (sound_free c.args.placed c.args.n c.args.full c.args.online (given (goal.at.returns-then-state-eq-FREE c).Start) c.if-state-eq-FREE.true)

pub returns-then-not-in_range : goal.returns-then-not-in_range
unfolding ranges_fit
returns-then-not-in_range c =
    let out = sym c.in_range.ensures ∙ c.if-not-in_range.true in
    sym (sound_out c.args.placed c.args.n c.args.full c.args.online (given (goal.at.returns-then-not-in_range c).Start) c.if-state-eq-FREE.false out)

pub test_bit-requires : goal.test_bit-requires
test_bit-requires c =
    let low = fits_cpu c.args.n c.args.full (given (goal.at.test_bit-requires c).Start) (ranged (goal.at.test_bit-requires c).Else-not-in_range) in
    omega arith

pub returns : goal.returns
returns c =
    let a = c.args in
    ap (λ (b : Bool). eqb a.state 1 || (eqb a.state 2 && a.placed && b)) (c.test_bit.ensures ∙ bit_of_and a.mask a.online a.cpu)
    ∙ sym (sound_in a.placed a.n a.full a.online (given (goal.at.returns c).Start) c.if-state-eq-FREE.false (ranged (goal.at.returns c).Else-not-in_range))
