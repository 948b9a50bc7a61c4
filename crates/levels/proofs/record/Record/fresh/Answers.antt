-- `levels::record::Record::fresh` meets its contract. The loop's invariant: the record is that of a machine of as many CPUs as were entered.
-- Assumes nothing.
use mathlib.Core.Path.{refl, ap, ◌∙◌, subst⁻¹}
use Prim.Native.Nat.{ℕ, suc, ◌≤◌}
use native.Mathlib.Numerals.{add-one}
use native.Mathlib.Omega.{arith}
use lib.ListN.{set}
use Rattle.levels.specs.Level.{idle, known, cpu_places}
use Rattle.bits.specs.Bit.{packed, tally}
use Rattle.levels.specs.Record.{table, mask_at, count_at, masks_of, counts_of, words_of, record_of, fresh_levels, Whole}
use Rattle.levels.specs.declared.record.Record.{Record}
use Rattle.levels.proofs.Fresh.{fresh_whole, fresh_next}
use Rattle.levels.proofs.record.Record.fresh.Goals as goal

pub loop-cpu-init : goal.loop-cpu-init
unfolding record_of masks_of counts_of words_of fresh_levels table mask_at count_at packed tally
loop-cpu-init c = refl

pub set_level-requires-clause-whole : goal.set_level-requires-clause-whole
set_level-requires-clause-whole c = subst⁻¹ Whole c.loop-cpu.invariant (fresh_whole c.loop-cpu.cpu (omega arith))

pub set_level-requires-clause-number_value : goal.set_level-requires-clause-number_value
unfolding known
set_level-requires-clause-number_value c = refl

pub loop-cpu-preserved : goal.loop-cpu-preserved
unfolding record_of
loop-cpu-preserved c =
    let cpu = c.loop-cpu.cpu in
    let below : suc cpu ≤ cpu_places = omega arith in
    c.set_level.ensures
    ∙ ap (λ (r : Record). record_of (set r.levels cpu idle)) c.loop-cpu.invariant
    ∙ ap record_of (fresh_next cpu below)
    ∙ ap (λ (k : ℕ). record_of (fresh_levels k)) (rw add-one)
