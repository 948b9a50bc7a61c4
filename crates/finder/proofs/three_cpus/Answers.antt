-- `finder::three_cpus`: each level that is set is known, and the record stays whole from level to level.
use Rattle.std.proofs.Common.{◌≡◌, ℕ, ◌<◌, set, arith}
use mathlib.Core.Path.{refl, subst⁻¹}
use Rattle.levels.specs.declared.record.Record.{Record}
use Rattle.levels.specs.Level.{known, level_count}
use Rattle.levels.specs.Record.{Whole, record_of, fresh_levels}
use Rattle.levels.proofs.Fresh.{fresh_whole}
use Rattle.levels.proofs.Whole.{whole_set, level_known}
use Rattle.finder.proofs.three_cpus.Goals as goal

fresh : (r : Record) → r ≡ record_of (fresh_levels 3) → Whole r
fresh r made = subst⁻¹ Whole made (fresh_whole 3 (omega arith))

stepped : (r q : Record) (c l : ℕ) → Whole r → l < level_count → q ≡ record_of (set r.levels c l) → Whole q
stepped r q c l w h made = subst⁻¹ Whole made (whole_set r w c l (level_known l h))

pub set_level-r-requires-clause-whole : goal.set_level-r-requires-clause-whole
set_level-r-requires-clause-whole g c = fresh c.fresh-r.result c.fresh-r.ensures

pub set_level-r-requires-clause-number_value : goal.set_level-r-requires-clause-number_value
set_level-r-requires-clause-number_value g c = level_known c.of_priority.result.number (omega (arith, c.of_priority.ensures))

pub set_level-r-requires-2-clause-whole : goal.set_level-r-requires-2-clause-whole
set_level-r-requires-2-clause-whole g c =
    let none = fresh c.fresh-r.result c.fresh-r.ensures in
    stepped c.fresh-r.result c.set_level-r.result 0 c.of_priority.result.number none (omega (arith, c.of_priority.ensures)) c.set_level-r.ensures

pub set_level-r-requires-2-clause-number_value : goal.set_level-r-requires-2-clause-number_value
set_level-r-requires-2-clause-number_value g c = level_known 1 (omega arith)

pub set_level-r-requires-3-clause-whole : goal.set_level-r-requires-3-clause-whole
set_level-r-requires-3-clause-whole g c =
    let none = fresh c.fresh-r.result c.fresh-r.ensures in
    let one = stepped c.fresh-r.result c.set_level-r.result 0 c.of_priority.result.number none (omega (arith, c.of_priority.ensures)) c.set_level-r.ensures in
    stepped c.set_level-r.result c.set_level-r-2.result 1 1 one (omega arith) c.set_level-r-2.ensures

pub set_level-r-requires-3-clause-number_value : goal.set_level-r-requires-3-clause-number_value
set_level-r-requires-3-clause-number_value g c = level_known c.of_priority-2.result.number (omega (arith, c.of_priority-2.ensures))

pub set_level-r-requires-4-clause-whole : goal.set_level-r-requires-4-clause-whole
set_level-r-requires-4-clause-whole g c =
    let none = fresh c.fresh-r.result c.fresh-r.ensures in
    let one = stepped c.fresh-r.result c.set_level-r.result 0 c.of_priority.result.number none (omega (arith, c.of_priority.ensures)) c.set_level-r.ensures in
    let two = stepped c.set_level-r.result c.set_level-r-2.result 1 1 one (omega arith) c.set_level-r-2.ensures in
    let l = c.of_priority-2.result.number in
    stepped c.set_level-r-2.result c.set_level-r-3.result 2 l two (omega (arith, c.of_priority-2.ensures)) c.set_level-r-3.ensures

pub set_level-r-requires-4-clause-number_value : goal.set_level-r-requires-4-clause-number_value
unfolding known
set_level-r-requires-4-clause-number_value g c = refl
