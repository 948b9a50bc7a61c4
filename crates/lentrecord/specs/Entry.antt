-- The entries over a record that is lent as four tables: those of the rules, and refused with 1 if one of the four has another length.
-- Assumes nothing.
use Rattle.std.specs.Prelude.{cond, ℕ}
use Rattle.cpupri.specs.Found as finder
use Rattle.levels.specs.declared.record.Record.{Record}
use Rattle.rules.specs.Entry as entry
use Rattle.rules.specs.Events.{Event}
use Rattle.rules.specs.Refusals.{bad_size}
use Rattle.rules.specs.Tables.{Tables}
use Rattle.lentrecord.specs.Lent.{lent_fits}

-- what the finder answers, put together
abbrev pub answer : ℕ → ℕ → ℕ → ℕ → finder.Answer
answer number level mask read = record { number = number; level = level; mask = mask; read = read }

-- ---- the entries

unfoldable pub lent_made : ℕ → Record → Tables → entry.Result
lent_made n r s = cond (lent_fits r) (entry.made n r s) (entry.kept bad_size r s)

unfoldable pub lent_checked : ℕ → Record → Tables → ℕ
lent_checked n r s = cond (lent_fits r) (entry.checked n r s) bad_size

unfoldable pub lent_handled : ℕ → Record → Tables → Event → entry.Result
lent_handled n r s e = cond (lent_fits r) (entry.handled n r s e) (entry.kept bad_size r s)

unfoldable pub lent_found : ℕ → Record → ℕ → ℕ → finder.Answer
lent_found n r level mask = cond (lent_fits r) (finder.answer_of (finder.found n r level mask)) (finder.without bad_size 0)
