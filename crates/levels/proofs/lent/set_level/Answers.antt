-- `levels::lent::set_level` meets its contract: the CPU goes out of its old level, and then into the new one.
-- Assumes nothing.
use mathlib.Core.Path.{◌≡◌, refl, sym, ap, ◌∙◌, subst⁻¹}
use Prim.Native.Nat.{ℕ, ◌≤◌, ◌<◌}
use native.Mathlib.Omega.{arith}
use lib.ListN.{get_or, set}
use lib.Seq.{get_or-set_same, set-set}
use Rattle.levels.specs.Level.{level_count, invalid, known}
use Rattle.levels.specs.Record.{lent_record, record_of, Whole}
use Rattle.levels.specs.declared.record.Record.{Record}
use Rattle.levels.proofs.Whole.{record_ext, at_level, known_level, same_level, counted, count_le, left, entered, whole_set}
use Rattle.levels.proofs.lent.set_level.Goals.{then-old-invalid, else-old-invalid, Else-level-invalid, Joined-old-invalid, Start, Then-old-invalid}
use Rattle.levels.proofs.lent.set_level.Goals as goal

-- the record at the start, and where the two ways meet
abbrev was : Start → Record
was c = let a = c.args in lent_record a.masks.now a.counts.now a.words.now a.levels.now

abbrev met : Joined-old-invalid → Record
met c = let j = c.if-old-invalid in lent_record j.masks j.counts j.words j.levels

-- ---- out of the old level, which is not INVALID here

module _ (c : Then-old-invalid) where
  abbrev from : ℕ
  from = let a = c.args in get_or a.levels.now a.cpu 0

  from_known : from < level_count
  from_known = let k = c in at_level (was (goal.at.Then-old-invalid k).Start) k.requires.whole k.args.cpu k.requires.cpu_lt_cpu_places k.if-old-invalid.true

  from_counted : 1 ≤ get_or c.args.counts.now from 0
  from_counted = let k = c in counted (was (goal.at.Then-old-invalid k).Start) k.requires.whole k.args.cpu k.requires.cpu_lt_cpu_places from from_known refl

-- ---- where the two ways meet, the CPU is at INVALID

module _ (c : Joined-old-invalid) where
  gone : let a = c.args in met c ≡ record_of (set a.levels.now a.cpu invalid)
  gone =
      let k = c in
      let r = was (goal.at.Joined-old-invalid k).Start in
      let cpu = k.args.cpu in
      elim c.if-old-invalid.branch [
        | then-old-invalid w ↦
            record_ext (met c) _ w.masks-is w.counts-is w.words-is w.levels-is
            ∙ left r k.requires.whole cpu k.requires.cpu_lt_cpu_places (get_or r.levels cpu 0) (at_level r k.requires.whole cpu k.requires.cpu_lt_cpu_places w.if-old-invalid.true) refl
            w.clear_bit.result w.put_bit.result w.clear_bit.ensures w.put_bit.ensures
        | else-old-invalid w ↦ record_ext (met c) r w.masks-is w.counts-is w.words-is w.levels-is ∙ same_level r k.requires.whole cpu invalid w.if-old-invalid.false
      ]

  whole_gone : Whole (met c)
  unfolding known
  whole_gone = let k = c in subst⁻¹ Whole gone (whole_set (was (goal.at.Joined-old-invalid k).Start) k.requires.whole k.args.cpu invalid refl)

  out : get_or c.if-old-invalid.levels c.args.cpu 0 ≡ invalid
  unfolding record_of
  out =
      let k = c in
      let a = k.args in
      ap (λ (r : Record). get_or r.levels a.cpu 0) gone
      ∙ get_or-set_same a.levels.now a.cpu invalid 0 (omega (arith, k.requires.whole.places, k.requires.cpu_lt_cpu_places))

-- ---- into the new level, which is not INVALID here

to-known : (c : Else-level-invalid) → c.args.level.number < level_count
to-known c = let k = c in known_level k.args.level.number k.requires.number_value k.if-level-invalid.false

pub returns-then-level-invalid : goal.returns-then-level-invalid
returns-then-level-invalid c =
    let k = c in
    let a = k.args in
    gone (goal.at.returns-then-level-invalid k).Joined-old-invalid ∙ ap (λ (x : ℕ). record_of (set a.levels.now a.cpu x)) (sym k.if-level-invalid.true)

pub returns : goal.returns
unfolding record_of
returns c =
    let k = c in
    let a = k.args in
    let l = a.level.number in
    let j = (goal.at.returns k).Joined-old-invalid in
    entered (met j) (whole_gone j) a.cpu k.requires.cpu_lt_cpu_places l (to-known (goal.at.returns k).Else-level-invalid) (out j)
    k.set_bit.result k.set_bit-2.result k.set_bit.ensures k.set_bit-2.ensures
    ∙ ap (λ (r : Record). record_of (set r.levels a.cpu l)) (gone j)
    ∙ ap record_of (set-set a.levels.now a.cpu invalid l)

pub bounds-masks-o : goal.bounds-masks-o
bounds-masks-o c = from_known (goal.at.bounds-masks-o c).Then-old-invalid

pub bounds-masks-o-then-old-invalid : goal.bounds-masks-o-then-old-invalid
bounds-masks-o-then-old-invalid c = from_known (goal.at.bounds-masks-o-then-old-invalid c).Then-old-invalid

pub bounds-counts-o : goal.bounds-counts-o
bounds-counts-o c = from_known (goal.at.bounds-counts-o c).Then-old-invalid

pub overflow_sub-count : goal.overflow_sub-count
overflow_sub-count c = omega (arith, from_counted (goal.at.overflow_sub-count c).Then-old-invalid)

pub bounds-counts-o-then-old-invalid : goal.bounds-counts-o-then-old-invalid
bounds-counts-o-then-old-invalid c = from_known (goal.at.bounds-counts-o-then-old-invalid c).Then-old-invalid

pub bounds-words-o : goal.bounds-words-o
bounds-words-o c = omega (arith, from_known (goal.at.bounds-words-o c).Then-old-invalid)

pub bounds-words-o-then-old-invalid : goal.bounds-words-o-then-old-invalid
bounds-words-o-then-old-invalid c = omega (arith, from_known (goal.at.bounds-words-o-then-old-invalid c).Then-old-invalid)

pub bounds-masks-l : goal.bounds-masks-l
bounds-masks-l c = to-known (goal.at.bounds-masks-l c).Else-level-invalid

pub bounds-masks-l-2 : goal.bounds-masks-l-2
bounds-masks-l-2 c = to-known (goal.at.bounds-masks-l-2 c).Else-level-invalid

pub bounds-counts-l : goal.bounds-counts-l
bounds-counts-l c = to-known (goal.at.bounds-counts-l c).Else-level-invalid

pub overflow_add-counts : goal.overflow_add-counts
overflow_add-counts c =
    let k = c in
    let j = (goal.at.overflow_add-counts k).Joined-old-invalid in
    omega (arith, count_le (met j) (whole_gone j) k.args.level.number (to-known (goal.at.overflow_add-counts k).Else-level-invalid))

pub bounds-counts-l-2 : goal.bounds-counts-l-2
bounds-counts-l-2 c = to-known (goal.at.bounds-counts-l-2 c).Else-level-invalid

pub bounds-words-l : goal.bounds-words-l
bounds-words-l c = omega (arith, to-known (goal.at.bounds-words-l c).Else-level-invalid)

pub bounds-words-l-2 : goal.bounds-words-l-2
bounds-words-l-2 c = omega (arith, to-known (goal.at.bounds-words-l-2 c).Else-level-invalid)
