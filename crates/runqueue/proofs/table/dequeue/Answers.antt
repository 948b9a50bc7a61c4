-- `runqueue::table::dequeue` meets its contract: the row's part of the flat table loses the task, and its count is one less.
-- Assumes nothing.
use mathlib.Core.Path.{◌≡◌, sym, ap, ◌∙◌, subst}
use Prim.Native.Nat.{ℕ, suc, ◌+◌, ◌-◌, ◌*◌, ◌≤◌}
use mathlib.Core.List.{List}
use native.Mathlib.Omega.{arith}
use lib.ListN.{length, get_or, set}
use Rattle.rules.specs.Lists.{In, delete}
use Rattle.rules.specs.Tables.{padded}
use Rattle.laws.proofs.Lists.{length_delete}
use Rattle.runqueue.specs.Table.{row_at}
use Rattle.runqueue.proofs.Flat.{count_is, rows_fit, counts_become, lent_held, lent_row, lent_become}
use Rattle.runqueue.proofs.table.dequeue.Goals.{Start}
use Rattle.runqueue.proofs.table.dequeue.Goals as goal

-- ---- what the caller lent

module _ (c : Start) where
  abbrev row : List ℕ
  row = let a = c.args in row_at a.counts.now a.rows.now a.cpu

  -- the row without the task
  abbrev shorter : List ℕ
  shorter = delete c.args.task row

  fit : let a = c.args in 512 * a.cpu + 512 ≤ length a.rows.now
  fit = let a = c.args in rows_fit a.counts.now a.rows.now c.requires.holds_rows a.cpu c.requires.cpu_in_bounds

  counted : let a = c.args in get_or a.counts.now a.cpu 0 ≡ length row
  counted = let a = c.args in count_is a.counts.now a.rows.now c.requires.holds_rows a.cpu c.requires.cpu_in_bounds

  one_less_lem : let a = c.args in suc (length shorter) ≡ get_or a.counts.now a.cpu 0
  one_less_lem = length_delete c.args.task row c.requires.stands ∙ sym counted

pub remove-requires : goal.remove-requires
remove-requires c =
    let a = c.args in record {
      holds_row = lent_held c.requires.holds_rows a.cpu c.requires.cpu_in_bounds;
      stands = subst (In a.task) (sym (lent_row c.requires.holds_rows a.cpu c.requires.cpu_in_bounds)) c.requires.stands;
    }

pub returns : goal.returns
returns c =
    let a = c.args in
    let less = shorter (goal.at.returns c).Start in
    let part = c.remove.ensures ∙ ap (λ (r : List ℕ). padded (delete a.task r)) (lent_row c.requires.holds_rows a.cpu c.requires.cpu_in_bounds) in
    let count : get_or a.counts.now a.cpu 0 - 1 ≡ length less = omega (arith, one_less_lem (goal.at.returns c).Start) in record {
      rows_are = lent_become c.requires.holds_rows a.cpu c.requires.cpu_in_bounds less part;
      counts_are = ap (set a.counts.now a.cpu) count ∙ counts_become a.counts.now a.rows.now c.requires.holds_rows a.cpu c.requires.cpu_in_bounds less;
    }

pub overflow_mul-start : goal.overflow_mul-start
overflow_mul-start c = omega (arith, fit (goal.at.overflow_mul-start c).Start)

pub overflow_add-start : goal.overflow_add-start
overflow_add-start c = omega (arith, fit (goal.at.overflow_add-start c).Start)

pub offset_bounds-rows-start : goal.offset_bounds-rows-start
offset_bounds-rows-start c = omega (arith, fit (goal.at.offset_bounds-rows-start c).Start)

pub slice_bounds-remove-end : goal.slice_bounds-remove-end
slice_bounds-remove-end c = omega (arith, fit (goal.at.slice_bounds-remove-end c).Start)

pub overflow_sub-counts : goal.overflow_sub-counts
overflow_sub-counts c = omega (arith, one_less_lem (goal.at.overflow_sub-counts c).Start)
