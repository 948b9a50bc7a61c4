-- `runqueue::table::reorder` meets its contract: in the row's part of the flat table the task takes another place, and its count is as it was.
-- Assumes nothing.
use mathlib.Core.Path.{◌≡◌, sym, ap, ◌∙◌, subst}
use Prim.Native.Nat.{ℕ, ◌+◌, ◌*◌, ◌≤◌}
use mathlib.Core.List.{List}
use native.Mathlib.Omega.{arith}
use lib.ListN.{length, get_or, set, take}
use lib.Seq.{set-get_or}
use Rattle.rules.specs.Lists.{delete}
use Rattle.rules.specs.Machine.{queued, entry_key}
use Rattle.rules.specs.Tables.{padded}
use Rattle.laws.proofs.Lists.{length_delete, length_insert}
use Rattle.runqueue.specs.Row.{Reorderable}
use Rattle.runqueue.specs.Table.{row_at}
use Rattle.runqueue.proofs.Flat.{count_is, rows_fit, counts_become, lent_part, lent_held, lent_row, lent_become}
use Rattle.runqueue.proofs.table.reorder.Goals.{Start}
use Rattle.runqueue.proofs.table.reorder.Goals as goal

-- ---- what the caller lent

module _ (c : Start) where
  abbrev row : List ℕ
  row = let a = c.args in row_at a.counts.now a.rows.now a.cpu

  -- the row with the task put in by this key
  abbrev joins : ℕ → List ℕ → List ℕ
  joins key r = let a = c.args in queued key (λ (u : ℕ). get_or a.prio.now u 0) a.task (delete a.task r)

  fit : let a = c.args in 512 * a.cpu + 512 ≤ length a.rows.now
  fit = let a = c.args in rows_fit a.counts.now a.rows.now c.requires.holds_rows a.cpu c.requires.cpu_in_bounds

  may : Reorderable c.args.prio.now c.args.task row
  may = c.requires.reorderable

pub reorder-requires : goal.reorder-requires
reorder-requires c =
    let a = c.args in
    let taken = lent_row c.requires.holds_rows a.cpu c.requires.cpu_in_bounds in record {
      holds_row = lent_held c.requires.holds_rows a.cpu c.requires.cpu_in_bounds;
      prio_len = c.requires.prio_len;
      reorderable = subst (Reorderable a.prio.now a.task) (sym taken) (may (goal.at.reorder-requires c).Start);
    }

pub returns : goal.returns
returns c =
    let s = (goal.at.returns c).Start in
    let a = c.args in
    let key = entry_key a.front (get_or a.prio.now a.task 0) in
    let new = joins s key (row s) in
    let part =
    c.reorder.ensures ∙ ap (λ (x : ℕ). padded (joins s x (take (get_or a.counts.now a.cpu 0) (lent_part a.rows.now a.cpu)))) c.entry_key-key.ensures
    ∙ ap (λ (r : List ℕ). padded (joins s key r)) (lent_row c.requires.holds_rows a.cpu c.requires.cpu_in_bounds) in
    let count : get_or a.counts.now a.cpu 0 ≡ length new =
    count_is a.counts.now a.rows.now c.requires.holds_rows a.cpu c.requires.cpu_in_bounds
    ∙ sym (length_insert _ a.task (delete a.task (row s)) ∙ length_delete a.task (row s) (may s).stands) in record {
      rows_are = lent_become c.requires.holds_rows a.cpu c.requires.cpu_in_bounds new part;
      counts_are = sym (ap (set a.counts.now a.cpu) (sym count) ∙ set-get_or a.counts.now a.cpu 0) ∙ counts_become a.counts.now a.rows.now c.requires.holds_rows a.cpu c.requires.cpu_in_bounds new;
    }

pub overflow_mul-start : goal.overflow_mul-start
overflow_mul-start c = omega (arith, fit (goal.at.overflow_mul-start c).Start)

pub overflow_add-start : goal.overflow_add-start
overflow_add-start c = omega (arith, fit (goal.at.overflow_add-start c).Start)

pub offset_bounds-rows-start : goal.offset_bounds-rows-start
offset_bounds-rows-start c = omega (arith, fit (goal.at.offset_bounds-rows-start c).Start)

pub slice_bounds-reorder-end : goal.slice_bounds-reorder-end
slice_bounds-reorder-end c = omega (arith, fit (goal.at.slice_bounds-reorder-end c).Start)
