-- `runqueue::table::enqueue` meets its contract: the row's part of the flat table takes the task in, and its count is one more.
-- Assumes nothing.
use mathlib.Core.Path.{◌≡◌, sym, ap, ◌∙◌, subst}
use Prim.Native.Nat.{ℕ, suc, ◌+◌, ◌*◌, ◌≤◌, ◌<◌}
use mathlib.Core.List.{List}
use native.Mathlib.Omega.{arith}
use lib.ListN.{length, get_or, set, take}
use lib.Seq.{get_or-take}
use Rattle.rules.specs.Lists.{In, Falling}
use Rattle.rules.specs.Machine.{queued, entry_key}
use Rattle.rules.specs.Tables.{padded}
use Rattle.laws.proofs.Lists.{in_get_or, length_insert}
use Rattle.runqueue.specs.Table.{row_at}
use Rattle.runqueue.proofs.Flat.{count_is, rows_fit, counts_become, lent_part, lent_held, lent_row, lent_become}
use Rattle.runqueue.proofs.table.enqueue.Goals.{Start}
use Rattle.runqueue.proofs.table.enqueue.Goals as goal

tasks_in : (part : List ℕ) (count : ℕ) (r : List ℕ) → take count part ≡ r → count ≡ length r → ((u : ℕ) → In u r → u < 512) → (i : ℕ) → i < count → get_or part i 0 < 512
tasks_in part count r e k t i h =
    let same : get_or r i 0 ≡ get_or part i 0 = ap (λ (l : List ℕ). get_or l i 0) (sym e) ∙ get_or-take count part i 0 h in
    subst (λ (u : ℕ). u < 512) same (t (get_or r i 0) (in_get_or r i (omega arith)))

-- ---- what the caller lent

module _ (c : Start) where
  abbrev row : List ℕ
  row = let a = c.args in row_at a.counts.now a.rows.now a.cpu

  -- the row with the task
  abbrev joins : List ℕ → List ℕ
  joins r = let a = c.args in queued (entry_key a.front (get_or a.prio.now a.task 0)) (λ (u : ℕ). get_or a.prio.now u 0) a.task r

  fit : let a = c.args in 512 * a.cpu + 512 ≤ length a.rows.now
  fit = let a = c.args in rows_fit a.counts.now a.rows.now c.requires.holds_rows a.cpu c.requires.cpu_in_bounds

  counted : let a = c.args in get_or a.counts.now a.cpu 0 ≡ length row
  counted = let a = c.args in count_is a.counts.now a.rows.now c.requires.holds_rows a.cpu c.requires.cpu_in_bounds

  room : let a = c.args in get_or a.counts.now a.cpu 0 < 512
  room =
      let free : length row < 512 = c.requires.joinable.room in
      omega (arith, counted)

pub insert-requires : goal.insert-requires
insert-requires c =
    let s = (goal.at.insert-requires c).Start in
    let a = c.args in
    let join = c.requires.joinable in
    let taken = lent_row c.requires.holds_rows a.cpu c.requires.cpu_in_bounds in
    let tasks = tasks_in (lent_part a.rows.now a.cpu) (get_or a.counts.now a.cpu 0) (row s) taken (counted s) join.tasks in
    let falling = subst (Falling (λ (u : ℕ). get_or a.prio.now u 0)) (sym taken) join.falling in record {
      holds_row = lent_held c.requires.holds_rows a.cpu c.requires.cpu_in_bounds;
      count_lt_task_places = room s;
      prio_len = c.requires.prio_len;
      task_numbers = tasks;
      falling = falling;
    }

pub returns : goal.returns
returns c =
    let s = (goal.at.returns c).Start in
    let a = c.args in
    let more = joins s (row s) in
    let part =
    c.insert.ensures ∙ ap (λ (x : ℕ). padded (queued x (λ (u : ℕ). get_or a.prio.now u 0) a.task (take (get_or a.counts.now a.cpu 0) (lent_part a.rows.now a.cpu)))) c.entry_key-key.ensures
    ∙ ap (λ (r : List ℕ). padded (joins s r)) (lent_row c.requires.holds_rows a.cpu c.requires.cpu_in_bounds) in
    let size : length more ≡ suc (length (row s)) = length_insert _ a.task (row s) in
    let count : get_or a.counts.now a.cpu 0 + 1 ≡ length more = omega (arith, counted s) in record {
      rows_are = lent_become c.requires.holds_rows a.cpu c.requires.cpu_in_bounds more part;
      counts_are = ap (set a.counts.now a.cpu) count ∙ counts_become a.counts.now a.rows.now c.requires.holds_rows a.cpu c.requires.cpu_in_bounds more;
    }

pub overflow_mul-start : goal.overflow_mul-start
overflow_mul-start c = omega (arith, fit (goal.at.overflow_mul-start c).Start)

pub overflow_add-start : goal.overflow_add-start
overflow_add-start c = omega (arith, fit (goal.at.overflow_add-start c).Start)

pub offset_bounds-rows-start : goal.offset_bounds-rows-start
offset_bounds-rows-start c = omega (arith, fit (goal.at.offset_bounds-rows-start c).Start)

pub slice_bounds-insert-end : goal.slice_bounds-insert-end
slice_bounds-insert-end c = omega (arith, fit (goal.at.slice_bounds-insert-end c).Start)
