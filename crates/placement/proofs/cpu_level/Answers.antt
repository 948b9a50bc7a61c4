-- `placement::cpu_level` meets its contract.
-- Assumes nothing.
use mathlib.Core.Path.{sym, ◌∙◌}
use mathlib.Core.List.{List}
use Prim.Native.Nat.{ℕ, ◌<◌}
use native.Mathlib.Omega.{arith}
use lib.ListN.{length, get_or}
use Rattle.runqueue.specs.Table.{row_at}
use Rattle.runqueue.proofs.Flat.{count_is, rows_fit}
use Rattle.placement.proofs.Order.{level_empty, level_first, first_in}
use Rattle.placement.proofs.cpu_level.Goals.{Start}
use Rattle.placement.proofs.cpu_level.Goals as goal

-- the row as it is lent, the priorities, and the flag
module _ (c : Start) where
  abbrev row : List ℕ
  row = let x = c.args in row_at x.counts.now x.rows.now x.cpu

  abbrev prio : ℕ → ℕ
  prio u = get_or c.args.prio.now u 0

  abbrev flag : ℕ
  flag = get_or c.args.flags.now c.args.cpu 0

pub of_flag-requires : goal.of_flag-requires
of_flag-requires c = c.requires.flag_bound

pub returns-then-counts-cpu-eq0 : goal.returns-then-counts-cpu-eq0
returns-then-counts-cpu-eq0 c =
    let s = (goal.at.returns-then-counts-cpu-eq0 c).Start in
    let x = c.args in
    let count = count_is x.counts.now x.rows.now c.requires.holds_rows x.cpu c.requires.cpu_has_row in
    c.of_flag.ensures ∙ level_empty (prio s) (flag s) (row s) (sym count ∙ c.if-counts-cpu-eq0.true)

pub first_level-requires : goal.first_level-requires
first_level-requires c =
    let x = c.args in
    let count = count_is x.counts.now x.rows.now c.requires.holds_rows x.cpu c.requires.cpu_has_row in
    let fit = rows_fit x.counts.now x.rows.now c.requires.holds_rows x.cpu c.requires.cpu_has_row in
    let some : 0 < length (row (goal.at.first_level-requires c).Start) = omega (arith, c.if-counts-cpu-eq0.false) in
    let first = c.requires.tasks _ (first_in x.counts.now x.rows.now c.requires.holds_rows x.cpu c.requires.cpu_has_row some) in record {
      cpu_has_row = omega arith;
      prio_len = c.requires.prio_len;
      first_is_task = first.0;
      first_priority = first.1;
    }

pub returns : goal.returns
returns c =
    let s = (goal.at.returns c).Start in
    let x = c.args in
    let count = count_is x.counts.now x.rows.now c.requires.holds_rows x.cpu c.requires.cpu_has_row in
    let some : 0 < length (row s) = omega (arith, c.if-counts-cpu-eq0.false) in
    c.first_level.ensures ∙ level_first x.counts.now x.rows.now c.requires.holds_rows x.cpu c.requires.cpu_has_row (prio s) (flag s) some
