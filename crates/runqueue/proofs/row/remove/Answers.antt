-- `runqueue::row::remove` meets its contract. Assumes nothing.
use mathlib.Core.Path.{◌≡◌, ◌∙◌, subst}
use Prim.Native.Nat.{ℕ}
use native.Mathlib.Omega.{arith}
use lib.ListN.{take}
use Rattle.rules.specs.Lists.{place}
use Rattle.runqueue.specs.Row.{Closed}
use Rattle.ranking.proofs.Held.{row_size, place_below, in_row, row_place}
use Rattle.runqueue.proofs.Queued.{closed_is}
use Rattle.runqueue.proofs.row.remove.Goals.{After-position-at}
use Rattle.runqueue.proofs.row.remove.Goals as goal

-- the place that was found is its place among the tasks
place_is : (c : After-position-at) → let k = c in k.position-at.result ≡ place k.args.task (take k.args.count k.args.row.now)
place_is c =
    let k = c in
    k.position-at.ensures ∙ row_place k.args.count k.args.row.now k.requires.holds_row k.args.task k.requires.stands

pub position-at-requires : goal.position-at-requires
position-at-requires c = record {
  row_len = row_size _ _ c.requires.holds_row;
  stands = in_row _ _ c.requires.holds_row _ c.requires.stands;
}

pub shift_down-requires : goal.shift_down-requires
shift_down-requires c =
    let a = c.args in record {
      at_lt_count = omega (arith, place_is (goal.at.shift_down-requires c).After-position-at, place_below a.count a.row.now c.requires.holds_row a.task c.requires.stands);
      count_in_bounds = omega (arith, row_size a.count a.row.now c.requires.holds_row, c.requires.holds_row.most);
    }

pub returns : goal.returns
returns c =
    let a = c.args in
    closed_is a.count a.row.now c.requires.holds_row a.task c.requires.stands c.shift_down.new.row
    (subst (λ (k : ℕ). Closed k a.count a.row.now c.shift_down.new.row) (place_is (goal.at.returns c).After-position-at) c.shift_down.ensures)
