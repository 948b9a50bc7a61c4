-- `migration::settle::migrate` meets its contract.
-- Assumes nothing.
use mathlib.Core.Path.{◌≡◌, sym, ap, ◌∙◌}
use mathlib.Core.List.{List}
use Prim.Native.Nat.{ℕ, ◌<◌}
use Rattle.cpupri.specs.Record.{record_of}
use Rattle.levels.specs.declared.record.Record.{Record}
use Rattle.rules.specs.Lists.{In, delete}
use Rattle.rules.specs.Machine.{Machine, row, levels, dequeue}
use Rattle.rules.specs.Migration.{Move, Chosen}
use Rattle.rules.specs.Tables.{flat_of, row_counts}
use Rattle.laws.proofs.Apart.{runnable_fit, runnable_place}
use Rattle.laws.proofs.Choice.{chosen}
use Rattle.laws.proofs.Room.{room_step}
use Rattle.laws.proofs.Step.{origin_small}
use Rattle.runqueue.specs.Table.{row_at, rows_with}
use Rattle.placement.specs.Held.{Held, Entering}
use Rattle.placement.proofs.Joining.{can_leave, has_left}
use Rattle.migration.specs.Settling.{Stepping}
use Rattle.mover.proofs.Candidates.{tail_in}
use Rattle.choosing.proofs.Steps.{levels_left}
use Rattle.migration.proofs.settle.migrate.Goals as goal

module _ {ps ks flat : List ℕ} {r : Record} {v : Move} (m : Machine) (s : Stepping m ps ks flat r v) where
  abbrev t : ℕ
  t = v.task

  abbrev o : ℕ
  o = v.origin

  k : Chosen m v
  k = chosen m v s.well s.applies

  leaves_small : o < m.n
  leaves_small = origin_small m v s.well k

  stands : In t (row m o)
  stands = tail_in t (row m o) k.waits

  -- the rows that it leaves
  abbrev rows' : List (List ℕ)
  rows' = rows_with ks flat o (delete t (row_at ks flat o))

  -- the mover has left, and can enter the destination's row; every level is as it was
  entering : {ks' flat' : List ℕ} → ks' ≡ row_counts rows' → flat' ≡ flat_of rows' → Entering (dequeue t o m) ps ks' flat' r t v.target
  entering {ks'} {flat'} ek ef =
      record {
        held = record {
          order = left.order;
          prio = left.prio;
          counts = left.counts;
          rows = left.rows;
          levels = s.held.levels ∙ ap record_of (sym (levels_left m s.well v k));
        };
        cpu = k.small;
        task = runnable_place m t s.well k.runs;
        high = (runnable_fit m t s.well k.runs).prio_high;
        room = room_step m v s.well s.applies;
      }
    where
      left : Held (dequeue t o m) ps ks' flat' (record_of (levels (dequeue t o m)))
      left = has_left m t s.held leaves_small stands ef ek

-- ---- the needs
pub dequeue-requires : goal.dequeue-requires
dequeue-requires c =
    let m = c.requires.stepping.0 in
    let s = c.requires.stepping.1 in let all = can_leave m c.args.step.task s.held (leaves_small m s) (stands m s) in record {
      holds_rows = all.0;
      cpu_in_bounds = all.1.0;
      stands = all.1.1;
    }

pub enter-requires : goal.enter-requires
enter-requires c =
    let m = c.requires.stepping.0 in
    let s = c.requires.stepping.1 in record {
      entering = (dequeue c.args.step.task c.args.step.origin m, entering m s c.dequeue.ensures.counts_are c.dequeue.ensures.rows_are);
      cpus_len = c.requires.cpus_len;
    }

pub returns : goal.returns
returns c =
    record {
      held = λ m s. c.enter.ensures.held (dequeue c.args.step.task c.args.step.origin m) (entering m s c.dequeue.ensures.counts_are c.dequeue.ensures.rows_are);
      cpus_set = c.enter.ensures.cpus_set;
    }
