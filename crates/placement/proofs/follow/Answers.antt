-- `placement::follow` meets its contract.
-- Assumes nothing.
use mathlib.Core.Path.{ap, ◌∙◌}
use Prim.Native.Nat.{ℕ}
use native.Mathlib.Omega.{arith}
use lib.ListN.{length, set}
use Rattle.cpupri.specs.Record.{record_of}
use Rattle.placement.proofs.Order.{holds, cpus_counted}
use Rattle.placement.proofs.Following.{tasks_read, flag_read, level_read, level_ok, unmoved}
use Rattle.placement.proofs.follow.Goals as goal

pub cpu_level-level-requires : goal.cpu_level-level-requires
cpu_level-level-requires c =
    let m = c.requires.following.0 in
    let l = c.requires.following.1 in
    let h = l.queues in record {
      holds_rows = holds m _ _ _ _ h;
      cpu_has_row = omega (arith, cpus_counted m _ _ _ _ h, l.cpu);
      cpu_has_flag = omega (arith, ap length l.flags, l.flag_count, l.cpu);
      prio_len = ap length l.prio ∙ h.order.prios;
      tasks = tasks_read l;
      flag_bound = flag_read l;
    }

pub returns-then-level-levels : goal.returns-then-level-levels
returns-then-level-levels c = λ m l. unmoved l c.requires.whole (level_read l c.cpu_level-level.ensures) c.if-level-levels.true

pub set_level-requires : goal.set_level-requires
set_level-requires c =
    let l = c.requires.following.1 in record {
      whole = c.requires.whole;
      cpu_lt_cpu_places = omega (arith, l.cpu, l.queues.order.cpus);
      number_value = level_ok l (level_read l c.cpu_level-level.ensures);
    }

pub returns : goal.returns
returns c =
    λ m l.
    c.set_level.ensures ∙ ap (λ (v : ℕ). record_of (set c.args.levels.now c.args.cpu v)) (level_read l c.cpu_level-level.ensures)
