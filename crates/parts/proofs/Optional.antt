-- Entering, and a level that follows if it is to.
-- Assumes nothing.
use mathlib.Core.Path.{subst}
use mathlib.Core.Bool.{Bool, true, false}
use mathlib.Core.List.{List}
use Prim.Native.Nat.{ℕ}
use Rattle.cpupri.specs.Record.{record_of, Whole}
use Rattle.levels.specs.declared.record.Record.{Record}
use Rattle.rules.specs.Machine.{Machine, levels}
use Rattle.rules.specs.Plan.{When}
use Rattle.placement.specs.Held.{Entering, Following, followed}
use Rattle.placement.proofs.Following.{still_whole}
use Rattle.parts.specs.Optional.{EnteringIf, FollowingIf}

pub may_enter : {m : Machine} {qs ns flat : List ℕ} {t c : ℕ} → EnteringIf true m qs ns flat t c → Entering m qs ns flat (record_of (levels m)) t c
may_enter l =
    let q = l.queues in
    record {
      held = record { order = q.order; prio = l.prio; counts = q.counts; rows = q.rows; levels = q.levels };
      cpu = l.may.0;
      task = l.task;
      high = l.may.1;
      room = l.may.2;
    }

pub still_whole_if : {b : Bool} {m : Machine} {qs fs ns flat : List ℕ} {c : ℕ} → FollowingIf b m qs fs ns flat c → {r : Record} → Whole r
    → Whole (record_of (followed b c m r.levels))
still_whole_if {b} {m} {qs} {fs} {ns} {flat} {c} l {r} whole = go b l.may
  where
    go : (x : Bool) → When x (Following m qs fs ns flat c) → Whole (record_of (followed x c m r.levels))
    go true f = still_whole f whole
    go false f = subst Whole whole.same whole
