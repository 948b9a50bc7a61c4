-- Events: eleven kinds, and what each does by itself. Levels follow at once, since they are a function of the machine.
-- Assumes nothing.
use Rattle.std.specs.Prelude.{cond, List, [], ◌∷◌, ℕ, zero, suc, ◌-◌, eqb, ltb}
use Rattle.std.proofs.Math.Option.{Option, none, some}
use Rattle.std.proofs.Math.ListN.{get_elem?}
use Rattle.bits.specs.Bit.{bit, first}
use Rattle.rules.specs.Machine.{Machine, Task, Column, task_of, free_task, row, asleep, runnable, rr}
use Rattle.rules.specs.Machine.{store, write, with_flag, enqueue_at, enqueue, dequeue, requeue, allows, lowest_allowed, without_cpu, with_cpu}

-- five numbers; those that a kind does not use are ignored
pub record Event : Type 0 where
  pub kind : ℕ
  pub who : ℕ
  pub a : ℕ
  pub b : ℕ
  pub mask : ℕ

abbrev pub event : ℕ → ℕ → ℕ → ℕ → ℕ → Event
event kind who a b k = record { kind = kind; who = who; a = a; b = b; mask = k }

pub data Kind : Type 0 where
  add remove wake sleep set_priority set_affinity tick yield set_ordinary take_offline bring_online : Kind

-- kinds by their numbers, from 1
abbrev pub kinds : List Kind
kinds = add ∷ remove ∷ wake ∷ sleep ∷ set_priority ∷ set_affinity ∷ tick ∷ yield ∷ set_ordinary ∷ take_offline ∷ bring_online ∷ []

abbrev pub kind_of : ℕ → Option Kind
kind_of zero = none
kind_of (suc i) = get_elem? kinds i

-- ---- the effect of each kind

-- asleep, on the lowest-numbered CPU of its mask, online or not, with a full slice
abbrev pub added : Machine → Event → Task
added m e =
    record {
      state = asleep;
      policy = e.a;
      prio = e.b;
      cpu = first (bit e.mask) m.n;
      slice = m.full;
      mask = e.mask;
    }

-- where a task wakes: on its CPU if that is allowed, else on the lowest-numbered allowed one
abbrev pub wake_cpu : Machine → ℕ → ℕ
wake_cpu m t = cond (allows m (task_of m t).mask (task_of m t).cpu) (task_of m t).cpu (lowest_allowed m (task_of m t).mask)

abbrev pub woken : ℕ → Machine → Machine
woken t m = enqueue t (wake_cpu m t) (store Column.state t runnable m)

abbrev pub slept : ℕ → Machine → Machine
slept t m = store Column.state t asleep (dequeue t (task_of m t).cpu m)

-- asleep: the number only; runnable and unchanged: nothing; runnable and raised: leaves, then enters the same row, behind its equals; runnable and
-- lowered: leaves, then stands in the same row behind every higher priority and before all others of the new one
abbrev pub reprioritised : ℕ → ℕ → Machine → Machine
reprioritised t p m =
    cond (eqb (task_of m t).state runnable)
    (cond (eqb (task_of m t).prio p) m
    (enqueue_at (ltb p (task_of m t).prio) t (task_of m t).cpu (store Column.prio t p (dequeue t (task_of m t).cpu m))))
    (store Column.prio t p m)

-- asleep, or its CPU still allowed: the mask only; else it leaves, and enters the row of the lowest-numbered allowed CPU
abbrev pub reaffined : ℕ → ℕ → Machine → Machine
reaffined t k m =
    cond (eqb (task_of m t).state runnable)
    (cond (allows m k (task_of m t).cpu) (store Column.mask t k m)
    (enqueue t (lowest_allowed m k) (store Column.mask t k (dequeue t (task_of m t).cpu m))))
    (store Column.mask t k m)

-- a tick of the task t that runs on CPU c: RR loses one tick, and at 0 has a full slice again and goes behind its equals
abbrev pub ticked_task : ℕ → ℕ → Machine → Machine
ticked_task t c m =
    cond (eqb (task_of m t).policy rr)
    (cond (eqb ((task_of m t).slice - 1) 0) (store Column.slice t m.full (requeue t c m)) (store Column.slice t ((task_of m t).slice - 1) m))
    m

-- what is done to the first task of a row; nothing to an empty one
abbrev pub to_first : (ℕ → Machine) → Machine → List ℕ → Machine
to_first f m [] = m
to_first f m (t ∷ ts) = f t

abbrev pub ticked : ℕ → Machine → Machine
ticked c m = to_first (λ t. ticked_task t c m) m (row m c)

abbrev pub yielded : ℕ → Machine → Machine
yielded c m = to_first (λ t. requeue t c m) m (row m c)

-- the tasks ts leave row c one after the other, and each enters the row of the lowest-numbered online CPU that it is allowed
unfoldable pub evacuated : ℕ → List ℕ → Machine → Machine
evacuated c [] m = m
evacuated c (t ∷ ts) m = evacuated c ts (enqueue t (lowest_allowed m (task_of m t).mask) (dequeue t c m))

-- CPU c is offline, and its tasks leave it front to back
abbrev pub taken_offline : ℕ → Machine → Machine
taken_offline c m = evacuated c (row m c) (without_cpu c m)

abbrev pub effect_of : Kind → Event → Machine → Machine
effect_of add e m = write e.who (added m e) m
effect_of remove e m = write e.who free_task m
effect_of wake e m = woken e.who m
effect_of sleep e m = slept e.who m
effect_of set_priority e m = reprioritised e.who e.b m
effect_of set_affinity e m = reaffined e.who e.mask m
effect_of tick e m = ticked e.who m
effect_of yield e m = yielded e.who m
effect_of set_ordinary e m = with_flag e.who e.b m
effect_of take_offline e m = taken_offline e.who m
effect_of bring_online e m = with_cpu e.who m

-- the event's own effect; a number that is no kind has none
abbrev pub by_kind : {A : Type 0} → A → (Kind → A) → Option Kind → A
by_kind a f none = a
by_kind a f (some k) = f k

abbrev pub effect : Event → Machine → Machine
effect e m = by_kind m (λ k. effect_of k e m) (kind_of e.kind)
