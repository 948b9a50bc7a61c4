-- Document 01 sentence by sentence: cases that K1 to K12 do not tell apart, in the same form. The paper's words stand above each, and its
-- numbers are worked out from them. A number that a case is about is written out; another has the rules' name for it.
-- Assumes nothing.
use Rattle.std.specs.Prelude.{List, [], ◌∷◌, ◌++◌, ℕ, ◌-◌, ◌^◌, replicate}
use Rattle.rules.specs.Machine.{runnable, asleep, rr}
use Rattle.rules.specs.Events.{Event, event}
use Rattle.rules.specs.Cases.{add, add_rR, remove, wake, sleep, priority, affinity, tick, yield, ordinary, after2}
use Rattle.rules.specs.Cases.{Used, busy, idle_cpu, shared, ordinary_cpu, full_slice, task, runs, sleeps, gives, refuses, Case, case, sliced, fresh2, asleep2, runs2}

-- an RR task in row c, with the slice l
abbrev pub runs_rR : ℕ → ℕ → ℕ → ℕ → ℕ → Used
runs_rR t p c l k = task t runnable rr p c l k

-- a full slice less one tick
abbrev pub after_tick : ℕ
after_tick = 99

-- an RR task of CPU 0 that has run for one tick
abbrev pub ran_rR : List Event
ran_rR = add_rR 0 20 1 ∷ wake 0 ∷ tick 0 ∷ []

-- and sleeps
abbrev pub slept_rR : List Event
slept_rR = ran_rR ++ sleep 0 ∷ []

-- ---- events

-- "An event is five numbers: kind, who, a, b, mask. Unused ones are ignored." These would be wrong as a policy, a priority, a flag or a mask.
abbrev pub noise : ℕ
noise = 2 ^ 64 - 1

-- task 0 sleeps, or runs, where both CPUs have ordinary work: only kind 9 changes that
abbrev pub asleep_shared : List Event
asleep_shared = ordinary 0 1 ∷ ordinary 1 1 ∷ add 0 50 3 ∷ []

abbrev pub runs_shared : List Event
runs_shared = asleep_shared ++ wake 0 ∷ []

abbrev pub unused_numbers : List Case
unused_numbers =
    case 2 asleep_shared (event 2 0 noise noise noise) (gives 0 [] (ordinary_cpu ∷ ordinary_cpu ∷ []) [])
    ∷ case 2 asleep_shared (event 3 0 noise noise noise) (gives 0 [] (shared 52 (0 ∷ []) ∷ ordinary_cpu ∷ []) (runs 0 50 0 3 ∷ []))
    ∷ case 2 runs_shared (event 4 0 noise noise noise) (gives 0 [] (ordinary_cpu ∷ ordinary_cpu ∷ []) (sleeps 0 50 0 3 ∷ []))
    ∷ case 2 runs_shared (event 5 0 noise 60 noise) (gives 0 [] (shared 62 (0 ∷ []) ∷ ordinary_cpu ∷ []) (runs 0 60 0 3 ∷ []))
    ∷ case 2 runs_shared (event 6 0 noise noise 2) (gives 0 [] (ordinary_cpu ∷ shared 52 (0 ∷ []) ∷ []) (runs 0 50 1 2 ∷ []))
    ∷ case 2 runs_shared (event 7 0 noise noise noise) (gives 0 [] (shared 52 (0 ∷ []) ∷ ordinary_cpu ∷ []) (runs 0 50 0 3 ∷ []))
    ∷ case 2 runs_shared (event 8 0 noise noise noise) (gives 0 [] (shared 52 (0 ∷ []) ∷ ordinary_cpu ∷ []) (runs 0 50 0 3 ∷ []))
    ∷ case 2 runs_shared (event 9 1 noise 0 noise) (gives 0 [] (shared 52 (0 ∷ []) ∷ idle_cpu ∷ []) (runs 0 50 0 3 ∷ []))
    ∷ []

-- "Entering a row means standing behind every task of the same or a higher priority and before all lower ones"
abbrev pub entering_row : List Case
entering_row =
    case 1 (add 0 50 1 ∷ add 1 40 1 ∷ add 2 30 1 ∷ add 3 40 1 ∷ wake 0 ∷ wake 1 ∷ wake 2 ∷ []) (wake 3)
    (gives 0 [] (busy 52 (0 ∷ 1 ∷ 3 ∷ 2 ∷ []) ∷ []) (runs 0 50 0 1 ∷ runs 1 40 0 1 ∷ runs 2 30 0 1 ∷ runs 3 40 0 1 ∷ []))
    ∷ case 1 (add 0 41 1 ∷ add 1 39 1 ∷ add 2 40 1 ∷ wake 0 ∷ wake 1 ∷ []) (wake 2)
    (gives 0 [] (busy 43 (0 ∷ 2 ∷ 1 ∷ []) ∷ []) (runs 0 41 0 1 ∷ runs 1 39 0 1 ∷ runs 2 40 0 1 ∷ []))
    ∷ []

-- "When a task leaves, those behind it close up."
abbrev pub leaving_row : List Case
leaving_row =
    case 1 (add 0 50 1 ∷ add 1 40 1 ∷ add 2 30 1 ∷ wake 0 ∷ wake 1 ∷ wake 2 ∷ []) (sleep 1)
    (gives 0 [] (busy 52 (0 ∷ 2 ∷ []) ∷ []) (runs 0 50 0 1 ∷ sleeps 1 40 0 1 ∷ runs 2 30 0 1 ∷ []))
    ∷ []

-- 1, add: "asleep, CPU the lowest-numbered allowed, slice 100"
abbrev pub adding : List Case
adding =
    case 3 [] (event 1 0 2 50 6) (gives 0 [] (idle_cpu ∷ idle_cpu ∷ idle_cpu ∷ []) (task 0 1 2 50 1 100 6 ∷ []))
    ∷ case 3 (event 1 0 2 50 6 ∷ []) (event 1 1 1 40 4)
    (gives 0 [] (idle_cpu ∷ idle_cpu ∷ idle_cpu ∷ []) (task 0 1 2 50 1 100 6 ∷ task 1 1 1 40 2 100 4 ∷ []))
    ∷ []

-- 2, remove (asleep): "free"
abbrev pub removing : List Case
removing = case 2 (add 0 50 3 ∷ add 5 40 2 ∷ []) (remove 5) (gives 0 [] (idle_cpu ∷ idle_cpu ∷ []) (sleeps 0 50 0 3 ∷ [])) ∷ []

-- 3, wake (asleep): "runnable; enters the row of its CPU if allowed"
abbrev pub waking : List Case
waking =
    case 2 (after2 ++ sleep 1 ∷ sleep 0 ∷ []) (wake 1)
    (gives 0 [] (idle_cpu ∷ busy 42 (1 ∷ []) ∷ []) (sleeps 0 50 0 3 ∷ runs 1 40 1 3 ∷ []))
    ∷ []

-- "else of the lowest-numbered allowed CPU, which becomes its CPU; slice kept"
abbrev pub waking_elsewhere : List Case
waking_elsewhere =
    case 3 (slept_rR ++ affinity 0 6 ∷ []) (wake 0) (gives 0 [] (idle_cpu ∷ busy 22 (0 ∷ []) ∷ idle_cpu ∷ []) (runs_rR 0 20 1 after_tick 6 ∷ []))
    ∷ case 3 slept_rR (wake 0) (gives 0 [] (busy 22 (0 ∷ []) ∷ idle_cpu ∷ idle_cpu ∷ []) (runs_rR 0 20 0 after_tick 1 ∷ []))
    ∷ []

-- 4, sleep (runnable): "leaves its row; CPU and slice kept"
abbrev pub sleeping : List Case
sleeping =
    case 2 (add_rR 0 20 2 ∷ wake 0 ∷ tick 1 ∷ []) (sleep 0) (gives 0 [] (idle_cpu ∷ idle_cpu ∷ []) (task 0 asleep rr 20 1 after_tick 2 ∷ [])) ∷ []

-- 5, priority: "asleep: the number only"; lowered, it wakes behind its equal
abbrev pub prioritising_sleeper : List Case
prioritising_sleeper =
    case 2 (add_rR 0 50 2 ∷ wake 0 ∷ tick 1 ∷ sleep 0 ∷ affinity 0 3 ∷ []) (priority 0 60)
    (gives 0 [] (idle_cpu ∷ idle_cpu ∷ []) (task 0 asleep rr 60 1 after_tick 3 ∷ []))
    ∷ case 1 (add 0 30 1 ∷ add 1 50 1 ∷ wake 0 ∷ []) (priority 1 30)
    (gives 0 [] (busy 32 (0 ∷ []) ∷ []) (runs 0 30 0 1 ∷ sleeps 1 30 0 1 ∷ []))
    ∷ case 1 (add 0 30 1 ∷ add 1 50 1 ∷ wake 0 ∷ priority 1 30 ∷ []) (wake 1)
    (gives 0 [] (busy 32 (0 ∷ 1 ∷ []) ∷ []) (runs 0 30 0 1 ∷ runs 1 30 0 1 ∷ []))
    ∷ []

-- "unchanged, it stays": the first, and one between its equals
abbrev pub prioritising_same : List Case
prioritising_same =
    case 1 (ran_rR ++ add 1 20 1 ∷ wake 1 ∷ []) (priority 0 20)
    (gives 0 [] (busy 22 (0 ∷ 1 ∷ []) ∷ []) (runs_rR 0 20 0 after_tick 1 ∷ runs 1 20 0 1 ∷ []))
    ∷ case 1 (add 0 30 1 ∷ add 1 30 1 ∷ add 2 30 1 ∷ wake 0 ∷ wake 1 ∷ wake 2 ∷ []) (priority 1 30)
    (gives 0 [] (busy 32 (0 ∷ 1 ∷ 2 ∷ []) ∷ []) (runs 0 30 0 1 ∷ runs 1 30 0 1 ∷ runs 2 30 0 1 ∷ []))
    ∷ []

-- "raised, it goes behind its equals": to the priority of another, above all, between equals and a lower one, and on CPU 1 of two that are allowed
abbrev pub raising : List Case
raising =
    case 1 (add 0 50 1 ∷ add 1 30 1 ∷ wake 0 ∷ wake 1 ∷ []) (priority 1 50)
    (gives 0 [] (busy 52 (0 ∷ 1 ∷ []) ∷ []) (runs 0 50 0 1 ∷ runs 1 50 0 1 ∷ []))
    ∷ case 1 (add 0 50 1 ∷ add 1 30 1 ∷ wake 0 ∷ wake 1 ∷ []) (priority 1 60)
    (gives 0 [] (busy 62 (1 ∷ 0 ∷ []) ∷ []) (runs 0 50 0 1 ∷ runs 1 60 0 1 ∷ []))
    ∷ case 1 (add 0 40 1 ∷ add 1 40 1 ∷ add 2 30 1 ∷ add 3 20 1 ∷ wake 0 ∷ wake 1 ∷ wake 2 ∷ wake 3 ∷ []) (priority 3 40)
    (gives 0 [] (busy 42 (0 ∷ 1 ∷ 3 ∷ 2 ∷ []) ∷ []) (runs 0 40 0 1 ∷ runs 1 40 0 1 ∷ runs 2 30 0 1 ∷ runs 3 40 0 1 ∷ []))
    ∷ case 2 (add 0 50 3 ∷ add_rR 1 40 3 ∷ wake 1 ∷ wake 0 ∷ tick 1 ∷ []) (priority 1 45)
    (gives 0 [] (busy 52 (0 ∷ []) ∷ busy 47 (1 ∷ []) ∷ []) (runs 0 50 0 3 ∷ runs_rR 1 45 1 after_tick 3 ∷ []))
    ∷ []

-- tasks 0, 1 and 2 with the priorities p, q and r in the row of one CPU
abbrev pub three : ℕ → ℕ → ℕ → List Event
three p q r = add 0 p 1 ∷ add 1 q 1 ∷ add 2 r 1 ∷ wake 0 ∷ wake 1 ∷ wake 2 ∷ []

-- "a lowered runnable task stands behind every higher priority and before all others of the new one": it ran and is first of its new equals, so it
-- keeps running; a higher one waited, by ten and by one; between two others; and one that waited, with its slice
abbrev pub lowering : List Case
lowering =
    case 1 (three 50 30 30) (priority 0 30)
    (gives 0 [] (busy 32 (0 ∷ 1 ∷ 2 ∷ []) ∷ []) (runs 0 30 0 1 ∷ runs 1 30 0 1 ∷ runs 2 30 0 1 ∷ []))
    ∷ case 1 (three 50 40 30) (priority 0 30)
    (gives 0 [] (busy 42 (1 ∷ 0 ∷ 2 ∷ []) ∷ []) (runs 0 30 0 1 ∷ runs 1 40 0 1 ∷ runs 2 30 0 1 ∷ []))
    ∷ case 1 (three 50 31 30) (priority 0 30)
    (gives 0 [] (busy 33 (1 ∷ 0 ∷ 2 ∷ []) ∷ []) (runs 0 30 0 1 ∷ runs 1 31 0 1 ∷ runs 2 30 0 1 ∷ []))
    ∷ case 1 (three 50 31 29) (priority 0 30)
    (gives 0 [] (busy 33 (1 ∷ 0 ∷ 2 ∷ []) ∷ []) (runs 0 30 0 1 ∷ runs 1 31 0 1 ∷ runs 2 29 0 1 ∷ []))
    ∷ case 1 (add_rR 3 60 1 ∷ wake 3 ∷ tick 0 ∷ three 70 30 30 ++ add 4 40 1 ∷ wake 4 ∷ []) (priority 3 30)
    (gives 0 [] (busy 72 (0 ∷ 4 ∷ 3 ∷ 1 ∷ 2 ∷ []) ∷ [])
    (runs 0 70 0 1 ∷ runs 1 30 0 1 ∷ runs 2 30 0 1 ∷ runs_rR 3 30 0 after_tick 1 ∷ runs 4 40 0 1 ∷ []))
    ∷ []

-- its CPU's level falls with it: a task that waits on another CPU moves there; and one that goes on running before its equal is not moved, though
-- behind it it would be
abbrev pub lowering_moves : List Case
lowering_moves =
    case 2 (add 0 50 1 ∷ add 1 60 2 ∷ add 2 40 2 ∷ affinity 2 3 ∷ add 3 30 1 ∷ wake 0 ∷ wake 1 ∷ wake 2 ∷ wake 3 ∷ []) (priority 0 30)
    (gives 1 (2 ∷ 1 ∷ 0 ∷ 32 ∷ []) (busy 42 (2 ∷ 0 ∷ 3 ∷ []) ∷ busy 62 (1 ∷ []) ∷ [])
    (runs 0 30 0 1 ∷ runs 1 60 1 2 ∷ runs 2 40 0 3 ∷ runs 3 30 0 1 ∷ []))
    ∷ case 2 (add 0 50 3 ∷ add 1 30 1 ∷ add 2 10 2 ∷ wake 0 ∷ wake 1 ∷ wake 2 ∷ []) (priority 0 30)
    (gives 0 [] (busy 32 (0 ∷ 1 ∷ []) ∷ busy 12 (2 ∷ []) ∷ []) (runs 0 30 0 3 ∷ runs 1 30 0 1 ∷ runs 2 10 1 2 ∷ []))
    ∷ []

-- 6, mask: "asleep: the mask only"; W2: "A sleeper's CPU need not be allowed."
abbrev pub masking_sleeper : List Case
masking_sleeper = case 2 slept_rR (affinity 0 2) (gives 0 [] (idle_cpu ∷ idle_cpu ∷ []) (task 0 asleep rr 20 0 after_tick 2 ∷ [])) ∷ []

-- "Runnable and its CPU still allowed: the mask only": it stays before its equal, and on its CPU though a lower-numbered one is now allowed
abbrev pub masking_here : List Case
masking_here =
    case 2 (ran_rR ++ add 1 20 1 ∷ wake 1 ∷ []) (affinity 0 3)
    (gives 0 [] (busy 22 (0 ∷ 1 ∷ []) ∷ idle_cpu ∷ []) (runs_rR 0 20 0 after_tick 3 ∷ runs 1 20 0 1 ∷ []))
    ∷ case 2 (add 5 40 2 ∷ wake 5 ∷ []) (affinity 5 3) (gives 0 [] (idle_cpu ∷ busy 42 (5 ∷ []) ∷ []) (runs 5 40 1 3 ∷ []))
    ∷ []

-- "Else leaves, and enters the row of the lowest-numbered allowed CPU": CPU 1, behind task 1, and from there it migrates to the idle CPU 2
abbrev pub masking_away : List Case
masking_away =
    case 3 (ran_rR ++ add 1 60 2 ∷ wake 1 ∷ []) (affinity 0 6)
    (gives 1 (0 ∷ 1 ∷ 2 ∷ 0 ∷ []) (idle_cpu ∷ busy 62 (1 ∷ []) ∷ busy 22 (0 ∷ []) ∷ []) (runs_rR 0 20 2 after_tick 6 ∷ runs 1 60 1 2 ∷ []))
    ∷ []

-- 7, tick: "first task RR: slice less 1": that task alone
abbrev pub ticking_rR : List Case
ticking_rR =
    case 2 (add_rR 0 20 1 ∷ add_rR 1 20 1 ∷ add_rR 2 20 2 ∷ wake 0 ∷ wake 1 ∷ wake 2 ∷ []) (tick 0)
    (gives 0 [] (busy 22 (0 ∷ 1 ∷ []) ∷ busy 22 (2 ∷ []) ∷ []) (runs_rR 0 20 0 99 1 ∷ runs_rR 1 20 0 100 1 ∷ runs_rR 2 20 1 100 2 ∷ []))
    ∷ []

-- "at 0 it becomes 100 and the task leaves and enters again": behind its equal, before the lower one
abbrev pub ticking_out : List Case
ticking_out =
    case 1 (add_rR 0 20 1 ∷ add 1 20 1 ∷ add 2 10 1 ∷ wake 0 ∷ wake 1 ∷ wake 2 ∷ replicate (full_slice - 1) (tick 0)) (tick 0)
    (gives 0 [] (busy 22 (1 ∷ 0 ∷ 2 ∷ []) ∷ []) (runs_rR 0 20 0 100 1 ∷ runs 1 20 0 1 ∷ runs 2 10 0 1 ∷ []))
    ∷ []

-- "First task FIFO or row empty: nothing."
abbrev pub ticking_none : List Case
ticking_none =
    case 1 (add 0 20 1 ∷ add_rR 1 20 1 ∷ wake 0 ∷ wake 1 ∷ []) (tick 0)
    (gives 0 [] (busy 22 (0 ∷ 1 ∷ []) ∷ []) (task 0 runnable 1 20 0 100 1 ∷ runs_rR 1 20 0 100 1 ∷ []))
    ∷ case 2 (add_rR 0 20 1 ∷ wake 0 ∷ []) (tick 1) (gives 0 [] (busy 22 (0 ∷ []) ∷ idle_cpu ∷ []) (runs_rR 0 20 0 100 1 ∷ []))
    ∷ []

-- L7: "The full slice becomes a number of the machine, 1 to 1,000"; "kinds 1 and 7 use that number, and one out of range is refused with 1". Two RR
-- tasks in row [0, 1], with a full slice of so many ticks; and after k of them
abbrev pub two_rR : List Event
two_rR = add_rR 0 20 1 ∷ add_rR 1 20 1 ∷ wake 0 ∷ wake 1 ∷ []

abbrev pub ran_for : ℕ → List Event
ran_for k = two_rR ++ replicate k (tick 0)

-- of 1: each tick puts the first behind its equal; of 25: 24 ticks leave 1, the next puts it behind its equal with 25 again; of 1000: one tick leaves 999
abbrev pub full_slices : List Case
full_slices =
    sliced 1 1 [] (add_rR 0 20 1) (gives 0 [] (idle_cpu ∷ []) (task 0 asleep rr 20 0 1 1 ∷ []))
    ∷ sliced 1 1 (ran_for 0) (tick 0) (gives 0 [] (busy 22 (1 ∷ 0 ∷ []) ∷ []) (runs_rR 0 20 0 1 1 ∷ runs_rR 1 20 0 1 1 ∷ []))
    ∷ sliced 1 1 (ran_for 1) (tick 0) (gives 0 [] (busy 22 (0 ∷ 1 ∷ []) ∷ []) (runs_rR 0 20 0 1 1 ∷ runs_rR 1 20 0 1 1 ∷ []))
    ∷ sliced 25 1 (ran_for 23) (tick 0) (gives 0 [] (busy 22 (0 ∷ 1 ∷ []) ∷ []) (runs_rR 0 20 0 1 1 ∷ runs_rR 1 20 0 25 1 ∷ []))
    ∷ sliced 25 1 (ran_for 24) (tick 0) (gives 0 [] (busy 22 (1 ∷ 0 ∷ []) ∷ []) (runs_rR 0 20 0 25 1 ∷ runs_rR 1 20 0 25 1 ∷ []))
    ∷ sliced 1000 1 [] (add 0 20 1) (gives 0 [] (idle_cpu ∷ []) (task 0 asleep 1 20 0 1000 1 ∷ []))
    ∷ sliced 1000 1 (ran_for 0) (tick 0) (gives 0 [] (busy 22 (0 ∷ 1 ∷ []) ∷ []) (runs_rR 0 20 0 999 1 ∷ runs_rR 1 20 0 1000 1 ∷ []))
    ∷ sliced 0 1 [] (tick 0) (refuses 1 (idle_cpu ∷ []) []) ∷ sliced 1001 1 [] (tick 0) (refuses 1 (idle_cpu ∷ []) []) ∷ []

-- 8, yield: "first task leaves and enters again; slice kept": behind its equal, before the lower one; whatever its policy
abbrev pub yielding : List Case
yielding =
    case 1 (add_rR 0 20 1 ∷ add_rR 1 20 1 ∷ add_rR 2 10 1 ∷ wake 0 ∷ wake 1 ∷ wake 2 ∷ tick 0 ∷ []) (yield 0)
    (gives 0 [] (busy 22 (1 ∷ 0 ∷ 2 ∷ []) ∷ []) (runs_rR 0 20 0 after_tick 1 ∷ runs_rR 1 20 0 full_slice 1 ∷ runs_rR 2 10 0 full_slice 1 ∷ []))
    ∷ case 2 (add 5 20 2 ∷ add 6 20 2 ∷ wake 5 ∷ wake 6 ∷ []) (yield 1)
    (gives 0 [] (idle_cpu ∷ busy 22 (6 ∷ 5 ∷ []) ∷ []) (runs 5 20 1 2 ∷ runs 6 20 1 2 ∷ []))
    ∷ []

-- 9, ordinary work: "the flag is b"; a CPU that runs a task keeps that task's level
abbrev pub ordinary_work : List Case
ordinary_work =
    case 2 (add 0 50 1 ∷ wake 0 ∷ []) (ordinary 0 1)
    (gives 0 [] (shared 52 (0 ∷ []) ∷ idle_cpu ∷ []) (runs 0 50 0 1 ∷ []))
    ∷ case 2 (ordinary 0 1 ∷ ordinary 1 1 ∷ []) (ordinary 0 0) (gives 0 [] (idle_cpu ∷ ordinary_cpu ∷ []) [])
    ∷ []

-- ---- the migration step

-- "A task is movable if it waits and some allowed CPU has a level below the task's level": ordinary work alone is below priority 1
abbrev pub movable_levels : List Case
movable_levels =
    case 2 (ordinary 1 1 ∷ add 0 50 3 ∷ add 1 1 3 ∷ wake 0 ∷ []) (wake 1)
    (gives 1 (1 ∷ 0 ∷ 1 ∷ 1 ∷ []) (busy 52 (0 ∷ []) ∷ shared 3 (1 ∷ []) ∷ []) (runs 0 50 0 3 ∷ runs 1 1 1 3 ∷ []))
    ∷ []

-- "Then migration steps are taken until none applies.": after any event, here a waiting task's mask, a priority and a yield; and three of them
abbrev pub steps_taken : List Case
steps_taken =
    case 2 (add 0 50 1 ∷ add 1 40 1 ∷ wake 0 ∷ wake 1 ∷ []) (affinity 1 3)
    (gives 1 (1 ∷ 0 ∷ 1 ∷ 0 ∷ []) (busy 52 (0 ∷ []) ∷ busy 42 (1 ∷ []) ∷ []) (runs 0 50 0 1 ∷ runs 1 40 1 3 ∷ []))
    ∷ case 2 (add 0 50 3 ∷ add 1 40 1 ∷ wake 0 ∷ wake 1 ∷ []) (priority 0 30)
    (gives 1 (0 ∷ 0 ∷ 1 ∷ 0 ∷ []) (busy 42 (1 ∷ []) ∷ busy 32 (0 ∷ []) ∷ []) (runs 0 30 1 3 ∷ runs 1 40 0 1 ∷ []))
    ∷ case 2 (add 0 20 3 ∷ add 1 20 1 ∷ wake 0 ∷ wake 1 ∷ []) (yield 0)
    (gives 1 (0 ∷ 0 ∷ 1 ∷ 0 ∷ []) (busy 22 (1 ∷ []) ∷ busy 22 (0 ∷ []) ∷ []) (runs 0 20 1 3 ∷ runs 1 20 0 1 ∷ []))
    ∷ case 4 (add 0 40 3 ∷ add 1 30 6 ∷ add 2 20 12 ∷ add 3 10 8 ∷ add 4 50 1 ∷ wake 0 ∷ wake 1 ∷ wake 2 ∷ wake 3 ∷ []) (wake 4)
    (gives 3 (0 ∷ 0 ∷ 1 ∷ 32 ∷ 1 ∷ 1 ∷ 2 ∷ 22 ∷ 2 ∷ 2 ∷ 3 ∷ 12 ∷ []) (busy 52 (4 ∷ []) ∷ busy 42 (0 ∷ []) ∷ busy 32 (1 ∷ []) ∷ busy 22 (2 ∷ 3 ∷ []) ∷ [])
    (runs 0 40 1 3 ∷ runs 1 30 2 6 ∷ runs 2 20 3 12 ∷ runs 3 10 3 8 ∷ runs 4 50 0 1 ∷ []))
    ∷ []

-- CPUs 0, 1 and 2 run tasks 0, 1 and 2 of priority 60; task 3 waits on CPU 1 and task 4 on CPU 0, with priorities p and q; CPU 2 is about to be idle
abbrev pub two_wait : ℕ → ℕ → List Event
two_wait p q = add 0 60 1 ∷ add 1 60 2 ∷ add 2 60 4 ∷ add 3 p 6 ∷ add 4 q 5 ∷ wake 0 ∷ wake 1 ∷ wake 2 ∷ wake 3 ∷ wake 4 ∷ []

-- "The mover is the movable task of highest priority"
abbrev pub mover_highest : List Case
mover_highest =
    case 3 (two_wait 40 30) (sleep 2)
    (gives 1 (3 ∷ 1 ∷ 2 ∷ 0 ∷ []) (busy 62 (0 ∷ 4 ∷ []) ∷ busy 62 (1 ∷ []) ∷ busy 42 (3 ∷ []) ∷ [])
    (runs 0 60 0 1 ∷ runs 1 60 1 2 ∷ sleeps 2 60 2 4 ∷ runs 3 40 2 6 ∷ runs 4 30 0 5 ∷ []))
    ∷ []

-- "among equals the one waiting on the lowest-numbered CPU"
abbrev pub mover_lowest_cpu : List Case
mover_lowest_cpu =
    case 3 (two_wait 30 30) (sleep 2)
    (gives 1 (4 ∷ 0 ∷ 2 ∷ 0 ∷ []) (busy 62 (0 ∷ []) ∷ busy 62 (1 ∷ 3 ∷ []) ∷ busy 32 (4 ∷ []) ∷ [])
    (runs 0 60 0 1 ∷ runs 1 60 1 2 ∷ sleeps 2 60 2 4 ∷ runs 3 30 1 6 ∷ runs 4 30 2 5 ∷ []))
    ∷ []

-- "among those the earliest in the row"
abbrev pub mover_earliest : List Case
mover_earliest =
    case 2 (add 0 60 1 ∷ add 1 60 2 ∷ add 2 30 3 ∷ add 3 30 3 ∷ wake 0 ∷ wake 1 ∷ wake 3 ∷ wake 2 ∷ []) (sleep 1)
    (gives 1 (3 ∷ 0 ∷ 1 ∷ 0 ∷ []) (busy 62 (0 ∷ 2 ∷ []) ∷ busy 32 (3 ∷ []) ∷ []) (runs 0 60 0 1 ∷ sleeps 1 60 1 2 ∷ runs 2 30 0 3 ∷ runs 3 30 1 3 ∷ []))
    ∷ []

-- "The destination is, of its allowed CPUs, one of the lowest level; among equals the lowest-numbered."
abbrev pub destination_lowest : List Case
destination_lowest =
    case 3 (add 0 50 7 ∷ add 1 40 7 ∷ wake 0 ∷ []) (wake 1)
    (gives 1 (1 ∷ 0 ∷ 1 ∷ 0 ∷ []) (busy 52 (0 ∷ []) ∷ busy 42 (1 ∷ []) ∷ idle_cpu ∷ []) (runs 0 50 0 7 ∷ runs 1 40 1 7 ∷ []))
    ∷ case 3 (add 0 50 7 ∷ add 1 40 5 ∷ wake 0 ∷ []) (wake 1)
    (gives 1 (1 ∷ 0 ∷ 2 ∷ 0 ∷ []) (busy 52 (0 ∷ []) ∷ idle_cpu ∷ busy 42 (1 ∷ []) ∷ []) (runs 0 50 0 7 ∷ runs 1 40 2 5 ∷ []))
    ∷ []

-- "Slices are kept."
abbrev pub migrating_slice : List Case
migrating_slice =
    case 2 (add_rR 0 20 3 ∷ add 1 50 1 ∷ wake 0 ∷ tick 0 ∷ []) (wake 1)
    (gives 1 (0 ∷ 0 ∷ 1 ∷ 0 ∷ []) (busy 52 (1 ∷ []) ∷ busy 22 (0 ∷ []) ∷ []) (runs_rR 0 20 1 after_tick 3 ∷ runs 1 50 0 1 ∷ []))
    ∷ []

-- document 02, L2: "Each log entry shall also give the level of the destination before the move": CPU 1 ran task 1 at level 62 before the event, has
-- ordinary work alone before the move, and is at level 42 after it; CPU 0 is at level 52 throughout
abbrev pub displacing : List Case
displacing =
    case 2 (ordinary 1 1 ∷ add 0 50 1 ∷ add 1 60 2 ∷ add 2 40 3 ∷ wake 0 ∷ wake 1 ∷ wake 2 ∷ []) (sleep 1)
    (gives 1 (2 ∷ 0 ∷ 1 ∷ 1 ∷ []) (busy 52 (0 ∷ []) ∷ shared 42 (2 ∷ []) ∷ []) (runs 0 50 0 1 ∷ sleeps 1 60 1 2 ∷ runs 2 40 1 3 ∷ []))
    ∷ []

-- ---- refusals: "Checked in this order."; "A refusal reports 0 moves and changes nothing."

-- 3: "kind not 1 to 9", and with L8 "kinds not 1 to 11", whatever else is wrong
abbrev pub refusal3 : List Case
refusal3 = fresh2 3 (event 0 0 0 0 0) ∷ fresh2 3 (event 12 0 0 0 0) ∷ fresh2 3 (event 12 noise noise noise noise) ∷ []

-- 4: "task number 512 or more (kinds 1 to 6), CPU number N or more (7 to 9)", and with L8 of 10 and 11, whatever else is wrong
abbrev pub refusal4 : List Case
refusal4 =
    fresh2 4 (event 1 512 0 0 0) ∷ fresh2 4 (event 2 512 0 0 0) ∷ fresh2 4 (event 3 512 0 0 0) ∷ fresh2 4 (event 4 512 0 0 0)
    ∷ fresh2 4 (event 5 512 0 0 0) ∷ fresh2 4 (event 6 512 0 0 0) ∷ fresh2 4 (event 7 2 0 0 0) ∷ fresh2 4 (event 8 2 0 0 0)
    ∷ fresh2 4 (event 9 2 0 2 0) ∷ fresh2 4 (event 10 2 0 0 0) ∷ fresh2 4 (event 11 2 0 0 0) ∷ []

-- 5: "add to a place not free; remove or wake of one not asleep; sleep of one not runnable; priority or mask for a free place", whatever else is wrong
abbrev pub refusal5 : List Case
refusal5 =
    asleep2 5 (event 1 0 0 0 0) ∷ runs2 5 (event 1 0 0 0 0) ∷ fresh2 5 (remove 0) ∷ runs2 5 (remove 0) ∷ fresh2 5 (wake 0)
    ∷ fresh2 5 (sleep 0) ∷ asleep2 5 (sleep 0) ∷ fresh2 5 (priority 0 0) ∷ fresh2 5 (affinity 0 0) ∷ []

-- 6: "add with policy not 1 or 2", whatever else is wrong
abbrev pub refusal6 : List Case
refusal6 = fresh2 6 (event 1 0 0 0 0) ∷ fresh2 6 (event 1 0 3 50 3) ∷ []

-- 7: "kind 9: b not 0 or 1"; and kind 1 before its mask
abbrev pub refusal7 : List Case
refusal7 = fresh2 7 (ordinary 0 2) ∷ fresh2 7 (add 0 0 0) ∷ []

abbrev pub sentences : List Case
sentences =
    unused_numbers ++ entering_row ++ leaving_row ++ adding ++ removing ++ waking ++ waking_elsewhere ++ sleeping ++ prioritising_sleeper
    ++ prioritising_same ++ raising ++ lowering ++ lowering_moves ++ masking_sleeper ++ masking_here ++ masking_away ++ ticking_rR ++ ticking_out ++ ticking_none
    ++ full_slices ++ yielding ++ ordinary_work ++ movable_levels ++ steps_taken ++ mover_highest ++ mover_lowest_cpu ++ mover_earliest ++ destination_lowest ++ migrating_slice ++ displacing
    ++ refusal3 ++ refusal4 ++ refusal5 ++ refusal6 ++ refusal7
