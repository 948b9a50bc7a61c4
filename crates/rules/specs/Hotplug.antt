-- Document 02, L8, sentence by sentence, in the form of Sentences: CPUs go offline and come back.
-- Assumes nothing.
use Rattle.std.specs.Prelude.{List, [], ◌∷◌, ◌++◌, map, ℕ, ◌-◌, ◌^◌, replicate}
use Rattle.rules.specs.Lists.{below}
use Rattle.rules.specs.Events.{Event, event}
use Rattle.rules.specs.Cases.{add, add_rR, wake, affinity, tick, yield, ordinary, offline, online, after2, after3}
use Rattle.rules.specs.Cases.{busy, idle_cpu, ordinary_cpu, offline_cpu, runs, sleeps, gives, refuses, Case, case}
use Rattle.rules.specs.Sentences.{runs_rR, after_tick, noise}

-- "Kind 10 takes CPU who offline, kind 11 brings it back"; "An offline CPU has an empty row and level INVALID", and keeps its flag
abbrev pub going_and_coming : List Case
going_and_coming =
    case 2 [] (event 10 0 noise noise noise) (gives 0 [] (offline_cpu 0 ∷ idle_cpu ∷ []) [])
    ∷ case 2 (ordinary 1 1 ∷ []) (offline 1) (gives 0 [] (idle_cpu ∷ offline_cpu 1 ∷ []) [])
    ∷ case 2 (ordinary 1 1 ∷ offline 1 ∷ []) (event 11 1 noise noise noise) (gives 0 [] (idle_cpu ∷ ordinary_cpu ∷ []) [])
    ∷ []

-- "its tasks leave front to back": two equals enter CPU 1 in their order, behind a higher one; and behind one of their own priority
abbrev pub front_to_back : List Case
front_to_back =
    case 2 (add 2 60 2 ∷ add 0 30 3 ∷ add 1 30 3 ∷ wake 2 ∷ wake 0 ∷ wake 1 ∷ []) (offline 0)
    (gives 0 [] (offline_cpu 0 ∷ busy 62 (2 ∷ 0 ∷ 1 ∷ []) ∷ []) (runs 0 30 1 3 ∷ runs 1 30 1 3 ∷ runs 2 60 1 2 ∷ []))
    ∷ case 2 after3 (offline 0)
    (gives 0 [] (offline_cpu 0 ∷ busy 52 (0 ∷ 1 ∷ 2 ∷ []) ∷ []) (runs 0 50 1 3 ∷ runs 1 40 1 3 ∷ runs 2 40 1 3 ∷ []))
    ∷ case 2 (add_rR 0 20 3 ∷ wake 0 ∷ tick 0 ∷ []) (offline 0) (gives 0 [] (offline_cpu 0 ∷ busy 22 (0 ∷ []) ∷ []) (runs_rR 0 20 1 after_tick 3 ∷ []))
    ∷ []

-- "each entering the lowest-numbered allowed online CPU": by three masks, the last of which allows CPUs 2 and 3; and past a CPU that is offline
abbrev pub each_its_own : List Case
each_its_own =
    case 4 (add 3 60 2 ∷ add 4 60 4 ∷ add 5 60 8 ∷ add 0 50 3 ∷ add 1 40 5 ∷ add 2 30 13 ∷ wake 3 ∷ wake 4 ∷ wake 5 ∷ wake 0 ∷ wake 1 ∷ wake 2 ∷ [])
    (offline 0)
    (gives 0 [] (offline_cpu 0 ∷ busy 62 (3 ∷ 0 ∷ []) ∷ busy 62 (4 ∷ 1 ∷ 2 ∷ []) ∷ busy 62 (5 ∷ []) ∷ [])
    (runs 0 50 1 3 ∷ runs 1 40 2 5 ∷ runs 2 30 2 13 ∷ runs 3 60 1 2 ∷ runs 4 60 2 4 ∷ runs 5 60 3 8 ∷ []))
    ∷ case 3 (add 0 50 7 ∷ wake 0 ∷ offline 1 ∷ []) (offline 0) (gives 0 [] (offline_cpu 0 ∷ offline_cpu 0 ∷ busy 52 (0 ∷ []) ∷ []) (runs 0 50 2 7 ∷ []))
    ∷ []

-- "then migrations follow": task 0 displaces task 1, which goes on to CPU 2
abbrev pub then_migrations : List Case
then_migrations =
    case 3 (add 0 50 7 ∷ add 1 40 6 ∷ wake 0 ∷ wake 1 ∷ []) (offline 0)
    (gives 1 (1 ∷ 1 ∷ 2 ∷ 0 ∷ []) (offline_cpu 0 ∷ busy 52 (0 ∷ []) ∷ busy 42 (1 ∷ []) ∷ []) (runs 0 50 1 7 ∷ runs 1 40 2 6 ∷ []))
    ∷ []

-- "kind 11 brings it back": its level is its flag, and a task that waits migrates to it
abbrev pub back : List Case
back =
    case 2 (after2 ++ offline 0 ∷ []) (online 0)
    (gives 1 (1 ∷ 1 ∷ 0 ∷ 0 ∷ []) (busy 42 (1 ∷ []) ∷ busy 52 (0 ∷ []) ∷ []) (runs 0 50 1 3 ∷ runs 1 40 0 3 ∷ []))
    ∷ []

-- "\"Allowed\" in placing and moving now means allowed and online": a wake whose CPU is offline, and whose lowest-numbered is; a mask change
abbrev pub placing : List Case
placing =
    case 2 (add 0 50 3 ∷ offline 0 ∷ []) (wake 0) (gives 0 [] (offline_cpu 0 ∷ busy 52 (0 ∷ []) ∷ []) (runs 0 50 1 3 ∷ []))
    ∷ case 3 (add 0 50 6 ∷ affinity 0 7 ∷ offline 1 ∷ []) (wake 0) (gives 0 [] (busy 52 (0 ∷ []) ∷ offline_cpu 0 ∷ idle_cpu ∷ []) (runs 0 50 0 7 ∷ []))
    ∷ case 3 (add 0 50 1 ∷ wake 0 ∷ offline 1 ∷ []) (affinity 0 6) (gives 0 [] (idle_cpu ∷ offline_cpu 0 ∷ busy 52 (0 ∷ []) ∷ []) (runs 0 50 2 6 ∷ []))
    ∷ []

-- a task that waits does not move to an offline CPU, and past it to another
abbrev pub moving : List Case
moving =
    case 2 (offline 1 ∷ add 0 50 3 ∷ add 1 40 3 ∷ wake 0 ∷ []) (wake 1)
    (gives 0 [] (busy 52 (0 ∷ 1 ∷ []) ∷ offline_cpu 0 ∷ []) (runs 0 50 0 3 ∷ runs 1 40 0 3 ∷ []))
    ∷ case 3 (offline 1 ∷ add 0 50 7 ∷ add 1 40 7 ∷ wake 0 ∷ []) (wake 1)
    (gives 1 (1 ∷ 0 ∷ 2 ∷ 0 ∷ []) (busy 52 (0 ∷ []) ∷ offline_cpu 0 ∷ busy 42 (1 ∷ []) ∷ []) (runs 0 50 0 7 ∷ runs 1 40 2 7 ∷ []))
    ∷ []

-- "add keeps document 01's wording": the lowest-numbered of the mask, though it is offline
abbrev pub adding_offline : List Case
adding_offline = case 2 (offline 0 ∷ []) (add 0 50 3) (gives 0 [] (offline_cpu 0 ∷ idle_cpu ∷ []) (sleeps 0 50 0 3 ∷ [])) ∷ []

-- "10, a runnable task [..] would have no allowed online CPU": the one that runs, and one behind one that could go; a sleeper does not count
abbrev pub nowhere_to_go : List Case
nowhere_to_go =
    case 2 (add 0 50 1 ∷ wake 0 ∷ []) (offline 0) (refuses 10 (busy 52 (0 ∷ []) ∷ idle_cpu ∷ []) (runs 0 50 0 1 ∷ []))
    ∷ case 2 (add 0 50 3 ∷ add 1 40 1 ∷ wake 0 ∷ wake 1 ∷ []) (offline 0)
    (refuses 10 (busy 52 (0 ∷ 1 ∷ []) ∷ idle_cpu ∷ []) (runs 0 50 0 3 ∷ runs 1 40 0 1 ∷ []))
    ∷ case 2 (add 0 50 1 ∷ []) (offline 0) (gives 0 [] (offline_cpu 0 ∷ idle_cpu ∷ []) (sleeps 0 50 0 1 ∷ []))
    ∷ []

-- "or the task woken, or the runnable task whose mask changes"; a sleeper's mask may be that of an offline CPU
abbrev pub nowhere_else : List Case
nowhere_else =
    case 2 (add 0 50 1 ∷ offline 0 ∷ []) (wake 0) (refuses 10 (offline_cpu 0 ∷ idle_cpu ∷ []) (sleeps 0 50 0 1 ∷ []))
    ∷ case 2 (add 0 50 3 ∷ wake 0 ∷ offline 1 ∷ []) (affinity 0 2) (refuses 10 (busy 52 (0 ∷ []) ∷ offline_cpu 0 ∷ []) (runs 0 50 0 3 ∷ []))
    ∷ case 2 (add 0 50 3 ∷ offline 1 ∷ []) (affinity 0 2) (gives 0 [] (idle_cpu ∷ offline_cpu 0 ∷ []) (sleeps 0 50 0 2 ∷ []))
    ∷ []

-- CPU 1 of two is offline, and the other has nothing to do: a refused event
abbrev pub alone : ℕ → Event → Case
alone a e = case 2 (offline 1 ∷ []) e (refuses a (idle_cpu ∷ offline_cpu 0 ∷ []) [])

-- "11, tick or yield on an offline CPU, or kind 10 or 11 where it is already so"; "Where 9 and 11 both fit, 11 is given."
abbrev pub already_so : List Case
already_so = alone 11 (tick 1) ∷ alone 11 (yield 1) ∷ alone 11 (offline 1) ∷ alone 11 (online 0) ∷ alone 9 (yield 0) ∷ []

-- "12, kind 10 for the last online CPU", after 10
abbrev pub last_one : List Case
last_one =
    alone 12 (offline 0) ∷ case 1 [] (offline 0) (refuses 12 (idle_cpu ∷ []) [])
    ∷ case 2 (add 0 50 3 ∷ wake 0 ∷ offline 1 ∷ []) (offline 0) (refuses 10 (busy 52 (0 ∷ []) ∷ offline_cpu 0 ∷ []) (runs 0 50 0 3 ∷ []))
    ∷ []

-- "Ordinary work on an offline CPU sets only the flag."
abbrev pub ordinary_offline : List Case
ordinary_offline =
    case 2 (offline 0 ∷ []) (ordinary 0 1) (gives 0 [] (offline_cpu 1 ∷ idle_cpu ∷ []) [])
    ∷ case 2 (offline 0 ∷ ordinary 0 1 ∷ []) (online 0) (gives 0 [] (ordinary_cpu ∷ idle_cpu ∷ []) [])
    ∷ []

-- 64 CPUs go one after the other, down to one, and a task that may use all of them goes from each to the next
abbrev pub every_cpu : ℕ
every_cpu = 2 ^ 64 - 1

-- run in crate laws, where no edit of the definitions runs it again
abbrev pub down_to_one : List Case
down_to_one =
    case 64 (add 0 50 every_cpu ∷ wake 0 ∷ map offline (below 62)) (offline 62)
    (gives 0 [] (replicate 63 (offline_cpu 0) ++ busy 52 (0 ∷ []) ∷ []) (runs 0 50 63 every_cpu ∷ []))
    ∷ []

abbrev pub hotplug : List Case
hotplug =
    going_and_coming ++ front_to_back ++ each_its_own ++ then_migrations ++ back ++ placing ++ moving ++ adding_offline ++ nowhere_to_go ++ nowhere_else
    ++ already_so ++ last_one ++ ordinary_offline
