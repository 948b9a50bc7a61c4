-- The marked examples K1 to K12: for each the events before, the last event, and all that is then seen. Tasks are FIFO unless said, and a full slice
-- is 100 ticks, document 01's number, which its examples name.
-- Assumes nothing.
use Rattle.std.specs.Prelude.{Bool, true, false, cond, ◌&&◌, List, [], ◌∷◌, ◌++◌, map, ℕ, suc, ◌+◌, ◌-◌, ◌^◌, eqb, replicate}
use Rattle.cpupri.specs.Found.{size_fits}
use Rattle.rules.specs.Lists.{below}
use Rattle.rules.specs.Machine.{Machine, Task, row, flag, is_online, level, fresh, runnable, asleep, fifo, rr}
use Rattle.rules.specs.WellFormed.{slice_fits, tasks}
use Rattle.rules.specs.Events.{Event, event}
use Rattle.rules.specs.Refusals.{bad_size}
use Rattle.rules.specs.Outcome.{Outcome, outcome, refused, log_numbers}

-- ---- events

abbrev pub add : ℕ → ℕ → ℕ → Event
add t p s = event 1 t fifo p s

abbrev pub add_rR : ℕ → ℕ → ℕ → Event
add_rR t p s = event 1 t rr p s

abbrev pub remove : ℕ → Event
remove t = event 2 t 0 0 0

abbrev pub wake : ℕ → Event
wake t = event 3 t 0 0 0

abbrev pub sleep : ℕ → Event
sleep t = event 4 t 0 0 0

abbrev pub priority : ℕ → ℕ → Event
priority t p = event 5 t 0 p 0

abbrev pub affinity : ℕ → ℕ → Event
affinity t s = event 6 t 0 0 s

abbrev pub tick : ℕ → Event
tick c = event 7 c 0 0 0

abbrev pub yield : ℕ → Event
yield c = event 8 c 0 0 0

abbrev pub ordinary : ℕ → ℕ → Event
ordinary c b = event 9 c 0 b 0

abbrev pub offline : ℕ → Event
offline c = event 10 c 0 0 0

abbrev pub online : ℕ → Event
online c = event 11 c 0 0 0

-- ---- what is seen

-- a CPU: whether it is online, its level, its ordinary-work flag and its row
pub record Cpu : Type 0 where
  pub online : Bool
  pub level : ℕ
  pub flag : ℕ
  pub row : List ℕ

-- a task place that holds something
pub record Used : Type 0 where
  pub number : ℕ
  pub task : Task

-- all that there is to see: the answer, the number of moves, the log's numbers, every CPU, and every task place that does not hold 0 in all
-- its columns
pub record Seen : Type 0 where
  pub answer : ℕ
  pub moves : ℕ
  pub log : List ℕ
  pub cpus : List Cpu
  pub tasks : List Used

abbrev pub cpu_of : Machine → ℕ → Cpu
cpu_of m c = record { online = is_online m c; level = level m c; flag = flag m c; row = row m c }

-- the places that hold something, counted from i
unfoldable pub used : ℕ → List Task → List Used
used i [] = []
used i (τ ∷ τs) =
    cond (eqb (τ.state + τ.policy + τ.prio + τ.cpu + τ.slice + τ.mask) 0) (used (suc i) τs)
    (record { number = i; task = τ } ∷ used (suc i) τs)

abbrev pub look : Outcome → Seen
look o =
    record {
      answer = o.answer;
      moves = o.moves;
      log = log_numbers o.log;
      cpus = map (cpu_of o.machine) (below o.machine.n);
      tasks = used 0 (tasks o.machine);
    }

-- ---- what is expected, in short

-- a CPU without ordinary work: its level and its row
abbrev pub busy : ℕ → List ℕ → Cpu
busy l r = record { online = true; level = l; flag = 0; row = r }

abbrev pub idle_cpu : Cpu
idle_cpu = busy 0 []

-- a CPU with ordinary work, and one with nothing else
abbrev pub shared : ℕ → List ℕ → Cpu
shared l r = record { online = true; level = l; flag = 1; row = r }

abbrev pub ordinary_cpu : Cpu
ordinary_cpu = shared 1 []

-- an offline CPU, and its flag
abbrev pub offline_cpu : ℕ → Cpu
offline_cpu f = record { online = false; level = 255; flag = f; row = [] }

-- task t, and its columns: state, policy, priority, CPU, slice, mask
abbrev pub task : ℕ → ℕ → ℕ → ℕ → ℕ → ℕ → ℕ → Used
task t s a p c l k = record { number = t; task = record { state = s; policy = a; prio = p; cpu = c; slice = l; mask = k } }

-- document 01's full slice
abbrev pub full_slice : ℕ
full_slice = 100

-- a FIFO task with a full slice, in its row or asleep: its number, priority, CPU and mask
abbrev pub runs : ℕ → ℕ → ℕ → ℕ → Used
runs t p c k = task t runnable fifo p c full_slice k

abbrev pub sleeps : ℕ → ℕ → ℕ → ℕ → Used
sleeps t p c k = task t asleep fifo p c full_slice k

-- an accepted last event: its moves and their log, and the CPUs and tasks after it
abbrev pub gives : ℕ → List ℕ → List Cpu → List Used → Seen
gives k l cs ts = record { answer = 0; moves = k; log = l; cpus = cs; tasks = ts }

-- a refused one: its number, and the CPUs and tasks as they were
abbrev pub refuses : ℕ → List Cpu → List Used → Seen
refuses a cs ts = record { answer = a; moves = 0; log = []; cpus = cs; tasks = ts }

-- ---- cases

pub record Case : Type 0 where
  pub n : ℕ
  pub full : ℕ
  pub before : List Event
  pub last : Event
  pub expected : Seen

-- with another full slice, and with document 01's
abbrev pub sliced : ℕ → ℕ → List Event → Event → Seen → Case
sliced full n b l x = record { n = n; full = full; before = b; last = l; expected = x }

abbrev pub case : ℕ → List Event → Event → Seen → Case
case n b l x = sliced full_slice n b l x

-- a fresh machine after some events
unfoldable pub played : List Event → Machine → Machine
played [] m = m
played (e ∷ es) m = played es (outcome m e).machine

-- the last event; N and the full slice are checked first
abbrev pub last : Case → Outcome
last k =
    let m : Machine = fresh k.n k.full in
    cond (size_fits k.n && slice_fits k.full) (outcome (played k.before m) k.last) (refused bad_size m)

abbrev pub seen : Case → Seen
seen k = look (last k)

-- ---- K1 to K12

abbrev pub k1 : List Case
k1 = case 1 (add 0 50 1 ∷ []) (wake 0) (gives 0 [] (busy 52 (0 ∷ []) ∷ []) (runs 0 50 0 1 ∷ [])) ∷ []

abbrev pub before2 : List Event
before2 = add 0 50 3 ∷ add 1 40 3 ∷ wake 1 ∷ []

abbrev pub after2 : List Event
after2 = before2 ++ wake 0 ∷ []

abbrev pub k2 : List Case
k2 =
    case 2 before2 (wake 0)
    (gives 1 (1 ∷ 0 ∷ 1 ∷ 0 ∷ []) (busy 52 (0 ∷ []) ∷ busy 42 (1 ∷ []) ∷ []) (runs 0 50 0 3 ∷ runs 1 40 1 3 ∷ []))
    ∷ []

abbrev pub before3 : List Event
before3 = after2 ++ add 2 40 3 ∷ []

abbrev pub after3 : List Event
after3 = before3 ++ wake 2 ∷ []

abbrev pub k3 : List Case
k3 =
    case 2 before3 (wake 2)
    (gives 0 [] (busy 52 (0 ∷ 2 ∷ []) ∷ busy 42 (1 ∷ []) ∷ []) (runs 0 50 0 3 ∷ runs 1 40 1 3 ∷ runs 2 40 0 3 ∷ []))
    ∷ []

abbrev pub k4 : List Case
k4 =
    case 2 after3 (sleep 0)
    (gives 0 [] (busy 42 (2 ∷ []) ∷ busy 42 (1 ∷ []) ∷ []) (sleeps 0 50 0 3 ∷ runs 1 40 1 3 ∷ runs 2 40 0 3 ∷ []))
    ∷ []

abbrev pub before5 : List Event
before5 = add 0 30 3 ∷ add 1 20 6 ∷ add 2 10 4 ∷ add 3 40 1 ∷ wake 0 ∷ wake 1 ∷ []

abbrev pub waiting5 : List Event
waiting5 = before5 ++ wake 2 ∷ []

abbrev pub after5 : List Event
after5 = waiting5 ++ wake 3 ∷ []

-- two moves, over the levels 22 and 12
abbrev pub log5 : List ℕ
log5 = 0 ∷ 0 ∷ 1 ∷ 22 ∷ 1 ∷ 1 ∷ 2 ∷ 12 ∷ []

abbrev pub k5 : List Case
k5 =
    case 3 before5 (wake 2)
    (gives 0 [] (busy 32 (0 ∷ []) ∷ busy 22 (1 ∷ []) ∷ busy 12 (2 ∷ []) ∷ []) (runs 0 30 0 3 ∷ runs 1 20 1 6 ∷ runs 2 10 2 4 ∷ sleeps 3 40 0 1 ∷ []))
    ∷ case 3 waiting5 (wake 3)
    (gives 2 log5 (busy 42 (3 ∷ []) ∷ busy 32 (0 ∷ []) ∷ busy 22 (1 ∷ 2 ∷ []) ∷ [])
    (runs 0 30 1 3 ∷ runs 1 20 2 6 ∷ runs 2 10 2 4 ∷ runs 3 40 0 1 ∷ []))
    ∷ []

abbrev pub k6 : List Case
k6 =
    case 3 after5 (sleep 3)
    (gives 0 [] (idle_cpu ∷ busy 32 (0 ∷ []) ∷ busy 22 (1 ∷ 2 ∷ []) ∷ []) (runs 0 30 1 3 ∷ runs 1 20 2 6 ∷ runs 2 10 2 4 ∷ sleeps 3 40 0 1 ∷ []))
    ∷ []

abbrev pub k7 : List Case
k7 =
    case 2 (add 0 60 1 ∷ add 1 50 1 ∷ add 2 40 3 ∷ wake 0 ∷ wake 1 ∷ []) (wake 2)
    (gives 1 (2 ∷ 0 ∷ 1 ∷ 0 ∷ []) (busy 62 (0 ∷ 1 ∷ []) ∷ busy 42 (2 ∷ []) ∷ []) (runs 0 60 0 1 ∷ runs 1 50 0 1 ∷ runs 2 40 1 3 ∷ []))
    ∷ []

abbrev pub k8 : List Case
k8 =
    case 2 after2 (affinity 0 2)
    (gives 1 (1 ∷ 1 ∷ 0 ∷ 0 ∷ []) (busy 42 (1 ∷ []) ∷ busy 52 (0 ∷ []) ∷ []) (runs 0 50 1 2 ∷ runs 1 40 0 3 ∷ []))
    ∷ []

-- a slice of 1 is what 99 ticks leave
abbrev pub before9 : List Event
before9 = add_rR 0 20 1 ∷ add_rR 1 20 1 ∷ wake 0 ∷ wake 1 ∷ replicate (full_slice - 2) (tick 0)

abbrev pub k9 : List Case
k9 =
    case 1 before9 (tick 0)
    (gives 0 [] (busy 22 (0 ∷ 1 ∷ []) ∷ []) (task 0 runnable rr 20 0 1 1 ∷ task 1 runnable rr 20 0 full_slice 1 ∷ []))
    ∷ case 1 (before9 ++ tick 0 ∷ []) (tick 0)
    (gives 0 [] (busy 22 (1 ∷ 0 ∷ []) ∷ []) (task 0 runnable rr 20 0 100 1 ∷ task 1 runnable rr 20 0 full_slice 1 ∷ []))
    ∷ []

abbrev pub k10 : List Case
k10 =
    case 3 (ordinary 1 1 ∷ add 0 50 7 ∷ add 1 40 7 ∷ wake 0 ∷ []) (wake 1)
    (gives 1 (1 ∷ 0 ∷ 2 ∷ 0 ∷ []) (busy 52 (0 ∷ []) ∷ ordinary_cpu ∷ busy 42 (1 ∷ []) ∷ []) (runs 0 50 0 7 ∷ runs 1 40 2 7 ∷ []))
    ∷ []

abbrev pub k11 : List Case
k11 =
    case 1 (add 0 50 1 ∷ add 1 30 1 ∷ wake 0 ∷ wake 1 ∷ []) (priority 0 30)
    (gives 0 [] (busy 32 (0 ∷ 1 ∷ []) ∷ []) (runs 0 30 0 1 ∷ runs 1 30 0 1 ∷ []))
    ∷ []

-- a fresh machine of two CPUs refuses
abbrev pub fresh2 : ℕ → Event → Case
fresh2 a e = case 2 [] e (refuses a (idle_cpu ∷ idle_cpu ∷ []) [])

-- and with task 0 asleep
abbrev pub asleep2 : ℕ → Event → Case
asleep2 a e = case 2 (add 0 50 3 ∷ []) e (refuses a (idle_cpu ∷ idle_cpu ∷ []) (sleeps 0 50 0 3 ∷ []))

-- and with task 0 running
abbrev pub runs2 : ℕ → Event → Case
runs2 a e = case 2 (add 0 50 3 ∷ wake 0 ∷ []) e (refuses a (busy 52 (0 ∷ []) ∷ idle_cpu ∷ []) (runs 0 50 0 3 ∷ []))

-- 64 CPUs, task 511 on the last of them
abbrev pub wide : ℕ → ℕ → Case
wide p l =
    case 64 (add 511 p (2 ^ 63) ∷ []) (wake 511)
    (gives 0 [] (replicate 63 idle_cpu ++ busy l (511 ∷ []) ∷ []) (runs 511 p 63 (2 ^ 63) ∷ []))

abbrev pub k12 : List Case
k12 =
    case 0 [] (tick 0) (refuses 1 [] []) ∷ case 65 [] (tick 0) (refuses 1 (replicate 65 idle_cpu) [])
    ∷ fresh2 4 (add 512 50 3) ∷ fresh2 4 (wake 512) ∷ runs2 5 (wake 0)
    ∷ fresh2 7 (add 0 0 3) ∷ fresh2 7 (add 0 100 3) ∷ asleep2 7 (priority 0 0) ∷ asleep2 7 (priority 0 100)
    ∷ fresh2 8 (add 0 50 0) ∷ fresh2 8 (add 0 50 4) ∷ asleep2 8 (affinity 0 0) ∷ asleep2 8 (affinity 0 4)
    ∷ fresh2 9 (yield 0) ∷ wide 1 3 ∷ wide 99 101 ∷ []

abbrev pub cases : List Case
cases = k1 ++ k2 ++ k3 ++ k4 ++ k5 ++ k6 ++ k7 ++ k8 ++ k9 ++ k10 ++ k11 ++ k12
