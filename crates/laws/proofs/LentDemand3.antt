-- Demand 3 of what the caller holds after an accepted event.
-- Assumes nothing.
use mathlib.Core.Path.{◌≡◌, refl, sym, ap, ◌∙◌, subst}
use mathlib.Core.Bool.{Bool, true, false}
use mathlib.Core.Logic.{◌≢◌}
use mathlib.Core.List.{List, [], ◌∷◌, tail}
use mathlib.Core.Option.{some}
use Prim.Native.Nat.{ℕ, zero, suc, ◌+◌, ◌-◌, ◌*◌, ◌≤◌, ◌<◌}
use native.Mathlib.Nat.{not-suc-le-zero, le_of_suc-le-suc}
use native.Mathlib.Omega.{arith}
use lib.Dec.{ltb}
use borrow.Author.Tests.{ltb-true, ltb-false}
use lib.ListN.{length, get_or, drop, length-map, get_or-map}
use lib.Seq.{get_or-take, get_or-drop}
use Rattle.bits.specs.Bit.{bit}
use Rattle.bits.proofs.Tests.{and_both}
use Rattle.levels.specs.declared.record.Record.{Record}
use Rattle.rules.specs.Lists.{occ, In, place}
use Rattle.rules.specs.Machine.{Machine, task_of, prio_of, row, head, running, task_places, runnable}
use Rattle.rules.specs.Events.{Event, effect}
use Rattle.rules.specs.Migration.{Move, waiting}
use Rattle.rules.specs.Outcome.{outcome, logged, entry_numbers, entry_width}
use Rattle.rules.specs.Demand3.{Demand3, Outdone, most_moves, online_cpus, movers, receivers}
use Rattle.rules.specs.Tables.{Tables, machine_of, rows_of}
use Rattle.rules.specs.Entry.{Good, Result, event_answer, handled}
use Rattle.rules.specs.LentDemand3.{LentDemand3, Entries, entry_at, mover_at, receiver_at, task_at, Busy}
use Rattle.laws.proofs.Lists.{in_get_or, in_tails, occ_cons, digit_same, falling_at}
use Rattle.laws.proofs.Order.{place_is, place_lt}
use Rattle.laws.proofs.Apart.{in_row, row_in, once, runnable_fit}
use Rattle.laws.proofs.Tables.{row_at, write_read, stored_test}
use Rattle.laws.proofs.Log.{logged_entry, no_move}
use Rattle.laws.proofs.Entry.{handled_good, handled_demand3, handled_moves, handled_log}

-- ---- lists by their places

-- what stands at two places occurs twice
at_two : (xs : List ℕ) (i j : ℕ) → i < j → j < length xs → get_or xs i 0 ≡ get_or xs j 0 → 2 ≤ occ (get_or xs i 0) xs
at_two [] i j h l e = absurd (not-suc-le-zero l)
at_two (x ∷ xs) i zero h l e = absurd (not-suc-le-zero h)
at_two (x ∷ xs) zero (suc j) h l e =
    let k : 0 < occ x xs = subst (λ (y : ℕ). In y xs) (sym e) (in_get_or xs j (le_of_suc-le-suc l)) in
    omega (arith, occ_cons x x xs, digit_same x x refl)
at_two (x ∷ xs) (suc i) (suc j) h l e =
    let ih : 2 ≤ occ (get_or xs i 0) xs = at_two xs i j (le_of_suc-le-suc h) (le_of_suc-le-suc l) e in
    omega (arith, occ_cons (get_or xs i 0) x xs)

once_each : (xs : List ℕ) → ((x : ℕ) → occ x xs ≤ 1) → (i j : ℕ) → i < j → j < length xs → get_or xs i 0 ≢ get_or xs j 0
once_each xs h i j l k e = let two : 2 ≤ occ (get_or xs i 0) xs = at_two xs i j l k e in omega (arith, h (get_or xs i 0))

-- what occurs once stands at one place
only : (xs : List ℕ) (x i j : ℕ) → occ x xs ≤ 1 → i < length xs → j < length xs → get_or xs i 0 ≡ x → get_or xs j 0 ≡ x → i ≡ j
only xs x i j h li lj ei ej = go (ltb i j) refl (ltb j i) refl
  where
    twice : (a b : ℕ) → a < b → b < length xs → get_or xs a 0 ≡ x → get_or xs b 0 ≡ x → ⊥
    twice a b l k ea eb =
        let two : 2 ≤ occ (get_or xs a 0) xs = at_two xs a b l k (ea ∙ sym eb) in
        let same : occ (get_or xs a 0) xs ≡ occ x xs = ap (λ (y : ℕ). occ y xs) ea in
        omega arith

    go : (p : Bool) → ltb i j ≡ p → (q : Bool) → ltb j i ≡ q → i ≡ j
    go true e q f = absurd (twice i j (ltb-true i j e) lj ei ej)
    go false e true f = absurd (twice j i (ltb-true j i f) li ej ei)
    go false e false f = let a : j ≤ i = ltb-false i j e in let b : i ≤ j = ltb-false j i f in omega arith

head_at : (xs : List ℕ) (t : ℕ) → head xs ≡ some t → (0 < length xs) × (get_or xs 0 0 ≡ t)
head_at [] t e = absurd (let z : ◌≡◌ {A = ℕ} 0 1 = cc in omega arith)
head_at (x ∷ xs) t e = let s : x ≡ t = cc in (omega arith, s)

tail_at : (xs : List ℕ) (p : ℕ) → 0 < p → p < length xs → In (get_or xs p 0) (tail xs)
tail_at [] p h l = absurd (not-suc-le-zero l)
tail_at (x ∷ xs) zero h l = absurd (not-suc-le-zero h)
tail_at (x ∷ xs) (suc p) h l = in_get_or xs p (le_of_suc-le-suc l)

-- ---- rows by their places

module _ (n : ℕ) (r : Record) (s : Tables) (g : Good n r s) where
  row_length : (c : ℕ) → length (row (machine_of n s) c) ≡ get_or s.counts c 0
  row_length c =
      sym (get_or-map (λ (q : List ℕ). length q) (rows_of s.counts s.rows) c [])
      ∙ ap (λ (ks : List ℕ). get_or ks c 0)
      (write_read s.counts s.rows long (stored_test s.counts s.rows long g.stored)).1
    where
      long : length s.rows ≡ task_places * length s.counts
      long = g.rows ∙ ap (λ (k : ℕ). task_places * k) (sym g.counts)

  row_place : (c p : ℕ) → c < n → p < get_or s.counts c 0 → get_or (row (machine_of n s) c) p 0 ≡ task_at s c p
  row_place c p h l =
      ap (λ (q : List ℕ). get_or q p 0) (row_at s.counts s.rows c (subst (λ (k : ℕ). c < k) (sym g.counts) h))
      ∙ get_or-take (get_or s.counts c 0) (drop (task_places * c) s.rows) p 0 l
      ∙ get_or-drop (task_places * c) s.rows p 0

  -- a task that runs, by the tables
  runs_at : (c t : ℕ) → running (machine_of n s) c ≡ some t → Busy s c × (task_at s c 0 ≡ t)
  runs_at c t e =
      let k : (0 < length (row (machine_of n s) c)) × (get_or (row (machine_of n s) c) 0 0 ≡ t) = head_at (row (machine_of n s) c) t e in
      let busy : 0 < get_or s.counts c 0 = omega (arith, row_length c, k.0) in
      (busy, sym (row_place c 0 (subst (λ (k : ℕ). c < k) g.counts (counted s.counts c busy)) busy) ∙ k.1)
    where
      counted : (ks : List ℕ) (c : ℕ) → 0 < get_or ks c 0 → c < length ks
      counted [] c h = absurd (not-suc-le-zero h)
      counted (k ∷ ks) zero h = omega arith
      counted (k ∷ ks) (suc c) h = Prim.Native.Nat.suc-le-suc (counted ks c h)

  -- a task that waits, by the tables
  waits_at : (c p : ℕ) → c < n → 0 < p → p < get_or s.counts c 0 → In (task_at s c p) (waiting (machine_of n s))
  waits_at c p h l k =
      subst (λ (t : ℕ). In t (waiting (machine_of n s))) (row_place c p h k)
      (in_tails (get_or (row (machine_of n s) c) p 0) c (rows_of s.counts s.rows)
      (tail_at (row (machine_of n s) c) p l (omega (arith, row_length c))))

  -- a runnable task, by the tables: it stands at one place, and at no other
  stands_at : (t : ℕ) → get_or s.state t 0 ≡ runnable
      → (c : ℕ) × (p : ℕ) × (c < n) × (p < get_or s.counts c 0) × (task_at s c p ≡ t)
      × ((d q : ℕ) → d < n → q < get_or s.counts d 0 → task_at s d q ≡ t → (d ≡ c) × (q ≡ p))
  stands_at t h =
      let m = machine_of n s in
      let w = g.machine in
      let c = (task_of m t).cpu in
      let i : In t (row m c) = row_in m t w h in
      let inside : place t (row m c) < length (row m c) = place_lt t (row m c) i in
      let small : c < n = (runnable_fit m t w h).cpu in
      let stored : place t (row m c) < get_or s.counts c 0 = omega (arith, row_length c) in (
        c,
        place t (row m c),
        small,
        stored,
        sym (row_place c (place t (row m c)) small stored) ∙ place_is t (row m c) i,
        λ d q l k e.
            let here : get_or (row m d) q 0 ≡ t = row_place d q l k ∙ e in
            let long : q < length (row m d) = omega (arith, row_length d) in
            let home : d ≡ (task_of m t).cpu = sym (in_row m t d w (subst (λ (u : ℕ). In u (row m d)) here (in_get_or (row m d) q long))).1 in
            let at_home : get_or (row m c) q 0 ≡ t = subst (λ (x : ℕ). get_or (row m x) q 0 ≡ t) home here in
            let long_home : q < length (row m c) = subst (λ (x : ℕ). q < length (row m x)) home long in
            (home, only (row m c) t q (place t (row m c)) (once m t c w) long_home inside at_home (place_is t (row m c) i)),
      )

-- ---- the log by its numbers

module _ (vs : List Move) (old : List ℕ) (s : Tables) (log : s.log ≡ logged vs old) where
  -- number j of entry i, as the moves have it
  entry_is : (i j : ℕ) → i < length vs → j < entry_width → entry_at s i j ≡ get_or (entry_numbers (get_or vs i no_move)) j 0
  entry_is i j h l = ap (λ (q : List ℕ). get_or q (entry_width * i + j) 0) log ∙ logged_entry vs old i j h l

  entries_are : Entries s vs
  entries_are =
      record {
        mover = λ i h. entry_is i 0 h (omega arith) ∙ sym (get_or-map (λ (v : Move). v.task) vs i no_move);
        origin = λ i h. entry_is i 1 h (omega arith) ∙ sym (get_or-map (λ (v : Move). v.origin) vs i no_move);
        receiver = λ i h. entry_is i 2 h (omega arith) ∙ sym (get_or-map (λ (v : Move). v.target) vs i no_move);
        displaced = λ i h. entry_is i 3 h (omega arith) ∙ sym (get_or-map (λ (v : Move). v.displaced) vs i no_move);
      }

-- ---- demand 3

module _ (n : ℕ) (r : Record) (s : Tables) (e : Event) (h : event_answer n r s e ≡ 0) where
  abbrev result_of : Result
  result_of = handled n r s e

  abbrev log : List Move
  log = (outcome (machine_of n s) e).log

  abbrev start : Machine
  start = effect e (machine_of n s)

  pub handled_lent : LentDemand3 n result_of.moves start result_of.tables
  handled_lent =
      record {
        few = subst (λ (k : ℕ). k ≤ most_moves (length (online_cpus start))) (demand.counted.0 ∙ sym count) demand.few;
        no_task_twice = λ i j l k q.
            once_each (movers log) demand.no_task_twice i j l (movers_long j k) (sym (mover i (omega arith)) ∙ q ∙ mover j k);
        no_cpu_twice = λ i j l k q.
            once_each (receivers log) demand.no_cpu_twice i j l (receivers_long j k) (sym (receiver i (omega arith)) ∙ q ∙ receiver j k);
        falling = λ i j l k.
            let low : get_or start.prio (get_or (movers log) j 0) 0 ≤ get_or start.prio (get_or (movers log) i 0) 0 =
            falling_at (prio_of start) (movers log) demand.falling i j l (movers_long j k) in
            subst (λ (t : ℕ). get_or start.prio (mover_at result_of.tables j) 0 ≤ get_or start.prio t 0) (sym (mover i (omega arith)))
            (subst (λ (t : ℕ). get_or start.prio t 0 ≤ get_or start.prio (get_or (movers log) i 0) 0) (sym (mover j k)) low);
        counted = (log, demand.counted.1, count, entries_are log s.log result_of.tables (handled_log n r s e h));
        closing = λ c p d l z k m a b. closing c p d l z k m a b;
        stands = stands_at n result_of.cpupri result_of.tables good;
      }
    where
      end : Machine
      end = machine_of n result_of.tables

      good : Good n result_of.cpupri result_of.tables
      good = handled_good n r s e h

      demand : Demand3 start (outcome (machine_of n s) e).moves log (machine_of n result_of.tables)
      demand = handled_demand3 n r s e h

      count : result_of.moves ≡ length log
      count = handled_moves n r s e h

      mover : (i : ℕ) → i < result_of.moves → mover_at result_of.tables i ≡ get_or (movers log) i 0
      mover i k = (entries_are log s.log result_of.tables (handled_log n r s e h)).mover i (subst (λ (m : ℕ). i < m) count k)

      receiver : (i : ℕ) → i < result_of.moves → receiver_at result_of.tables i ≡ get_or (receivers log) i 0
      receiver i k = (entries_are log s.log result_of.tables (handled_log n r s e h)).receiver i (subst (λ (m : ℕ). i < m) count k)

      movers_long : (j : ℕ) → j < result_of.moves → j < length (movers log)
      movers_long j k = subst (λ (m : ℕ). j < m) (count ∙ sym (length-map log (λ (v : Move). v.task))) k

      receivers_long : (j : ℕ) → j < result_of.moves → j < length (receivers log)
      receivers_long j k = subst (λ (m : ℕ). j < m) (count ∙ sym (length-map log (λ (v : Move). v.target))) k

      closing : (c p d : ℕ) → c < n → 0 < p → p < get_or result_of.tables.counts c 0 → d < n
          → bit (get_or result_of.tables.mask (task_at result_of.tables c p) 0) d ≡ true
          → bit result_of.tables.online d ≡ true → Busy result_of.tables d
          × (get_or result_of.tables.prio (task_at result_of.tables c p) 0 ≤ get_or result_of.tables.prio (task_at result_of.tables d 0) 0)
      closing c p d l z k m a b =
          let o : Outdone (machine_of n result_of.tables) (task_at result_of.tables c p) d =
          demand.closing (task_at result_of.tables c p) d (waits_at n result_of.cpupri result_of.tables good c p l z k) m (and_both _ _ a b) in
          let u : Busy result_of.tables d × (task_at result_of.tables d 0 ≡ o.0) = runs_at n result_of.cpupri result_of.tables good d o.0 o.1 in
          (u.0, subst (λ (t : ℕ). get_or result_of.tables.prio (task_at result_of.tables c p) 0 ≤ get_or result_of.tables.prio t 0) (sym u.1) o.2)
