-- The search along the rows: what the lent tables say of a row, and how one more row changes the best of those that pass the test.
-- Assumes nothing.
use mathlib.Core.Path.{◌≡◌, refl, sym, ap, ◌∙◌, subst}
use mathlib.Core.Bool.{Bool, true, false, not, ◌&&◌, false≢true}
use mathlib.Core.Logic.{◌≢◌, ◌⊎◌, inl, inr}
use mathlib.Core.List.{List, [], ◌∷◌, tail}
use Prim.Native.Nat.{ℕ, zero, suc, ◌+◌, ◌-◌, ◌*◌, ◌≤◌, ◌<◌}
use native.Mathlib.Nat.{not-suc-le-zero, le_of_suc-le-suc}
use native.Mathlib.Omega.{arith}
use lib.Arith.{lt_of_le-ne}
use lib.Bits.{bit_and}
use lib.Dec.{eqb, ltb, leb}
use lib.ListN.{length, get_or}
use borrow.Author.Tests.{ltb-true, ltb-false, eqb-true, eqb-false, leb-true, leb-false}
use Rattle.bits.proofs.Tests.{and_left, and_right, and_both, fails}
use Rattle.cpupri.specs.Level.{level_of}
use Rattle.cpupri.specs.Record.{record_of}
use Rattle.rules.specs.Lists.{In, Falling, place, occ}
use Rattle.bits.specs.Bit.{bit}
use Rattle.rules.specs.Machine.{Machine, task_of, prio_of, row, level, levels, allowed, runnable, task_places, highest_priority}
use Rattle.rules.specs.Tables.{nothing}
use Rattle.rules.specs.WellFormed.{Fit}
use Rattle.laws.proofs.Apart.{in_row, once, runnable_fit, runnable_place}
use Rattle.laws.proofs.Choice.{movable_one}
use Rattle.laws.proofs.Finder.{lower_movable}
use Rattle.laws.proofs.Lists.{in_there, in_get_or, occ_cons, digit_same, not_in_nil, falling_at}
use Rattle.laws.proofs.Order.{place_lt, place_there, place_is}
use Rattle.ranking.specs.Row.{ahead}
use Rattle.runqueue.specs.Table.{HoldsRows, row_at}
use Rattle.ranking.proofs.Places.{place_le, ahead_before, ahead_here}
use Rattle.runqueue.proofs.Flat.{count_is, rows_fit, place_at, lent_tasks, tasks_row}
use Rattle.placement.specs.Held.{Held}
use Rattle.placement.proofs.Order.{well_formed_order, holds, read_row, cpus_counted, above}
use Rattle.waiting.specs.Wanted.{meant, Told, passing, least, wanted, Searchable}
use Rattle.std.specs.Prelude.{Option, Some, None}
use Rattle.mover.specs.Foremost.{Looking, BestOf, Higher, HigherIn, OnlyAbove, FirstAlone}
use Rattle.mover.specs.declared.pick.Above.{Above}
use Rattle.mover.specs.declared.pick.Above.TheVariants.{Nobody, One, Several}
use Rattle.waiting.specs.Waiting.{NextWaiting}
use Rattle.waiting.proofs.Waiting.{until, nobody_before, until_most, until_least}
use Rattle.mover.specs.declared.pick.Mover.{Mover}
use Rattle.waiting.specs.declared.scan.Test.{Test}
use Rattle.waiting.specs.declared.scan.Test.TheVariants.{Movable, Drawn}

-- ---- the priority that is to be beaten

abbrev pub floor_of : ℕ → Option Mover → ℕ
floor_of least None = least
floor_of least (Some b) = b.priority

-- any such priority: while there is none, one below all who wait and pass
abbrev pub Floor : (ℕ → Bool) → Machine → ℕ → Option Mover → Type 0
Floor q m floor None = (d : ℕ) → d < m.n → (u : ℕ) → In u (tail (row m d)) → q u ≡ true → floor < prio_of m u
Floor q m floor (Some b) = floor ≡ b.priority

-- ---- tails

pub tail_in : (u : ℕ) (r : List ℕ) → In u (tail r) → In u r
tail_in u [] i = i
tail_in u (x ∷ xs) i = in_there u x xs i

length_tail : (r : List ℕ) → length r ≡ suc (length (tail r)) ⊎ (r ≡ [])
length_tail [] = inr refl
length_tail (x ∷ xs) = inl refl

get_d_tail : (r : List ℕ) (k : ℕ) → get_or (tail r) k 0 ≡ get_or r (suc k) 0
get_d_tail [] k = refl
get_d_tail (x ∷ xs) k = refl

-- a row of fewer than two tasks has none that waits
short : (r : List ℕ) (u : ℕ) → length r < 2 → In u (tail r) → ⊥
short [] u h i = not_in_nil u i
short (x ∷ []) u h i = not_in_nil u i
short (x ∷ (y ∷ r)) u h i = not-suc-le-zero (le_of_suc-le-suc (le_of_suc-le-suc h))

-- a task that waits stands one place further in the row than in its tail
place_tail : (u : ℕ) (r : List ℕ) → occ u r ≤ 1 → In u (tail r) → place u r ≡ suc (place u (tail r))
place_tail u [] h i = absurd (not_in_nil u i)
place_tail u (x ∷ xs) h i = place_there u x xs (λ e. twice e)
  where
    twice : u ≡ x → ⊥
    twice e = omega (arith, occ_cons u x xs, digit_same u x e)

-- the walk came to the end: nothing that waits is wanted
none_wanted : (p : ℕ → Bool) (r : List ℕ) → suc (ahead p (tail r)) ≡ length r → (u : ℕ) → In u (tail r) → p u ≡ false
none_wanted p r e u i = go (length_tail r)
  where
    go : (length r ≡ suc (length (tail r))) ⊎ (r ≡ []) → p u ≡ false
    go (inl s) = ap p (sym (place_is u (tail r) i)) ∙ ahead_before p (tail r) (place u (tail r)) (omega (arith, place_lt u (tail r) i))
    go (inr z) = absurd (not_in_nil u (subst (λ (q : List ℕ). In u (tail q)) z i))

tail_reach : (r : List ℕ) (at : ℕ) → suc at < length r → at < length (tail r)
tail_reach r at l = go (length_tail r)
  where
    go : (length r ≡ suc (length (tail r))) ⊎ (r ≡ []) → at < length (tail r)
    go (inl s) = omega arith
    go (inr z) = absurd (let e : length r ≡ 0 = ap length z in omega arith)

-- rows below c + 1: those below c, and row c
pub below_next : (c : ℕ) (P : ℕ → Type 0) → ((d : ℕ) → d < c → P d) → P c → (d : ℕ) → d < suc c → P d
below_next c P old new d h = go (eqb d c) refl
  where
    go : (b : Bool) → eqb d c ≡ b → P d
    go true e = subst P (sym (eqb-true d c e)) new
    go false e = let n = eqb-false d c e in old d (lt_of_le-ne (le_of_suc-le-suc h) n)

module _ {m : Machine} {ps ms ks flat : List ℕ} (k : Looking m ps ms ks flat) where
  looking_held : Held m ps ks flat (record_of (levels m))
  looking_held = record { order = well_formed_order m k.well; prio = k.prio; counts = k.counts; rows = k.rows; levels = refl }

  looking_rows : HoldsRows ks flat
  looking_rows = holds m ps ks flat (record_of (levels m)) looking_held

  pub looking_cpus : length ks ≡ m.n
  looking_cpus = cpus_counted m ps ks flat (record_of (levels m)) looking_held

  module _ (c : ℕ) (hc : c < m.n) where
    here : c < length ks
    here = omega (arith, looking_cpus)

    row_is : row_at ks flat c ≡ row m c
    row_is = read_row m ps ks flat (record_of (levels m)) looking_held c

    row_count : get_or ks c 0 ≡ length (row m c)
    row_count = count_is ks flat looking_rows c here ∙ ap length row_is

    -- the tasks of the row, as they are lent
    tasks_are : lent_tasks flat c (get_or ks c 0) ≡ row m c
    tasks_are = tasks_row looking_rows c here ∙ row_is

    pub lent_count : length (lent_tasks flat c (get_or ks c 0)) ≡ get_or ks c 0
    lent_count = ap length tasks_are ∙ sym row_count

    task_in : (i : ℕ) → i < get_or ks c 0 → In (get_or (row m c) i 0) (row_at ks flat c)
    task_in i h = subst (In (get_or (row m c) i 0)) (sym row_is) (in_get_or (row m c) i (omega (arith, row_count)))

    pub row_fits : c * 512 + 512 ≤ length flat
    row_fits = omega (arith, rows_fit ks flat looking_rows c here)

    pub row_most : get_or ks c 0 ≤ task_places
    row_most = omega (arith, row_count, looking_held.order.fits c)

    -- a task of the row, where it is stored
    stored_at : (i : ℕ) → i < get_or ks c 0 → get_or flat (c * task_places + i) 0 ≡ get_or (row m c) i 0
    stored_at i h =
        place_at ks flat looking_rows c here i (omega (arith, ap length row_is, row_count)) ∙ ap (λ (r : List ℕ). get_or r i 0) row_is

    pub stored_small : (i : ℕ) → i < get_or ks c 0 → get_or flat (c * task_places + i) 0 < task_places
    stored_small i h =
        subst (λ (u : ℕ). u < task_places) (sym (stored_at i h)) (above m ps ks flat (record_of (levels m)) looking_held c (get_or (row m c) i 0) (task_in i h)).0

    pub stored_high : (i : ℕ) → i < get_or ks c 0 → get_or ps (get_or flat (c * task_places + i) 0) 0 ≤ highest_priority
    stored_high i h =
        subst (λ (u : ℕ). get_or ps u 0 ≤ highest_priority) (sym (stored_at i h)) (above m ps ks flat (record_of (levels m)) looking_held c (get_or (row m c) i 0) (task_in i h)).1

    -- a walk along its tasks, for any test
    module _ (p : ℕ → Bool) (at : ℕ) (is : at ≡ suc (ahead p (tail (lent_tasks flat c (get_or ks c 0))))) where
      scanned : at ≡ suc (ahead p (tail (row m c)))
      scanned = is ∙ ap (λ (r : List ℕ). suc (ahead p (tail r))) tasks_are

    in_tables : (i : ℕ) → i < length (row m c) → (get_or (row m c) i 0 < task_places) × (get_or ps (get_or (row m c) i 0) 0 ≤ highest_priority)
    in_tables i h = above m ps ks flat (record_of (levels m)) looking_held c (get_or (row m c) i 0) (task_in i (omega (arith, row_count)))

    -- they can be searched
    pub searchable : 1 ≤ get_or ks c 0 → Searchable ps ms (lent_tasks flat c (get_or ks c 0))
    searchable some =
        subst (Searchable ps ms) (sym tasks_are)
        (record {
          some = omega (arith, row_count);
          prios = ap length k.prio ∙ k.well.shape.prio;
          masks = ap length k.mask ∙ k.well.shape.mask;
          tasks = λ i h. (in_tables i h).0;
          high = λ i h. (in_tables i h).1;
          falling = subst (λ (qs : List ℕ). Falling (λ (u : ℕ). get_or qs u 0) (row m c)) (sym k.prio) (k.well.falling c);
        })

    module _ (u : ℕ) (i : In u (row m c)) where
      runs : (task_of m u).state ≡ runnable
      runs = (in_row m u c k.well i).0

      fit : Fit m.n m.full (task_of m u)
      fit = runnable_fit m u k.well runs

      a_task : u ≢ nothing
      a_task e = let small : u < task_places = runnable_place m u k.well runs in omega arith

      passing_is : (test : Test) (under : List ℕ) → Told m test under → passing test under u (prio_of m u) (task_of m u).mask ≡ meant m test u
      unfolding passing
      passing_is (Movable low) under told =
          ap (λ (us : List ℕ). not (eqb (bit_and (get_or us (level_of (prio_of m u)) 0) (task_of m u).mask) 0)) told.0 ∙ lower_movable m k.well u fit
      passing_is (Drawn d l new) under told = refl

      -- by the columns and the CPUs below each level the test says what is meant
      wanted_is : (test : Test) (under : List ℕ) → Told m test under → (floor : ℕ) → wanted test under ps ms floor u ≡ (ltb floor (prio_of m u) && meant m test u)
      unfolding wanted
      wanted_is test under told floor =
          ap (λ (qs : List ℕ). ltb floor (get_or qs u 0) && passing test under u (get_or qs u 0) (get_or ms u 0)) k.prio
          ∙ ap (λ (qs : List ℕ). ltb floor (prio_of m u) && passing test under u (prio_of m u) (get_or qs u 0)) k.mask
          ∙ ap (λ (b : Bool). ltb floor (prio_of m u) && b) (passing_is test under told)

      -- and who passes is above the least priority
      above_least : (test : Test) (under : List ℕ) → Told m test under → meant m test u ≡ true → least test < prio_of m u
      above_least (Movable low) under told t =
          let f : (c : ℕ) × (c < m.n) × (allowed m u c ≡ true) × (level m c < level_of (prio_of m u)) = movable_one m u t in
          omega (arith, told.1 f.0 f.1, f.3, fit.prio_low)
      above_least (Drawn d l None) under told t =
          let reach : l < level_of (prio_of m u) = ltb-true l (level_of (prio_of m u)) (and_right (bit (task_of m u).mask d) (ltb l (level_of (prio_of m u))) t) in
          omega (arith, fit.prio_low)
      above_least (Drawn d l (Some x)) under told t = fit.prio_low

  module _ (test : Test) (under : List ℕ) (told : Told m test under) (c : ℕ) (hc : c < m.n) where
    -- who passes and is not wanted is not above the floor
    not_above : (floor u : ℕ) → In u (row m c) → wanted test under ps ms floor u ≡ false → meant m test u ≡ true → prio_of m u ≤ floor
    not_above floor u i e t = go (ltb floor (prio_of m u)) refl
      where
        go : (b : Bool) → ltb floor (prio_of m u) ≡ b → prio_of m u ≤ floor
        go true q = absurd (false≢true (sym e ∙ wanted_is c hc u i test under told floor ∙ and_both (ltb floor (prio_of m u)) (meant m test u) q t))
        go false q = ltb-false floor (prio_of m u) q

    -- a task of this row is wanted, and none before it: it is the foremost there
    module _ (floor a : ℕ) (is : a ≡ ahead (wanted test under ps ms floor) (tail (row m c))) (in_reach : a < length (tail (row m c))) where
      abbrev queue : List ℕ
      queue = tail (row m c)

      abbrev task : ℕ
      task = get_or queue a 0

      task_waits : In task queue
      task_waits = in_get_or queue a in_reach

      row_size_is : length (row m c) ≡ suc (length queue)
      row_size_is = go (length_tail (row m c)) in_reach
        where
          go : (length (row m c) ≡ suc (length queue)) ⊎ (row m c ≡ []) → a < length queue → length (row m c) ≡ suc (length queue)
          go (inl e) h = e
          go (inr e) h = absurd (not-suc-le-zero (subst (λ (r : List ℕ). a < length (tail r)) e h))

      is_wanted : (ltb floor (prio_of m task) && meant m test task) ≡ true
      is_wanted =
          sym (wanted_is c hc task (tail_in task (row m c) task_waits) test under told floor)
          ∙ subst (λ (i : ℕ). wanted test under ps ms floor (get_or queue i 0) ≡ true) (sym is)
          (ahead_here (wanted test under ps ms floor) queue (subst (λ (i : ℕ). i < length queue) is in_reach))

      higher : floor < prio_of m task
      higher = ltb-true floor (prio_of m task) (and_left (ltb floor (prio_of m task)) (meant m test task) is_wanted)

      -- who passes in the row and is at least as high stands at or behind it
      behind : (u : ℕ) → In u queue → meant m test u ≡ true → prio_of m task ≤ prio_of m u → a ≤ place u queue
      behind u i t q = go (leb a (place u queue)) refl
        where
          go : (x : Bool) → leb a (place u queue) ≡ x → a ≤ place u queue
          go true e = leb-true a (place u queue) e
          go false e =
              let before : place u queue < a = leb-false a (place u queue) e in
              let not_wanted : wanted test under ps ms floor u ≡ false =
              ap (wanted test under ps ms floor) (sym (place_is u queue i))
              ∙ ahead_before (wanted test under ps ms floor) queue (place u queue) (subst (λ (x : ℕ). place u queue < x) is before) in
              let low : prio_of m u ≤ floor = not_above floor u (tail_in u (row m c) i) not_wanted t in
              absurd (let h : floor < prio_of m task = higher in omega arith)

      -- and none is higher
      row_highest : (u : ℕ) → In u queue → meant m test u ≡ true → prio_of m u ≤ prio_of m task
      row_highest u i t = go (leb (prio_of m u) (prio_of m task)) refl
        where
          go : (x : Bool) → leb (prio_of m u) (prio_of m task) ≡ x → prio_of m u ≤ prio_of m task
          go true e = leb-true (prio_of m u) (prio_of m task) e
          go false e =
              let above_it : prio_of m task < prio_of m u = leb-false (prio_of m u) (prio_of m task) e in
              let later : a ≤ place u queue = behind u i t (omega arith) in
              let falls : prio_of m (get_or (row m c) (suc (place u queue)) 0) ≤ prio_of m (get_or (row m c) (suc a) 0) =
              falling_at (prio_of m) (row m c) (k.well.falling c) (suc a) (suc (place u queue)) (omega arith) (omega (arith, row_size_is, place_lt u queue i)) in
              let at_u : prio_of m (get_or (row m c) (suc (place u queue)) 0) ≡ prio_of m u = ap (prio_of m) (sym (get_d_tail (row m c) (place u queue)) ∙ place_is u queue i) in
              let at_task : prio_of m (get_or (row m c) (suc a) 0) ≡ prio_of m task = ap (prio_of m) (sym (get_d_tail (row m c) a)) in
              absurd (omega arith)

      new_higher : (new : Mover) → new.task ≡ task → new.origin ≡ c → new.priority ≡ prio_of m task → Higher (meant m test) m c floor new
      new_higher new et eo ep =
          record {
            origin = eo;
            waits = subst (λ (t : ℕ). In t queue) (sym et) task_waits;
            passes = subst (λ (t : ℕ). meant m test t ≡ true) (sym et) (and_right (ltb floor (prio_of m task)) (meant m test task) is_wanted);
            prio = ep ∙ ap (prio_of m) (sym et);
            above = omega (arith, higher);
            highest = λ u i t. let low : prio_of m u ≤ prio_of m task = row_highest u i t in omega arith;
            earliest = λ u i t q. first u i t (omega arith);
          }
        where
          first : (u : ℕ) → In u queue → meant m test u ≡ true → prio_of m task ≤ prio_of m u → place new.task (row m c) ≤ place u (row m c)
          first u i t q =
              let mine : place new.task (row m c) ≤ suc a = place_le new.task (row m c) (suc a) (sym (get_d_tail (row m c) a) ∙ sym et) in
              let later : a ≤ place u queue = behind u i t q in
              let its : place u (row m c) ≡ suc (place u queue) = place_tail u (row m c) (once m u c k.well) i in
              omega arith

    -- ---- the scan of the row, for a task above a priority

    -- there is none
    pub none_higher : (floor : ℕ)
        → length (lent_tasks flat c (get_or ks c 0)) ≡ suc (ahead (wanted test under ps ms floor) (tail (lent_tasks flat c (get_or ks c 0))))
        → HigherIn (meant m test) m c floor None
    none_higher floor is u i t = not_above floor u (tail_in u (row m c) i) (unwanted u i) t
      where
        unwanted : (u : ℕ) → In u (tail (row m c)) → wanted test under ps ms floor u ≡ false
        unwanted = none_wanted (wanted test under ps ms floor) (row m c) (sym (scanned c hc (wanted test under ps ms floor) _ is) ∙ ap length (tasks_are c hc))

    -- the task there is it
    module _ (floor at : ℕ) (l : at < get_or ks c 0)
        (is : at ≡ suc (ahead (wanted test under ps ms floor) (tail (lent_tasks flat c (get_or ks c 0))))) where
      here_is : at ≡ suc (ahead (wanted test under ps ms floor) (tail (row m c)))
      here_is = scanned c hc (wanted test under ps ms floor) at is

      first : suc (at - 1) ≡ at
      first = omega (arith, here_is)

      found : get_or flat (c * 512 + at) 0 ≡ get_or (tail (row m c)) (at - 1) 0
      found = stored_at c hc at l ∙ ap (λ (i : ℕ). get_or (row m c) i 0) (sym first) ∙ sym (get_d_tail (row m c) (at - 1))

      pub one_higher : (new : Mover) → new.task ≡ get_or flat (c * 512 + at) 0 → new.origin ≡ c
          → new.priority ≡ get_or ps (get_or flat (c * 512 + at) 0) 0 → Higher (meant m test) m c floor new
      one_higher new et eo ep =
          new_higher floor (at - 1) (omega (arith, here_is)) (tail_reach (row m c) (at - 1) (omega (arith, first, row_count c hc))) new (et ∙ found) eo
          (ep ∙ ap (λ (u : ℕ). get_or ps u 0) found ∙ ap (λ (qs : List ℕ). get_or qs (get_or (tail (row m c)) (at - 1) 0) 0) k.prio)

    -- ---- the best with one row more

    -- nobody in this row is higher: the best stays
    pub keep_best : (best : Option Mover) (floor : ℕ) → floor ≡ floor_of (least test) best → BestOf (meant m test) m c best
        → HigherIn (meant m test) m c floor None → BestOf (meant m test) m (suc c) best
    keep_best None floor e old none =
        below_next c (λ (d : ℕ). (u : ℕ) → In u (tail (row m d)) → meant m test u ≡ false) old
        (λ u i. fails (meant m test u) (λ t.
        let low : prio_of m u ≤ floor = none u i t in
        let high : least test < prio_of m u = above_least c hc u (tail_in u (row m c) i) test under told t in
        omega arith))
    keep_best (Some b) floor e f none =
        record {
          cpu = omega (arith, f.cpu);
          waits = f.waits;
          passes = f.passes;
          prio = f.prio;
          highest = below_next c (λ (d : ℕ). (u : ℕ) → In u (tail (row m d)) → meant m test u ≡ true → prio_of m u ≤ b.priority) f.highest
              (λ u i t. let low : prio_of m u ≤ floor = none u i t in omega arith);
          lowest_cpu = below_next c (λ (d : ℕ). (u : ℕ) → In u (tail (row m d)) → meant m test u ≡ true → b.priority ≤ prio_of m u → b.origin ≤ d) f.lowest_cpu
              (λ u i t q. omega (arith, f.cpu));
          earliest = f.earliest;
        }

    -- one is: it is the best
    pub beat_best : (best : Option Mover) (floor : ℕ) → floor ≡ floor_of (least test) best → BestOf (meant m test) m c best
        → (new : Mover) → Higher (meant m test) m c floor new → BestOf (meant m test) m (suc c) (Some new)
    beat_best best floor e old new h =
        record {
          cpu = omega (arith, h.origin);
          waits = subst (λ (d : ℕ). In new.task (tail (row m d))) (sym h.origin) h.waits;
          passes = h.passes;
          prio = h.prio;
          highest = below_next c (λ (d : ℕ). (u : ℕ) → In u (tail (row m d)) → meant m test u ≡ true → prio_of m u ≤ new.priority)
              (λ d l u i t. let low : prio_of m u ≤ floor = older best e old d l u i t in omega (arith, h.above)) h.highest;
          lowest_cpu = below_next c (λ (d : ℕ). (u : ℕ) → In u (tail (row m d)) → meant m test u ≡ true → new.priority ≤ prio_of m u → new.origin ≤ d)
              (λ d l u i t q. absurd (let low : prio_of m u ≤ floor = older best e old d l u i t in let up : floor < new.priority = h.above in omega arith))
              (λ u i t q. omega (arith, h.origin));
          earliest = subst (λ (d : ℕ). (u : ℕ) → In u (tail (row m d)) → meant m test u ≡ true → new.priority ≤ prio_of m u → place new.task (row m d) ≤ place u (row m d)) (sym h.origin)
              h.earliest;
        }
      where
        -- in the rows before none is as high
        older : (best : Option Mover) → floor ≡ floor_of (least test) best → BestOf (meant m test) m c best
            → (d : ℕ) → d < c → (u : ℕ) → In u (tail (row m d)) → meant m test u ≡ true → prio_of m u ≤ floor
        older None e old d l u i t = absurd (false≢true (sym (old d l u i) ∙ t))
        older (Some b) e f d l u i t = let low : prio_of m u ≤ b.priority = f.highest d l u i t in omega arith

    -- the same for any priority that is to be beaten
    kept_by : (best : Option Mover) (floor : ℕ) → Floor (meant m test) m floor best → BestOf (meant m test) m c best
        → HigherIn (meant m test) m c floor None → BestOf (meant m test) m (suc c) best
    kept_by None floor f old none =
        below_next c (λ (d : ℕ). (u : ℕ) → In u (tail (row m d)) → meant m test u ≡ false) old
        (λ u i. fails (meant m test u) (λ t.
        let low : prio_of m u ≤ floor = none u i t in
        let high : floor < prio_of m u = f c hc u i t in
        omega arith))
    kept_by (Some b) floor f old none = keep_best (Some b) floor f old none

    beaten_by : (best : Option Mover) (floor : ℕ) → Floor (meant m test) m floor best → BestOf (meant m test) m c best
        → (new : Mover) → Higher (meant m test) m c floor new → BestOf (meant m test) m (suc c) (Some new)
    beaten_by None floor f old new h =
        beat_best None (least test) refl old new
        (record {
          origin = h.origin;
          waits = h.waits;
          passes = h.passes;
          prio = h.prio;
          above = let high : least test < prio_of m new.task = above_least c hc new.task (tail_in new.task (row m c) h.waits) test under told h.passes in omega (arith, h.prio);
          highest = h.highest;
          earliest = h.earliest;
        })
    beaten_by (Some b) floor f old new h = beat_best (Some b) floor f old new h

    -- the scan of a row for a task above that priority
    module _ (best : Option Mover) (floor : ℕ) (is_floor : Floor (meant m test) m floor best) (old : BestOf (meant m test) m c best) (at : ℕ)
        (is : at ≡ suc (ahead (wanted test under ps ms floor) (tail (lent_tasks flat c (get_or ks c 0))))) where
      -- it came to the end: the best stays
      pub kept : at ≡ get_or ks c 0 → BestOf (meant m test) m (suc c) best
      kept e = kept_by best floor is_floor old (none_higher floor (lent_count c hc ∙ sym e ∙ is))

      -- it ended before: the task there is the best
      pub beaten : at < get_or ks c 0 → (new : Mover) → new.task ≡ get_or flat (c * 512 + at) 0 → new.origin ≡ c
          → new.priority ≡ get_or ps (get_or flat (c * 512 + at) 0) 0 → BestOf (meant m test) m (suc c) (Some new)
      beaten l new et eo ep = beaten_by best floor is_floor old new (one_higher floor at l is new et eo ep)

  -- before the first row none passes
  pub no_best : (q : ℕ → Bool) → BestOf q m 0 None
  no_best q d h = absurd (not-suc-le-zero h)

  -- from CPU c up to the next on which a task waits nobody does
  waits_below : (c n : ℕ) (o : Option ℕ) → n ≡ m.n → NextWaiting ks c n o → (d : ℕ) → d < until n o → (u : ℕ) → In u (tail (row m d)) → d < c
  waits_below c n o size next d l u i = go (ltb d c) refl
    where
      go : (x : Bool) → ltb d c ≡ x → d < c
      go true e = ltb-true d c e
      go false e =
          let few : get_or ks d 0 < 2 = nobody_before ks c n o next d l (ltb-false d c e) in
          let size_is : get_or ks d 0 ≡ length (row m d) = row_count d (omega (arith, until_most ks c n o next)) in
          absurd (short (row m d) u (omega arith) i)

  -- the best stays
  pub skip_best : (q : ℕ → Bool) (best : Option Mover) (c n : ℕ) (o : Option ℕ) → n ≡ m.n → c ≤ n → NextWaiting ks c n o → BestOf q m c best → BestOf q m (until n o) best
  skip_best q None c n o size le next old = λ d l u i. old d (waits_below c n o size next d l u i) u i
  skip_best q (Some b) c n o size le next f =
      record {
        cpu = omega (arith, f.cpu, until_least ks c n o le next);
        waits = f.waits;
        passes = f.passes;
        prio = f.prio;
        highest = λ d l u i. f.highest d (waits_below c n o size next d l u i) u i;
        lowest_cpu = λ d l u i. f.lowest_cpu d (waits_below c n o size next d l u i) u i;
        earliest = f.earliest;
      }

  -- ---- who is above a level

  -- who stands at place i of a row is not: nobody from there on is
  low_from : (c : ℕ) → c < m.n → (i : ℕ) → i < get_or ks c 0 → (l : ℕ) → level_of (get_or ps (get_or flat (c * task_places + i) 0) 0) ≤ l
      → (u : ℕ) → In u (tail (row m c)) → i ≤ suc (place u (tail (row m c))) → level_of (prio_of m u) ≤ l
  low_from c hc i hi l h u w later =
      let size : get_or ks c 0 ≡ length (row m c) = row_count c hc in
      let there : get_or flat (c * task_places + i) 0 ≡ get_or (row m c) i 0 = stored_at c hc i hi in
      let low : level_of (prio_of m (get_or (row m c) i 0)) ≤ l =
      subst (λ (qs : List ℕ). level_of (get_or qs (get_or (row m c) i 0) 0) ≤ l) k.prio (subst (λ (t : ℕ). level_of (get_or ps t 0) ≤ l) there h) in
      let at_u : get_or (row m c) (suc (place u (tail (row m c)))) 0 ≡ u = sym (get_d_tail (row m c) (place u (tail (row m c)))) ∙ place_is u (tail (row m c)) w in
      let falls : prio_of m (get_or (row m c) (suc (place u (tail (row m c)))) 0) ≤ prio_of m (get_or (row m c) i 0) =
      falling_at (prio_of m) (row m c) (k.well.falling c) i (suc (place u (tail (row m c)))) later (inside (length_tail (row m c))) in
      omega (arith, ap (prio_of m) at_u)
    where
      inside : (length (row m c) ≡ suc (length (tail (row m c)))) ⊎ (row m c ≡ []) → suc (place u (tail (row m c))) < length (row m c)
      inside (inl s) = omega (arith, place_lt u (tail (row m c)) w)
      inside (inr z) = absurd (not_in_nil u (subst (λ (q : List ℕ). In u (tail q)) z w))

  -- a row's first waiting task is not: none of the row is
  pub row_low : (c : ℕ) → c < m.n → 2 ≤ get_or ks c 0 → (l : ℕ) → level_of (get_or ps (get_or flat (c * task_places + 1) 0) 0) ≤ l
      → (u : ℕ) → In u (tail (row m c)) → level_of (prio_of m u) ≤ l
  row_low c hc two l h u i = low_from c hc 1 (omega arith) l h u i (omega arith)

  -- where a row's first waiting task is not above a priority, nobody there is
  pub first_low : (q : ℕ → Bool) (c : ℕ) → c < m.n → 2 ≤ get_or ks c 0 → (floor : ℕ)
      → get_or ps (get_or flat (c * task_places + 1) 0) 0 ≤ floor → HigherIn q m c floor None
  first_low q c hc two floor h u i t =
      let l : level_of (prio_of m u) ≤ level_of floor = row_low c hc two (level_of floor) (omega arith) u i in omega arith

  -- so the best of the rows before stays the best
  pub kept_low : (test : Test) (under : List ℕ) → Told m test under → (c : ℕ) → c < m.n → 2 ≤ get_or ks c 0 → (best : Option Mover) (floor : ℕ)
      → Floor (meant m test) m floor best → BestOf (meant m test) m c best → get_or ps (get_or flat (c * task_places + 1) 0) 0 ≤ floor → BestOf (meant m test) m (suc c) best
  kept_low test under told c hc two best floor f old h = kept_by test under told c hc best floor f old (first_low (meant m test) c hc two floor h)

  -- there is no second one, or it is not
  pub none_second : (c : ℕ) → c < m.n → get_or ks c 0 ≡ 2 → (l : ℕ) → FirstAlone m l c
  none_second c hc two l u i up = omega (arith, place_lt u (tail (row m c)) i, tail_one (length_tail (row m c)))
    where
      tail_one : (length (row m c) ≡ suc (length (tail (row m c)))) ⊎ (row m c ≡ []) → length (tail (row m c)) ≤ 1
      tail_one (inl s) = omega (arith, row_count c hc)
      tail_one (inr z) = subst (λ (r : List ℕ). length (tail r) ≤ 1) (sym z) (omega arith)

  pub low_second : (c : ℕ) → c < m.n → 2 < get_or ks c 0 → (l : ℕ) → level_of (get_or ps (get_or flat (c * task_places + 2) 0) 0) ≤ l → FirstAlone m l c
  low_second c hc more l h u i up = go (place u (tail (row m c))) refl
    where
      go : (j : ℕ) → place u (tail (row m c)) ≡ j → place u (tail (row m c)) ≡ 0
      go zero e = e
      go (suc j) e = absurd (let low : level_of (prio_of m u) ≤ l = low_from c hc 2 more l h u i (omega arith) in let no : ⊥ = omega arith in no)

  -- before the first row there is none
  pub none_yet : (l : ℕ) → OnlyAbove m l 0 Nobody
  none_yet l d h = absurd (not-suc-le-zero h)

  module _ (l c : ℕ) (hc : c < m.n) (two : 2 ≤ get_or ks c 0) where
    -- nobody more in this row
    pub row_adds_none : level_of (get_or ps (get_or flat (c * task_places + 1) 0) 0) ≤ l → (a : Above) → OnlyAbove m l c a → OnlyAbove m l (suc c) a
    row_adds_none h Nobody old = below_next c (λ (d : ℕ). (u : ℕ) → In u (tail (row m d)) → level_of (prio_of m u) ≤ l) old (row_low c hc two l h)
    row_adds_none h (One t) old =
        record {
          waits = (old.waits.0, omega (arith, old.waits.1), old.waits.2);
          only = below_next c (λ (d : ℕ). (u : ℕ) → In u (tail (row m d)) → l < level_of (prio_of m u) → u ≡ t) old.only
              (λ u i up. absurd (let low : level_of (prio_of m u) ≤ l = row_low c hc two l h u i in let no : ⊥ = omega arith in no));
        }
    row_adds_none h Several old = tt

    -- this row's first waiting task alone, and nobody before
    pub row_adds_first : OnlyAbove m l c Nobody → FirstAlone m l c → OnlyAbove m l (suc c) (One (get_or flat (c * task_places + 1) 0))
    row_adds_first old alone =
        record {
          waits = (c, omega arith, subst (λ (u : ℕ). In u (tail (row m c))) (sym first) (in_get_or (tail (row m c)) 0 (some_wait (length_tail (row m c)))));
          only = below_next c (λ (d : ℕ). (u : ℕ) → In u (tail (row m d)) → l < level_of (prio_of m u) → u ≡ get_or flat (c * task_places + 1) 0)
              (λ d h u i up. absurd (let low : level_of (prio_of m u) ≤ l = old d h u i in let no : ⊥ = omega arith in no))
              (λ u i up. sym (place_is u (tail (row m c)) i) ∙ ap (λ (k : ℕ). get_or (tail (row m c)) k 0) (alone u i up) ∙ sym first);
        }
      where
        first : get_or flat (c * task_places + 1) 0 ≡ get_or (tail (row m c)) 0 0
        first = stored_at c hc 1 (omega arith) ∙ sym (get_d_tail (row m c) 0)

        some_wait : (length (row m c) ≡ suc (length (tail (row m c)))) ⊎ (row m c ≡ []) → 0 < length (tail (row m c))
        some_wait (inl s) = omega (arith, row_count c hc)
        some_wait (inr z) = absurd (let size : get_or ks c 0 ≡ length (row m c) = row_count c hc in let e : length (row m c) ≡ 0 = ap length z in let no : ⊥ = omega arith in no)

    -- the row has two tasks, and nobody was above the level before: its waiting task alone can be
    pub row_adds_one : OnlyAbove m l c Nobody → get_or ks c 0 ≡ 2 → OnlyAbove m l (suc c) (One (get_or flat (c * task_places + 1) 0))
    row_adds_one none is_two = row_adds_first none (none_second c hc is_two l)

  -- and then some rows in which nobody waits
  pub skip_only : (l c n : ℕ) (o : Option ℕ) (a : Above) → n ≡ m.n → c ≤ n → NextWaiting ks c n o → OnlyAbove m l c a → OnlyAbove m l (until n o) a
  skip_only l c n o Nobody size le next old = λ d h u i. old d (waits_below c n o size next d h u i) u i
  skip_only l c n o (One t) size le next old =
      record {
        waits = (old.waits.0, omega (arith, old.waits.1, until_least ks c n o le next), old.waits.2);
        only = λ d h u i up. old.only d (waits_below c n o size next d h u i) u i up;
      }
  skip_only l c n o Several size le next old = tt
