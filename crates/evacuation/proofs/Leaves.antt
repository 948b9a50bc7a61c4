-- The lent tables while the tasks of a CPU leave it, and the levels when it has gone or come back.
-- Assumes nothing.
use mathlib.Core.Path.{◌≡◌, refl, sym, ap, ◌∙◌, subst}
use mathlib.Core.Bool.{Bool, true, cond}
use mathlib.Core.List.{List, [], ◌∷◌}
use Prim.Native.Nat.{ℕ, ◌*◌, ◌<◌}
use native.Mathlib.Nat.{not-suc-le-zero}
use native.Mathlib.Omega.{arith}
use lib.Bits.{bit_and}
use lib.ListN.{length, get_or, set}
use Rattle.bits.specs.Bit.{lowest, without_bit}
use Rattle.bits.proofs.Word.{bit_put_same, bit_put_other}
use Rattle.cpupri.specs.Record.{record_of, Whole}
use Rattle.levels.specs.declared.record.Record.{Record}
use Rattle.rules.specs.Lists.{In, delete}
use Rattle.rules.specs.Machine.{Machine, task_of, prio_of, row, flag, idle_level, row_level, level, levels, invalid, task_places, cpu_places, with_online, with_cpu, enqueue, dequeue}
use Rattle.rules.specs.Events.{evacuated, taken_offline}
use Rattle.rules.specs.Tables.{flat_of, row_counts}
use Rattle.laws.specs.Leaving.{Leaving, Way, toward, one_less}
use Rattle.laws.proofs.Apart.{runnable_place, runnable_fit}
use Rattle.laws.proofs.Lists.{in_here}
use Rattle.laws.proofs.Online.{Goes, goes, goes_room, less_way, less_row, way_start, way_on, left_rule, row_online, lowest_allowed_lem}
use Rattle.laws.proofs.Rows.{row_same}
use Rattle.laws.proofs.Tables.{length_flat}
use Rattle.runqueue.specs.Table.{HoldsRows, row_at, rows_with}
use Rattle.runqueue.proofs.Flat.{count_is, first_place}
use Rattle.placement.specs.Held.{Held, Entering, Following}
use Rattle.placement.proofs.Levels.{levels_change}
use Rattle.placement.proofs.Order.{holds, read_row, whole as whole-held, cpus_counted, levels_set, well_formed_order}
use Rattle.placement.proofs.Joining.{can_leave, has_left}
use Rattle.evacuation.specs.Going.{Emptying, Emptied, Shifted, Coming}

module _ {m : Machine} {qs cs ks flat ns fs : List ℕ} {r : Record} {c up : ℕ} (l : Emptying m qs cs ks flat ns fs r c up) where
  hold : HoldsRows ns flat
  hold = holds m qs ns flat r l.held

  pub whole : Whole r
  whole = whole-held m qs ns flat r l.held

  pub counted : length ns ≡ m.n
  counted = cpus_counted m qs ns flat r l.held

  pub long : length flat ≡ task_places * m.n
  long =
      let a : length (flat_of m.rows) ≡ task_places * length m.rows = length_flat m.rows l.held.order.fits in
      let b : length flat ≡ length (flat_of m.rows) = ap length l.held.rows in
      omega (arith, l.held.order.rows)

  pub cpus_long : length cs ≡ task_places
  cpus_long = ap length l.cpus ∙ l.leaving.well.shape.cpu

  pub masks_long : length ks ≡ task_places
  masks_long = ap length l.masks ∙ l.leaving.well.shape.mask

  pub small : c < cpu_places
  small = omega (arith, l.leaving.cpu, l.leaving.well.shape.cpus)

  here : c < length ns
  here = omega (arith, counted, l.leaving.cpu)

  row_is : row_at ns flat c ≡ row m c
  row_is = read_row m qs ns flat r l.held c

  -- the row is empty where the count is 0
  pub none_stands : get_or ns c 0 ≡ 0 → row m c ≡ []
  none_stands e = go (row m c) (ap length (sym row_is) ∙ sym (count_is ns flat hold c here) ∙ e)
    where
      go : (q : List ℕ) → length q ≡ 0 → q ≡ []
      go [] e = refl
      go (u ∷ us) e = absurd (omega arith)

  -- ---- the first of the row

  module _ (some : 0 < get_or ns c 0) where
    abbrev t : ℕ
    t = get_or flat (c * task_places) 0

    pub first_row : (ts : List ℕ) × (row m c ≡ get_or flat (c * task_places) 0 ∷ ts)
    first_row = go (row_at ns flat c) refl (omega (arith, count_is ns flat hold c here))
      where
        go : (q : List ℕ) → row_at ns flat c ≡ q → 0 < length q → (ts : List ℕ) × (row m c ≡ t ∷ ts)
        go [] e h = absurd (not-suc-le-zero h)
        go (u ∷ us) e h = (us, sym row_is ∙ e ∙ ap (λ (x : ℕ). x ∷ us) (sym (first_place ns flat hold c here u us e)))

    pub stands : In (get_or flat (c * task_places) 0) (row m c)
    stands = subst (In t) (sym first_row.1) (in_here t first_row.0)

    going : Goes up c m l.leaving t
    going = goes up c m l.leaving t stands

    pub a_task : get_or flat (c * task_places) 0 < task_places
    a_task = runnable_place m t l.leaving.well going.runs

    pub in_place : c * task_places < length flat
    in_place = omega (arith, long, l.leaving.cpu)

    -- where the code looks for its CPU
    pub target_is : {d : ℕ} → d ≡ lowest cpu_places (bit_and (get_or ks (get_or flat (c * task_places) 0) 0) up) → d ≡ toward up m (get_or flat (c * task_places) 0)
    target_is e =
        e ∙ ap (λ (xs : List ℕ). lowest cpu_places (bit_and (get_or xs t 0) up)) l.masks
        ∙ lowest_allowed_lem (with_online up m) (task_of m t).mask l.leaving.well.shape.cpus
        (runnable_fit m t l.leaving.well going.runs).mask_fits (l.leaving.placed t stands)

    -- what `runqueue::table::dequeue` asks
    pub may_leave : HoldsRows ns flat × ((c < length ns) × In (get_or flat (c * task_places) 0) (row_at ns flat c))
    may_leave = can_leave m t l.held l.leaving.cpu stands

    -- ---- it has left

    abbrev gone : Machine
    gone = dequeue t c m

    module _ {ns' flat' : List ℕ} (ef : flat' ≡ flat_of (rows_with ns flat c (delete (get_or flat (c * task_places) 0) (row_at ns flat c))))
        (ek : ns' ≡ row_counts (rows_with ns flat c (delete (get_or flat (c * task_places) 0) (row_at ns flat c)))) where
      left : Held gone qs ns' flat' (record_of (levels gone))
      left = has_left m t l.held l.leaving.cpu stands ef ek

      pub follows : Following (dequeue (get_or flat (c * task_places) 0) c m) qs fs ns' flat' c
      follows =
          record {
            queues = record { order = left.order; prio = refl; counts = left.counts; rows = left.rows; levels = refl };
            prio = l.held.prio;
            flags = l.flags;
            flag_count = l.leaving.well.shape.flags;
            cpu = l.leaving.cpu;
            online = row_online m t c l.leaving.well stands;
          }

      level_set : {r' : Record} → r' ≡ record_of (set r.levels c (level gone c)) → r' ≡ record_of (levels gone)
      level_set e =
          e ∙ ap record_of (levels_set m qs ns flat r c (delete t (row m c)) l.held l.leaving.cpu (level gone c)
          (ap (row_level (prio_of m) (idle_level m c)) (row_same m c (delete t (row m c)) (omega (arith, l.held.order.rows, l.leaving.cpu)))))

      pub enters : {r' : Record} {d : ℕ} → r' ≡ record_of (set r.levels c (level (dequeue (get_or flat (c * task_places) 0) c m) c))
          → d ≡ toward up m (get_or flat (c * task_places) 0)
          → Entering (dequeue (get_or flat (c * task_places) 0) c m) qs ns' flat' r' (get_or flat (c * task_places) 0) d
      enters {r'} e is =
          subst (Entering gone qs ns' flat' r' t) (sym is)
          (record {
            held = record { order = left.order; prio = left.prio; counts = left.counts; rows = left.rows; levels = level_set e };
            cpu = going.small;
            task = a_task;
            high = (runnable_fit m t l.leaving.well going.runs).prio_high;
            room = goes_room up c m l.leaving t stands;
          })

    -- ---- and it has entered

    pub one_gone : {cs' flat' ns' : List ℕ} {r' : Record} {d : ℕ} → d ≡ toward up m (get_or flat (c * task_places) 0)
        → Held (enqueue (get_or flat (c * task_places) 0) d (dequeue (get_or flat (c * task_places) 0) c m)) qs ns' flat' r'
        → cs' ≡ set cs (get_or flat (c * task_places) 0) d
        → Emptying (one_less up c m (get_or flat (c * task_places) 0)) qs cs' ks flat' ns' fs r' c up
    one_gone {cs'} {flat'} {ns'} {r'} is h e =
        record {
          leaving = (less_way up c m l.leaving t first_row.0 first_row.1).leaving;
          held = subst (λ (x : ℕ). Held (enqueue t x gone) qs ns' flat' r') is h;
          cpus = e ∙ ap (set cs t) is ∙ ap (λ (xs : List ℕ). set xs t (toward up m t)) l.cpus;
          masks = l.masks;
          flags = l.flags;
        }

    pub one_way : Way up c m (one_less up c m (get_or flat (c * task_places) 0))
    one_way = less_way up c m l.leaving t first_row.0 first_row.1

    -- the row is shorter
    pub fewer : {qs' cs' ks' flat' ns' fs' : List ℕ} {r' : Record} → Emptying (one_less up c m (get_or flat (c * task_places) 0)) qs' cs' ks' flat' ns' fs' r' c up → get_or ns' c 0 < get_or ns c 0
    fewer {qs'} {flat' = flat'} {ns' = ns'} {r' = r'} g =
        let e = one_less up c m t in
        let h = g.held in
        let now : get_or ns' c 0 ≡ length (row_at ns' flat' c) = count_is ns' flat' (holds e qs' ns' flat' r' h) c (omega (arith, cpus_counted e qs' ns' flat' r' h, l.leaving.cpu)) in
        let is : row_at ns' flat' c ≡ first_row.0 = read_row e qs' ns' flat' r' h c ∙ less_row up c m l.leaving t first_row.0 first_row.1 in
        let was : get_or ns c 0 ≡ length (row_at ns flat c) = count_is ns flat hold c here in
        let before : row_at ns flat c ≡ t ∷ first_row.0 = row_is ∙ first_row.1 in
        omega (arith, ap length is, ap length before)

-- ---- the loop: some have left

pub record Under (m : Machine) (qs cs ks flat ns fs : List ℕ) (r : Record) (c up : ℕ) : Type 0 where
  pub reached : Machine
  pub way : Way up c m reached
  pub empties : Emptying reached qs cs ks flat ns fs r c up

pub under_start : {m : Machine} {qs cs ks flat ns fs : List ℕ} {r : Record} {c up : ℕ} → Emptying m qs cs ks flat ns fs r c up → Under m qs cs ks flat ns fs r c up
under_start {m} {c = c} {up = up} l = record { reached = m; way = way_start up c m l.leaving; empties = l }

-- the first has left, and then some
pub under_first : {m : Machine} {qs cs ks flat ns fs : List ℕ} {r : Record} {c up : ℕ} (l : Emptying m qs cs ks flat ns fs r c up) (some : 0 < get_or ns c 0)
    {cs' flat' ns' : List ℕ} {r' : Record} → Under (one_less up c m (get_or flat (c * task_places) 0)) qs cs' ks flat' ns' fs r' c up
    → Under m qs cs' ks flat' ns' fs r' c up
under_first {m} {flat = flat} {c = c} {up = up} l some g =
    record {
      reached = g.reached;
      way = way_on up c m (one_less up c m (get_or flat (c * task_places) 0)) g.reached (one_way l some) g.way;
      empties = g.empties;
    }

module _ {m : Machine} {qs cs ks flat ns fs : List ℕ} {r : Record} {c up : ℕ} (g : Under m qs cs ks flat ns fs r c up) where
  pub under_on : (some : 0 < get_or ns c 0) {cs' flat' ns' : List ℕ} {r' : Record}
      → Emptying (one_less up c g.reached (get_or flat (c * task_places) 0)) qs cs' ks flat' ns' fs r' c up → Under m qs cs' ks flat' ns' fs r' c up
  under_on some l =
      let next = one_less up c g.reached (get_or flat (c * task_places) 0) in
      record { reached = next; way = way_on up c m g.reached next g.way (one_way g.empties some); empties = l }

  pub under_end : get_or ns c 0 ≡ 0 → Emptied m qs cs ks flat ns fs r c up
  under_end e = record { after = g.reached; left = record { way = g.way; empty = none_stands g.empties e }; empty = g.empties }

  pub under_counted : length ns ≡ m.n
  under_counted = counted g.empties ∙ g.way.cpus

  pub under_long : length flat ≡ task_places * m.n
  under_long = long g.empties ∙ ap (λ (n : ℕ). task_places * n) g.way.cpus

  pub under_cpus : length cs ≡ task_places
  under_cpus = cpus_long g.empties

-- ---- the CPU has gone

-- the levels of an empty row's CPU that is offline, and of the others
levels_gone : (up c : ℕ) (m : Machine) → Leaving up c m → row m c ≡ [] → levels (with_online up m) ≡ set (levels m) c invalid
levels_gone up c m l e =
    levels_change m (with_online up m) c invalid l.well.shape.cpus refl l.cpu
    (λ d h n. ap (λ (b : Bool). row_level (prio_of m) (cond b (flag m d) invalid) (row m d)) (l.others d n))
    (ap (row_level (prio_of m) (idle_level (with_online up m) c)) e ∙ ap (λ (b : Bool). cond b (flag m c) invalid) l.down)

gone_by : {m : Machine} {qs cs ks flat ns fs : List ℕ} {r r' : Record} {c on : ℕ} → on ≡ m.online
    → Emptied m qs cs ks flat ns fs r c (without_bit on c) → r' ≡ record_of (set r.levels c invalid)
    → Shifted (taken_offline c m) cs flat ns (without_bit on c) r'
unfolding record_of
gone_by {m} {qs} {cs} {ks} {flat} {ns} {fs} {r} {r'} {c} {on} is g e = subst (λ (x : Machine). Shifted x cs flat ns up r') (sym rule) shifted
  where
    up : ℕ
    up = without_bit on c

    after : Machine
    after = g.after

    -- the rule takes its mask from the machine
    rule : taken_offline c m ≡ with_online (without_bit on c) g.after
    rule = ap (λ (o : ℕ). evacuated c (row m c) (with_online (without_bit o c) m)) (sym is) ∙ left_rule (without_bit on c) c m g.after g.left

    shifted : Shifted (with_online (without_bit on c) g.after) cs flat ns (without_bit on c) r'
    shifted =
        record {
          cpu = g.empty.cpus;
          rows = g.empty.held.rows;
          counts = g.empty.held.counts;
          online = refl;
          levels = e ∙ ap (λ (x : Record). record_of (set x.levels c invalid)) g.empty.held.levels
              ∙ ap record_of (sym (levels_gone up c after g.left.way.leaving g.left.empty));
        }

-- the same with the word v that was worked out
pub has_gone : {m : Machine} {qs cs ks flat ns fs : List ℕ} {r r' : Record} {c v on : ℕ} → v ≡ without_bit on c → on ≡ m.online
    → Emptied m qs cs ks flat ns fs r c v → r' ≡ record_of (set r.levels c invalid) → Shifted (taken_offline c m) cs flat ns v r'
has_gone {m} {qs} {cs} {ks} {flat} {ns} {fs} {r} {r'} {c} e is g er =
    subst (λ (x : ℕ). Shifted (taken_offline c m) cs flat ns x r') (sym e) (gone_by is (subst (Emptied m qs cs ks flat ns fs r c) e g) er)

pub emptied_whole : {m : Machine} {qs cs ks flat ns fs : List ℕ} {r : Record} {c up : ℕ} → Emptied m qs cs ks flat ns fs r c up → Whole r
emptied_whole g = whole g.empty

-- ---- a CPU has come back

module _ {m : Machine} {qs flat ns fs : List ℕ} {on : ℕ} {r : Record} {c : ℕ} (l : Coming m qs flat ns fs on r c) where
  pub whole_back : Whole r
  whole_back =
      whole-held m qs ns flat r (record { order = well_formed_order m l.formed; prio = l.prio; counts = l.counts; rows = l.rows; levels = l.levels })

  pub small_back : c < cpu_places
  small_back = omega (arith, l.cpu, l.formed.shape.cpus)

  pub back_follows : Following (with_cpu c m) qs fs ns flat c
  back_follows =
      let o = well_formed_order m l.formed in
      record {
        queues = record {
          order = record {
            cpus = o.cpus;
            rows = o.rows;
            prios = o.prios;
            fits = o.fits;
            tasks = o.tasks;
            high = o.high;
            flags = o.flags;
            falling = o.falling;
          };
          prio = refl;
          counts = l.counts;
          rows = l.rows;
          levels = refl;
        };
        prio = l.prio;
        flags = l.flags;
        flag_count = l.formed.shape.flags;
        cpu = l.cpu;
        online = bit_put_same true m.online c;
      }

  pub levels_back : {r' : Record} → r' ≡ record_of (set r.levels c (level (with_cpu c m) c)) → r' ≡ record_of (levels (with_cpu c m))
  unfolding record_of
  levels_back e =
      e ∙ ap (λ (x : Record). record_of (set x.levels c (level (with_cpu c m) c))) l.levels
      ∙ ap record_of (sym (levels_change m (with_cpu c m) c _ l.formed.shape.cpus refl l.cpu
      (λ d h n. ap (λ (b : Bool). row_level (prio_of m) (cond b (flag m d) invalid) (row m d)) (bit_put_other true m.online c d (λ s. n (sym s)))) refl))
