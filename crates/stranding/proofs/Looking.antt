-- A task that has nowhere to go, looked for along a row of lent tables.
-- Assumes nothing.
use mathlib.Core.Path.{◌≡◌, refl, sym, ap, ap₂, ◌∙◌, subst}
use mathlib.Core.Bool.{Bool, true, false, cond, ◌||◌}
use mathlib.Core.Logic.{◌≢◌}
use mathlib.Core.List.{List, [], ◌∷◌}
use Prim.Native.Nat.{ℕ, zero, suc, ◌+◌, ◌*◌, ◌≤◌, ◌<◌, zero-le, suc-le-suc}
use native.Mathlib.Omega.{arith}
use lib.Bits.{bit_and}
use lib.Dec.{eqb}
use lib.ListN.{length, get_or, get_or-eq_default}
use borrow.Author.Tests.{eq-eqb, ne_eqb}
use Rattle.bits.specs.Bit.{without_bit}
use Rattle.cpupri.specs.Record.{record_of}
use Rattle.rules.specs.Lists.{any}
use Rattle.rules.specs.Machine.{Machine, row, levels, task_places, cpu_places}
use Rattle.laws.proofs.Apart.{in_row, runnable_place}
use Rattle.laws.proofs.Lists.{some_any, in_get_or}
use Rattle.runqueue.specs.Table.{HoldsRows, row_at}
use Rattle.runqueue.proofs.Flat.{rows_fit, lent_tasks, tasks_row, lent_held}
use Rattle.placement.specs.Held.{Held}
use Rattle.placement.proofs.Order.{well_formed_order, holds, read_row, cpus_counted}
use Rattle.plans.specs.Decided.{strands}
use Rattle.stranding.specs.Stranding.{offline_kind, strands_by, any_stranded, LentMasks, Listed}

-- ---- one row

none_any : (p : ℕ → Bool) (xs : List ℕ) → ((i : ℕ) → i < length xs → p (get_or xs i 0) ≡ false) → any p xs ≡ false
unfolding any
none_any p [] h = refl
none_any p (x ∷ xs) h = ap₂ ◌||◌ (h zero (suc-le-suc zero-le)) (none_any p xs (λ i l. h (suc i) (suc-le-suc l)))

module _ (up : ℕ) (ks tasks : List ℕ) where
  abbrev lost : ℕ → Bool
  lost t = eqb (bit_and (get_or ks t 0) up) 0

  pub found : (i : ℕ) → i < length tasks → bit_and (get_or ks (get_or tasks i 0) 0) up ≡ 0 → true ≡ any_stranded ks up tasks
  found i h e =
      sym (some_any lost (get_or tasks i 0) tasks (in_get_or tasks i h) (eq-eqb (bit_and (get_or ks (get_or tasks i 0) 0) up) 0 e))

  pub none_found : ((i : ℕ) → i < length tasks → bit_and (get_or ks (get_or tasks i 0) 0) up ≢ 0) → false ≡ any_stranded ks up tasks
  none_found h = sym (none_any lost tasks (λ i l. ne_eqb (bit_and (get_or ks (get_or tasks i 0) 0) up) 0 (h i l)))

-- ---- the row of a CPU

pub other_kind : (m : Machine) (kind who : ℕ) → kind ≢ offline_kind → false ≡ strands_by m kind who
other_kind m kind who n = sym (ap (λ (b : Bool). cond b (strands m who) false) (ne_eqb kind offline_kind n))

module _ {m : Machine} {n on : ℕ} {ks flat ns : List ℕ} (l : LentMasks m n on ks flat ns) where
  held : Held m m.prio ns flat (record_of (levels m))
  held = record { order = well_formed_order m l.formed; prio = refl; counts = l.counts; rows = l.rows; levels = refl }

  hold : HoldsRows ns flat
  hold = holds m m.prio ns flat (record_of (levels m)) held

  pub counted : length ns ≡ n
  counted = cpus_counted m m.prio ns flat (record_of (levels m)) held ∙ sym l.cpus

  pub few : n ≤ cpu_places
  few = omega (arith, l.cpus, l.formed.shape.cpus)

  by_kind_lem : (kind who : ℕ) → kind ≡ offline_kind → strands_by m kind who ≡ strands m who
  by_kind_lem kind who e = ap (λ (b : Bool). cond b (strands m who) false) (eq-eqb kind offline_kind e)

  pub no_cpu_lem : (kind who : ℕ) → kind ≡ offline_kind → n ≤ who → false ≡ strands_by m kind who
  unfolding any
  no_cpu_lem kind who e h =
      sym (by_kind_lem kind who e ∙ ap (any (λ t. eqb (bit_and (get_or m.mask t 0) (without_bit m.online who)) 0))
      (get_or-eq_default m.rows [] (omega (arith, l.formed.shape.rows, l.cpus))))

  module _ (c : ℕ) (hc : c < n) where
    here : c < length ns
    here = omega (arith, counted)

    row_is : row_at ns flat c ≡ row m c
    row_is = read_row m m.prio ns flat (record_of (levels m)) held c

    pub fits : task_places * c + task_places ≤ length flat
    fits = rows_fit ns flat hold c here

    tasks_are : lent_tasks flat c (get_or ns c 0) ≡ row m c
    tasks_are = tasks_row hold c here ∙ row_is

    pub most : get_or ns c 0 ≤ task_places
    most = (lent_held hold c here).most

    pub listed : Listed ks (lent_tasks flat c (get_or ns c 0))
    listed =
        record {
          numbers = subst (λ (ts : List ℕ). (i : ℕ) → i < length ts → get_or ts i 0 < task_places) (sym tasks_are)
              (λ i h. runnable_place m (get_or (row m c) i 0) l.formed (in_row m (get_or (row m c) i 0) c l.formed (in_get_or (row m c) i h)).0);
          masks = ap length l.mask ∙ l.formed.shape.mask;
        }

    pub looked : (kind : ℕ) → kind ≡ offline_kind → {b : Bool} {up : ℕ} → up ≡ without_bit on c → b ≡ any_stranded ks up (lent_tasks flat c (get_or ns c 0)) → b ≡ strands_by m kind c
    looked kind e {b} {up} is h =
        h ∙ ap (any (λ t. eqb (bit_and (get_or ks t 0) up) 0)) tasks_are
        ∙ ap₂ (λ (xs : List ℕ) (u : ℕ). any (λ t. eqb (bit_and (get_or xs t 0) u) 0) (row m c)) l.mask (is ∙ ap (λ (o : ℕ). without_bit o c) l.online)
        ∙ sym (by_kind_lem kind c e)
