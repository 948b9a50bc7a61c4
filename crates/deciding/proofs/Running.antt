-- The task that runs on a CPU, read from the lent rows.
-- Assumes nothing.
use mathlib.Core.Path.{◌≡◌, refl, sym, ap, ◌∙◌}
use mathlib.Core.Logic.{◌≢◌}
use mathlib.Core.List.{List, [], ◌∷◌}
use Prim.Native.Nat.{ℕ, ◌+◌, ◌*◌, ◌≤◌, ◌<◌}
use native.Mathlib.Nat.{suc-ne-zero}
use native.Mathlib.Omega.{arith}
use lib.ListN.{length, get_or, get_or-eq_default}
use Rattle.cpupri.specs.Record.{record_of}
use Rattle.rules.specs.Machine.{Machine, row, levels, task_places}
use Rattle.runqueue.specs.Table.{HoldsRows, row_at}
use Rattle.runqueue.proofs.Flat.{count_is, first_place, rows_fit}
use Rattle.placement.specs.Held.{Held}
use Rattle.placement.proofs.Order.{well_formed_order, holds, read_row, cpus_counted}
use Rattle.std.specs.Prelude.{Some, None}
use Rattle.percpu.specs.Running.{first_of}
use Rattle.deciding.specs.Subject.{LentRows}

module _ {m : Machine} {n : ℕ} {flat ns : List ℕ} (l : LentRows m n flat ns) where
  held : Held m m.prio ns flat (record_of (levels m))
  held = record { order = well_formed_order m l.formed; prio = refl; counts = l.counts; rows = l.rows; levels = refl }

  hold : HoldsRows ns flat
  hold = holds m m.prio ns flat (record_of (levels m)) held

  pub counted : length ns ≡ n
  counted = cpus_counted m m.prio ns flat (record_of (levels m)) held ∙ sym l.cpus

  module _ (c : ℕ) (hc : c < n) where
    here : c < length ns
    here = omega (arith, counted)

    row_is : row_at ns flat c ≡ row m c
    row_is = read_row m m.prio ns flat (record_of (levels m)) held c

    pub none_runs : get_or ns c 0 ≡ 0 → None ≡ first_of (row m c)
    none_runs e = go (row m c) (ap length (sym row_is) ∙ sym (count_is ns flat hold c here) ∙ e)
      where
        go : (r : List ℕ) → length r ≡ 0 → None ≡ first_of r
        go [] e = refl
        go (u ∷ us) e = absurd (suc-ne-zero (length us) e)

    pub one_runs : get_or ns c 0 ≢ 0 → Some (get_or flat (c * task_places) 0) ≡ first_of (row m c)
    one_runs n = go (row_at ns flat c) refl ∙ ap first_of row_is
      where
        go : (r : List ℕ) → row_at ns flat c ≡ r → Some (get_or flat (c * task_places) 0) ≡ first_of (row_at ns flat c)
        go [] e = absurd (n (count_is ns flat hold c here ∙ ap length e))
        go (u ∷ us) e = ap Some (first_place ns flat hold c here u us e) ∙ ap first_of (sym e)

    pub place_in : c * task_places < length flat
    place_in = let f : task_places * c + task_places ≤ length flat = rows_fit ns flat hold c here in omega arith

  pub no_cpu_lem : (c : ℕ) → n ≤ c → None ≡ first_of (row m c)
  no_cpu_lem c h = sym (ap first_of (get_or-eq_default m.rows [] (omega (arith, l.formed.shape.rows, l.cpus))))
