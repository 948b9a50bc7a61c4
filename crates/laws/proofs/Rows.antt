-- What changing one row, one column or one task does to the rest of a machine.
-- Assumes nothing.
use mathlib.Core.Path.{◌≡◌, sym, ◌∙◌, subst}
use mathlib.Core.Logic.{◌≢◌, ◌⊎◌, inl, inr}
use mathlib.Core.List.{List, []}
use Prim.Native.Nat.{ℕ, ◌<◌}
use lib.ListN.{length, length-set}
use lib.Seq.{get_or-set_same, get_or-set_other}
use Rattle.rules.specs.Machine.{Machine, Task, Column, task_of, row, store, write, with_row, task_places}
use Rattle.rules.specs.Machine.{state, policy, prio, cpu, slice, mask}
use Rattle.rules.specs.WellFormed.{Shape}
use Rattle.laws.proofs.Lists.{same?}

-- ---- rows

pub row_same : (m : Machine) (c : ℕ) (r : List ℕ) → c < length m.rows → row (with_row c r m) c ≡ r
row_same m c r h = get_or-set_same m.rows c r [] h

pub row_other : (m : Machine) (c d : ℕ) (r : List ℕ) → d ≢ c → row (with_row c r m) d ≡ row m d
row_other m c d r n = get_or-set_other m.rows c d r [] n

-- what holds of the new row and of each other row holds of every row
pub row_cases : (m : Machine) (c : ℕ) (r : List ℕ) (P : ℕ → List ℕ → Type 0) → c < length m.rows
    → P c r → ((d : ℕ) → d ≢ c → P d (row m d)) → (d : ℕ) → P d (row (with_row c r m) d)
row_cases m c r P h new old d = go (same? d c)
  where
    go : (d ≡ c) ⊎ (d ≢ c) → P d (row (with_row c r m) d)
    go (inl e) = subst (λ (x : ℕ). P x (row (with_row c r m) x)) (sym e) (subst (P c) (sym (row_same m c r h)) new)
    go (inr n) = subst (P d) (sym (row_other m c d r n)) (old d n)

-- ---- columns

-- a task with another entry in one column
abbrev task : ℕ → ℕ → ℕ → ℕ → ℕ → ℕ → Task
task s p q c l k = record { state = s; policy = p; prio = q; cpu = c; slice = l; mask = k }

abbrev pub put : Column → ℕ → Task → Task
put state v τ = task v τ.policy τ.prio τ.cpu τ.slice τ.mask
put policy v τ = task τ.state v τ.prio τ.cpu τ.slice τ.mask
put prio v τ = task τ.state τ.policy v τ.cpu τ.slice τ.mask
put cpu v τ = task τ.state τ.policy τ.prio v τ.slice τ.mask
put slice v τ = task τ.state τ.policy τ.prio τ.cpu v τ.mask
put mask v τ = task τ.state τ.policy τ.prio τ.cpu τ.slice v

pub store_other : (k : Column) (t v u : ℕ) (m : Machine) → u ≢ t → task_of (store k t v m) u ≡ task_of m u
store_other state t v u m n = rw (get_or-set_other m.state t u v 0 n)
store_other policy t v u m n = rw (get_or-set_other m.policy t u v 0 n)
store_other prio t v u m n = rw (get_or-set_other m.prio t u v 0 n)
store_other cpu t v u m n = rw (get_or-set_other m.cpu t u v 0 n)
store_other slice t v u m n = rw (get_or-set_other m.slice t u v 0 n)
store_other mask t v u m n = rw (get_or-set_other m.mask t u v 0 n)

pub store_same : (k : Column) (t v : ℕ) (m : Machine) → Shape m → t < task_places → task_of (store k t v m) t ≡ put k v (task_of m t)
store_same state t v m s h = rw (get_or-set_same m.state t v 0 (subst (λ (x : ℕ). t < x) (sym s.state) h))
store_same policy t v m s h = rw (get_or-set_same m.policy t v 0 (subst (λ (x : ℕ). t < x) (sym s.policy) h))
store_same prio t v m s h = rw (get_or-set_same m.prio t v 0 (subst (λ (x : ℕ). t < x) (sym s.prio) h))
store_same cpu t v m s h = rw (get_or-set_same m.cpu t v 0 (subst (λ (x : ℕ). t < x) (sym s.cpu) h))
store_same slice t v m s h = rw (get_or-set_same m.slice t v 0 (subst (λ (x : ℕ). t < x) (sym s.slice) h))
store_same mask t v m s h = rw (get_or-set_same m.mask t v 0 (subst (λ (x : ℕ). t < x) (sym s.mask) h))

pub write_other : (t u : ℕ) (τ : Task) (m : Machine) → u ≢ t → task_of (write t τ m) u ≡ task_of m u
write_other t u τ m n =
    rw (
      get_or-set_other m.state t u τ.state 0 n,
      get_or-set_other m.policy t u τ.policy 0 n,
      get_or-set_other m.prio t u τ.prio 0 n,
      get_or-set_other m.cpu t u τ.cpu 0 n,
      get_or-set_other m.slice t u τ.slice 0 n,
      get_or-set_other m.mask t u τ.mask 0 n,
    )

pub write_same : (t : ℕ) (τ : Task) (m : Machine) → Shape m → t < task_places → task_of (write t τ m) t ≡ τ
write_same t τ m s h =
    rw (
      get_or-set_same m.state t τ.state 0 (fits s.state),
      get_or-set_same m.policy t τ.policy 0 (fits s.policy),
      get_or-set_same m.prio t τ.prio 0 (fits s.prio),
      get_or-set_same m.cpu t τ.cpu 0 (fits s.cpu),
      get_or-set_same m.slice t τ.slice 0 (fits s.slice),
      get_or-set_same m.mask t τ.mask 0 (fits s.mask),
    )
  where
    fits : {n : ℕ} → n ≡ task_places → t < n
    fits e = subst (λ (x : ℕ). t < x) (sym e) h

-- ---- lengths stay

module _ (m : Machine) (s : Shape m) where
  pub shape_columns : (a b c d e f : List ℕ) → length a ≡ task_places → length b ≡ task_places → length c ≡ task_places → length d ≡ task_places
      → length e ≡ task_places → length f ≡ task_places
      → Shape (record { n = m.n; full = m.full; state = a; policy = b; prio = c; cpu = d; slice = e; mask = f; rows = m.rows; flags = m.flags; online = m.online })
  shape_columns a b c d e f ha hb hc hd he hf =
      record {
        some_cpu = s.some_cpu;
        cpus = s.cpus;
        some_tick = s.some_tick;
        ticks = s.ticks;
        state = ha;
        policy = hb;
        prio = hc;
        cpu = hd;
        slice = he;
        mask = hf;
        rows = s.rows;
        flags = s.flags;
      }

  pub shape_store : (k : Column) (t v : ℕ) → Shape (store k t v m)
  shape_store state t v = shape_columns _ _ _ _ _ _ (length-set m.state t v ∙ s.state) s.policy s.prio s.cpu s.slice s.mask
  shape_store policy t v = shape_columns _ _ _ _ _ _ s.state (length-set m.policy t v ∙ s.policy) s.prio s.cpu s.slice s.mask
  shape_store prio t v = shape_columns _ _ _ _ _ _ s.state s.policy (length-set m.prio t v ∙ s.prio) s.cpu s.slice s.mask
  shape_store cpu t v = shape_columns _ _ _ _ _ _ s.state s.policy s.prio (length-set m.cpu t v ∙ s.cpu) s.slice s.mask
  shape_store slice t v = shape_columns _ _ _ _ _ _ s.state s.policy s.prio s.cpu (length-set m.slice t v ∙ s.slice) s.mask
  shape_store mask t v = shape_columns _ _ _ _ _ _ s.state s.policy s.prio s.cpu s.slice (length-set m.mask t v ∙ s.mask)

  pub shape_write : (t : ℕ) (τ : Task) → Shape (write t τ m)
  shape_write t τ =
      shape_columns _ _ _ _ _ _ (length-set m.state t τ.state ∙ s.state) (length-set m.policy t τ.policy ∙ s.policy)
      (length-set m.prio t τ.prio ∙ s.prio) (length-set m.cpu t τ.cpu ∙ s.cpu) (length-set m.slice t τ.slice ∙ s.slice)
      (length-set m.mask t τ.mask ∙ s.mask)

  pub shape_row : (c : ℕ) (r : List ℕ) → Shape (with_row c r m)
  shape_row c r =
      record {
        some_cpu = s.some_cpu;
        cpus = s.cpus;
        some_tick = s.some_tick;
        ticks = s.ticks;
        state = s.state;
        policy = s.policy;
        prio = s.prio;
        cpu = s.cpu;
        slice = s.slice;
        mask = s.mask;
        rows = length-set m.rows c r ∙ s.rows;
        flags = s.flags;
      }
