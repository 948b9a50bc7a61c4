-- Blank tables are a fresh machine's.
-- Assumes nothing.
use mathlib.Core.Path.{◌≡◌, refl, sym, ap, ◌∙◌}
use mathlib.Core.Bool.{true}
use mathlib.Core.List.{List, [], ◌∷◌, ◌++◌}
use Prim.Native.Nat.{ℕ, zero, suc, ◌+◌, ◌-◌, ◌*◌, ◌^◌}
use native.Mathlib.Omega.{arith}
use lib.ListN.{length, replicate, replicate-append-replicate}
use Rattle.cpupri.specs.Record.{record_of, fresh_levels}
use Rattle.levels.specs.declared.record.Record.{Record}
use Rattle.rules.specs.Lists.{joined}
use Rattle.rules.specs.Machine.{fresh, levels, task_places}
use Rattle.rules.specs.WellFormed.{Shape}
use Rattle.rules.specs.Tables.{Tables, machine_of, padded, flat_of, row_counts, nothing, log_places, lengths_fit}
use Rattle.rules.specs.Entry.{kept, made, written}
use Rattle.laws.proofs.Record.{levels_fresh}
use Rattle.laws.proofs.Entry.{lengths_shape, made_fresh}

-- ---- empty rows, written

flat_empty : (n : ℕ) → flat_of (replicate n []) ≡ replicate (task_places * n) nothing
unfolding flat_of joined padded
flat_empty zero = refl
flat_empty (suc n) =
    let more : task_places + task_places * n ≡ task_places * suc n = omega arith in
    ap (λ (t : List ℕ). replicate task_places nothing ++ t) (flat_empty n) ∙ replicate-append-replicate task_places (task_places * n) nothing
    ∙ ap (λ (k : ℕ). replicate k nothing) more

counts_empty : (n : ℕ) → row_counts (replicate n []) ≡ replicate n 0
counts_empty zero = refl
counts_empty (suc n) = ap (λ (t : List ℕ). 0 ∷ t) (counts_empty n)

-- ---- a fresh machine

-- what is filled in is a fresh machine's
pub record Blank (n : ℕ) (s t : Tables) : Type 0 where
  pub full : t.full ≡ s.full
  pub state : t.state ≡ replicate (length s.state) 0
  pub policy : t.policy ≡ replicate (length s.policy) 0
  pub prio : t.prio ≡ replicate (length s.prio) 0
  pub cpu : t.cpu ≡ replicate (length s.cpu) 0
  pub slice : t.slice ≡ replicate (length s.slice) 0
  pub mask : t.mask ≡ replicate (length s.mask) 0
  pub rows : t.rows ≡ replicate (length s.rows) nothing
  pub counts : t.counts ≡ replicate (length s.counts) 0
  pub flags : t.flags ≡ replicate (length s.flags) 0
  pub log : t.log ≡ replicate (length s.log) nothing
  pub online : t.online ≡ 2 ^ n - 1

pub made_blank : (n : ℕ) (r q : Record) (s t : Tables) → lengths_fit n s ≡ true → Blank n s t → q ≡ record_of (fresh_levels n) → kept 0 q t ≡ made n r s
made_blank n r q s t h b e = filled ∙ sym (made_fresh n r s h)
  where
    sized : Shape (machine_of n s) × (length s.rows ≡ task_places * n) × (length s.counts ≡ n) × (length s.log ≡ log_places)
    sized = lengths_shape n s h

    resized : (x : List ℕ) (v j k : ℕ) → x ≡ replicate j v → j ≡ k → x ≡ replicate k v
    resized x v j k p l = p ∙ ap (λ (i : ℕ). replicate i v) l

    cpupri : q ≡ record_of (levels (fresh n s.full))
    cpupri = e ∙ ap record_of (sym (levels_fresh n s.full sized.0.cpus))

    state : t.state ≡ replicate task_places 0
    state = resized t.state 0 (length s.state) task_places b.state sized.0.state

    policy : t.policy ≡ replicate task_places 0
    policy = resized t.policy 0 (length s.policy) task_places b.policy sized.0.policy

    prio : t.prio ≡ replicate task_places 0
    prio = resized t.prio 0 (length s.prio) task_places b.prio sized.0.prio

    cpu : t.cpu ≡ replicate task_places 0
    cpu = resized t.cpu 0 (length s.cpu) task_places b.cpu sized.0.cpu

    slice : t.slice ≡ replicate task_places 0
    slice = resized t.slice 0 (length s.slice) task_places b.slice sized.0.slice

    mask : t.mask ≡ replicate task_places 0
    mask = resized t.mask 0 (length s.mask) task_places b.mask sized.0.mask

    rows : t.rows ≡ flat_of (replicate n [])
    rows = resized t.rows nothing (length s.rows) (task_places * n) b.rows sized.1 ∙ sym (flat_empty n)

    counts : t.counts ≡ row_counts (replicate n [])
    counts = resized t.counts 0 (length s.counts) n b.counts sized.2 ∙ sym (counts_empty n)

    flags : t.flags ≡ replicate n 0
    flags = resized t.flags 0 (length s.flags) n b.flags sized.0.flags

    log : t.log ≡ replicate log_places nothing
    log = resized t.log nothing (length s.log) log_places b.log sized.3

    filled : kept 0 q t ≡ written 0 (fresh n s.full) (replicate log_places nothing)
    filled =
        λ i.
        record {
          answer = 0;
          moves = 0;
          cpupri = cpupri i;
          tables = record {
            full = b.full i;
            state = state i;
            policy = policy i;
            prio = prio i;
            cpu = cpu i;
            slice = slice i;
            mask = mask i;
            rows = rows i;
            counts = counts i;
            flags = flags i;
            online = b.online i;
            log = log i;
          };
        }
