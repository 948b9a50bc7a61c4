-- A CPU's ordinary-work flag is set.
-- Assumes nothing.
use mathlib.Core.Path.{◌≡◌, refl, sym, ap, ◌∙◌, subst}
use mathlib.Core.Bool.{Bool, true, false, cond}
use mathlib.Core.Logic.{◌≢◌, ◌⊎◌, inl, inr}
use mathlib.Core.List.{List}
use Prim.Native.Nat.{ℕ, ◌≤◌, ◌<◌}
use native.Mathlib.Omega.{arith}
use lib.ListN.{length, get_or, set, length-set}
use lib.Seq.{get_or-set_same, get_or-set_other}
use Rattle.cpupri.specs.Record.{record_of, Whole}
use Rattle.levels.specs.declared.record.Record.{Record}
use Rattle.bits.specs.Bit.{bit}
use Rattle.rules.specs.Machine.{Machine, prio_of, row, flag, is_online, level, levels, invalid, row_level, cpu_places, with_flag}
use Rattle.rules.specs.Plan.{When}
use Rattle.laws.proofs.Online.{idle_offline}
use Rattle.laws.proofs.Lists.{same?}
use Rattle.placement.specs.Held.{InOrder, Following, followed}
use Rattle.placement.proofs.Following.{levels_followed}
use Rattle.placement.proofs.Order.{well_formed_order, whole as whole-held}
use Rattle.parts.specs.Optional.{Flagging}

module _ {m : Machine} {qs flat ns fs : List ℕ} {on : ℕ} {r : Record} {c b : ℕ} (l : Flagging m qs flat ns fs on r c b) where
  pub flagged : length fs ≡ m.n
  flagged = ap length l.flags ∙ l.formed.shape.flags

  pub whole : Whole r
  whole =
      whole-held m qs ns flat r (record { order = well_formed_order m l.formed; prio = l.prio; counts = l.counts; rows = l.rows; levels = l.levels })

  order : InOrder (with_flag c b m)
  order =
      let o = well_formed_order m l.formed in
      record {
        cpus = o.cpus;
        rows = o.rows;
        prios = o.prios;
        fits = o.fits;
        tasks = o.tasks;
        high = o.high;
        flags = λ d h. small d h (same? d c);
        falling = o.falling;
      }
    where
      small : (d : ℕ) → d < m.n → (d ≡ c) ⊎ (d ≢ c) → flag (with_flag c b m) d ≤ 1
      small d h (inl e) =
          let here : d < length m.flags = omega (arith, l.formed.shape.flags) in
          subst (λ (k : ℕ). get_or (set m.flags k b) d 0 ≤ 1) e (subst (λ (x : ℕ). x ≤ 1) (sym (get_or-set_same m.flags d b 0 here)) l.work)
      small d h (inr n) = subst (λ (x : ℕ). x ≤ 1) (sym (get_or-set_other m.flags c d b 0 n)) (l.formed.flags d h)

  pub small : c < cpu_places
  small = omega (arith, l.cpu, l.formed.shape.cpus)

  pub following : {fs' : List ℕ} → fs' ≡ set fs c b → is_online m c ≡ true → Following (with_flag c b m) qs fs' ns flat c
  following e up =
      record {
        queues = record { order = order; prio = refl; counts = l.counts; rows = l.rows; levels = refl };
        prio = l.prio;
        flags = e ∙ ap (λ (xs : List ℕ). set xs c b) l.flags;
        flag_count = length-set m.flags c b ∙ l.formed.shape.flags;
        cpu = l.cpu;
        online = up;
      }

  pub is_up : true ≡ bit on c → is_online m c ≡ true
  is_up t = ap (λ (o : ℕ). bit o c) (sym l.online) ∙ sym t

  -- the other CPUs' levels stay, and so does that of an offline one
  others : (d : ℕ) → d ≢ c → level (with_flag c b m) d ≡ level m d
  others d n = ap (λ (f : ℕ). row_level (prio_of m) (cond (is_online m d) f invalid) (row m d)) (get_or-set_other m.flags c d b 0 n)

  offline : is_online m c ≡ false → level (with_flag c b m) c ≡ level m c
  offline off = ap (λ (f : ℕ). row_level (prio_of m) f (row m c)) (idle_offline (with_flag c b m) c off ∙ sym (idle_offline m c off))

  pub levels_flagged : (x : Bool) → x ≡ bit on c → {r' : Record} → r' ≡ record_of (followed x c (with_flag c b m) r.levels)
      → r' ≡ record_of (levels (with_flag c b m))
  unfolding record_of
  levels_flagged x t e =
      e ∙ ap (λ (y : Record). record_of (followed x c (with_flag c b m) y.levels)) l.levels
      ∙ ap record_of (sym (levels_followed m (with_flag c b m) x false c 0 l.formed.shape.cpus refl (small_when x) tt (λ d h far z. stays d (same? d c) far)))
    where
      small_when : (x : Bool) → When x (c < m.n)
      small_when true = l.cpu
      small_when false = tt

      stays : (d : ℕ) → (d ≡ c) ⊎ (d ≢ c) → (x ≡ true → d ≢ c) → level (with_flag c b m) d ≡ level m d
      stays d (inr n) far = others d n
      stays d (inl s) far = subst (λ (k : ℕ). level (with_flag c b m) k ≡ level m k) (sym s) (offline (off x refl))
        where
          off : (y : Bool) → x ≡ y → is_online m c ≡ false
          off true q = absurd (far q s)
          off false q = ap (λ (o : ℕ). bit o c) (sym l.online) ∙ sym t ∙ q
