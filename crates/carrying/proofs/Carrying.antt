-- A decision carried out, variant by variant.
-- Assumes nothing.
use mathlib.Core.Path.{◌≡◌, refl, sym, ap, ◌∙◌, subst}
use mathlib.Core.List.{List}
use Prim.Native.Nat.{ℕ, ◌≤◌, ◌<◌}
use lib.ListN.{set}
use Rattle.cpupri.specs.Record.{record_of}
use Rattle.levels.specs.declared.record.Record.{Record}
use Rattle.bits.specs.Bit.{with_bit, without_bit}
use Rattle.rules.specs.Machine.{Machine, row, levels, with_flag, without_cpu, with_cpu, enqueue, dequeue}
use Rattle.rules.specs.Events.{taken_offline}
use Rattle.rules.specs.Plan.{carried}
use Rattle.plans.specs.Decided.{as_plan, did, Goable}
use Rattle.plans.specs.declared.plan.Plan.{Plan as Written}
use Rattle.plans.specs.declared.plan.Decision.{Decision}
use Rattle.plans.specs.declared.plan.Decision.TheVariants.{Place, Flag, Offline, Online}
use Rattle.carrying.specs.Holds.{Holds, Ready, Carriable, Placeable}
use Rattle.laws.proofs.Online.{leaving, evacuated_keeps}
use Rattle.parts.specs.Optional.{Flagging}
use Rattle.placement.proofs.Order.{well_formed_order}
use Rattle.evacuation.specs.Going.{Emptying, Shifted, Coming}

module _ {m : Machine} {ss ps qs cs ls ks flat ns fs : List ℕ} {on : ℕ} {r : Record} {d : Decision} (l : Carriable m ss ps qs cs ls ks flat ns fs on r d) where
  pub placeable : {p : Written} → d ≡ Place p → Placeable m ss ps qs cs ls ks flat ns fs r (as_plan p)
  placeable e =
      record {
        formed = l.formed;
        holds = subst (λ (o : ℕ). Holds m ss ps qs cs ls ks flat ns fs o r) l.holds.online l.holds;
        ready = subst (Ready m) e l.ready;
      }

  -- the online mask is handed on
  pub by_plan : {p : Written} {ss' ps' qs' cs' ls' ks' flat' ns' : List ℕ} {r' : Record} → d ≡ Place p
      → Holds (carried (as_plan p) m) ss' ps' qs' cs' ls' ks' flat' ns' fs m.online r' → Holds (did d m) ss' ps' qs' cs' ls' ks' flat' ns' fs on r'
  by_plan {p} {ss'} {ps'} {qs'} {cs'} {ls'} {ks'} {flat'} {ns'} {r'} e h =
      subst (λ (x : Decision). Holds (did x m) ss' ps' qs' cs' ls' ks' flat' ns' fs on r') (sym e)
      (subst (λ (o : ℕ). Holds (carried (as_plan p) m) ss' ps' qs' cs' ls' ks' flat' ns' fs o r') (sym l.holds.online) h)

  pub flagging : {c b : ℕ} → d ≡ Flag c b → Flagging m qs flat ns fs on r c b
  flagging {c} {b} e =
      let h : (c < m.n) × (b ≤ 1) = subst (Ready m) e l.ready in
      record {
        formed = l.formed;
        prio = l.holds.prio;
        rows = l.holds.rows;
        counts = l.holds.counts;
        flags = l.holds.flags;
        online = l.holds.online;
        levels = l.holds.levels;
        cpu = h.0;
        work = h.1;
      }

  pub flag_set : {c b : ℕ} {fs' : List ℕ} {r' : Record} → d ≡ Flag c b → fs' ≡ set fs c b → r' ≡ record_of (levels (with_flag c b m))
      → Holds (did d m) ss ps qs cs ls ks flat ns fs' on r'
  flag_set {c} {b} {fs'} {r'} e ef er =
      subst (λ (x : Decision). Holds (did x m) ss ps qs cs ls ks flat ns fs' on r') (sym e)
      (record {
        state = l.holds.state;
        policy = l.holds.policy;
        prio = l.holds.prio;
        cpu = l.holds.cpu;
        slice = l.holds.slice;
        mask = l.holds.mask;
        rows = l.holds.rows;
        counts = l.holds.counts;
        flags = ef ∙ ap (λ (xs : List ℕ). set xs c b) l.holds.flags;
        online = l.holds.online;
        levels = er;
      })

  -- ---- a CPU goes

  pub emptying : {c : ℕ} → d ≡ Offline c → Emptying m qs cs ks flat ns fs r c (without_bit on c)
  emptying {c} e =
      let h : Goable m c = subst (Ready m) e l.ready in
      subst (λ (o : ℕ). Emptying m qs cs ks flat ns fs r c (without_bit o c)) (sym l.holds.online)
      (record {
        leaving = leaving c m l.formed h.cpu h.placed;
        held = record { order = well_formed_order m l.formed; prio = l.holds.prio; counts = l.holds.counts; rows = l.holds.rows; levels = l.holds.levels };
        cpus = l.holds.cpu;
        masks = l.holds.mask;
        flags = l.holds.flags;
      })

  pub cpu_gone : {c on' : ℕ} {cs' flat' ns' : List ℕ} {r' : Record} → d ≡ Offline c → Shifted (taken_offline c m) cs' flat' ns' on' r'
      → Holds (did d m) ss ps qs cs' ls ks flat' ns' fs on' r'
  cpu_gone {c} {on'} {cs'} {flat'} {ns'} {r'} e h =
      subst (λ (x : Decision). Holds (did x m) ss ps qs cs' ls ks flat' ns' fs on' r') (sym e)
      (record {
        state = l.holds.state ∙ stays (λ x. x.state) (λ t d x. refl);
        policy = l.holds.policy ∙ stays (λ x. x.policy) (λ t d x. refl);
        prio = l.holds.prio ∙ stays (λ x. x.prio) (λ t d x. refl);
        cpu = h.cpu;
        slice = l.holds.slice ∙ stays (λ x. x.slice) (λ t d x. refl);
        mask = l.holds.mask ∙ stays (λ x. x.mask) (λ t d x. refl);
        rows = h.rows;
        counts = h.counts;
        flags = l.holds.flags ∙ stays (λ x. x.flags) (λ t d x. refl);
        online = h.online;
        levels = h.levels;
      })
    where
      stays : (f : Machine → List ℕ) → ((t d : ℕ) (x : Machine) → f (enqueue t d (dequeue t c x)) ≡ f x) → f (without_cpu c m) ≡ f (taken_offline c m)
      stays f k = sym (evacuated_keeps c f k (row m c) (without_cpu c m))

  -- ---- a CPU comes back

  pub coming : {c : ℕ} → d ≡ Online c → Coming m qs flat ns fs on r c
  coming {c} e =
      record {
        formed = l.formed;
        prio = l.holds.prio;
        rows = l.holds.rows;
        counts = l.holds.counts;
        flags = l.holds.flags;
        online = l.holds.online;
        levels = l.holds.levels;
        cpu = subst (Ready m) e l.ready;
      }

  pub cpu_back : {c on' : ℕ} {r' : Record} → d ≡ Online c → on' ≡ with_bit on c → r' ≡ record_of (levels (with_cpu c m))
      → Holds (did d m) ss ps qs cs ls ks flat ns fs on' r'
  cpu_back {c} {on'} {r'} e eo er =
      subst (λ (x : Decision). Holds (did x m) ss ps qs cs ls ks flat ns fs on' r') (sym e)
      (record {
        state = l.holds.state;
        policy = l.holds.policy;
        prio = l.holds.prio;
        cpu = l.holds.cpu;
        slice = l.holds.slice;
        mask = l.holds.mask;
        rows = l.holds.rows;
        counts = l.holds.counts;
        flags = l.holds.flags;
        online = eo ∙ ap (λ (o : ℕ). with_bit o c) l.holds.online;
        levels = er;
      })

  pub untouched : did d m ≡ m → Holds (did d m) ss ps qs cs ls ks flat ns fs on r
  untouched e = subst (λ (x : Machine). Holds x ss ps qs cs ls ks flat ns fs on r) (sym e) l.holds
