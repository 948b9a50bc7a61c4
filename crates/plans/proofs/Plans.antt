-- The plan of each kind is its own effect, and can be carried out.
-- Assumes nothing.
use mathlib.Core.Path.{◌≡◌, refl, sym, ap, ap₂, ◌∙◌, subst}
use mathlib.Core.Bool.{Bool, true, false, cond}
use mathlib.Core.Logic.{◌≢◌, inl, inr}
use Prim.Native.Nat.{ℕ, ◌≤◌, ◌<◌, ◌^◌}
use native.Mathlib.Omega.{arith}
use lib.Dec.{eqb, leb, ltb}
use borrow.Author.Tests.{eq-eqb, ne_eqb, le-leb, lt-leb}
use Rattle.bits.specs.Bit.{bit, lowest}
use lib.Bits.{bit_and}
use Rattle.rules.specs.Machine.{Machine, Task, task_of, is_online, enqueue_at, enqueue, dequeue, allows, lowest_allowed, stranded, free, asleep, runnable, cpu_places, task_places, highest_priority}
use Rattle.rules.specs.WellFormed.{Fit}
use Rattle.rules.specs.Events.{wake_cpu, woken, slept, reprioritised, reaffined}
use Rattle.laws.proofs.Apart.{fit_of, runnable_fit, row_in}
use Rattle.laws.proofs.Effects.{wake_good}
use Rattle.laws.proofs.Online.{lowest_up, lowest_allowed_lem, allows_bit, allows_online, home_online}
use Rattle.rules.specs.Plan.{Plan, carried, rewrite, enter, leave, shift, reorder, with_state, with_prio, with_mask, Doable, Carries}
use Rattle.plans.specs.Decided.{Named}
use Rattle.plans.specs.declared.plan.Task.{Task as Columns}
use Rattle.plans.proofs.Planned.{write_state, write_prio, write_mask}

pub replaced : {done m : Machine} {p q : Plan} → q ≡ p → Carries done m p → Carries done m q
replaced {done} {m} e h = subst (Carries done m) (sym e) h

-- ---- the task that is named

module _ {m : Machine} {t : ℕ} {τ : Columns} (l : Named m t τ) where
  pub state_is : {s : ℕ} → τ.state ≡ s → (task_of m t).state ≡ s
  state_is e = ap (λ (x : Task). x.state) (sym l.columns) ∙ e

  pub state_other : {s : ℕ} → τ.state ≢ s → (task_of m t).state ≢ s
  state_other n e = n (ap (λ (x : Task). x.state) l.columns ∙ e)

  pub is_in : (s : ℕ) → τ.state ≡ s → eqb (task_of m t).state s ≡ true
  is_in s e = eq-eqb (task_of m t).state s (state_is e)

  pub not_in : (s : ℕ) → τ.state ≢ s → eqb (task_of m t).state s ≡ false
  not_in s n = ne_eqb (task_of m t).state s (state_other n)

  module _ (ht : t < task_places) where
    pub used_fit : τ.state ≢ free → Fit m.n m.full (task_of m t)
    used_fit n = fit_of m.n m.full (task_of m t) (l.formed.tasks t ht) (state_other n)

    pub idle : (σ : Task) → (task_of m t).state ≢ runnable → Doable m (rewrite t σ)
    idle σ n = record { task = ht; leaves = tt; stays = inl n; enters = tt }

    pub kept : (σ : Task) → σ.prio ≡ (task_of m t).prio → Doable m (rewrite t σ)
    kept σ e = record { task = ht; leaves = tt; stays = inr (e, refl); enters = tt }

    -- out of its row and into row d, in front of its equals or behind them
    moved : (b : Bool) (σ : Task) (d : ℕ) → (task_of m t).state ≡ runnable → d < m.n → is_online m d ≡ true → σ.prio ≤ highest_priority
        → Doable m (record { task = t; leaves = true; origin = (task_of m t).cpu; becomes = σ; enters = true; front = b; target = d })
    moved b σ d s hd on hp =
        record {
          task = ht;
          leaves = ((runnable_fit m t l.formed s).cpu, row_in m t l.formed s);
          stays = tt;
          enters = (hd, on, hp);
        }

    pub shifted : (σ : Task) (d : ℕ) → (task_of m t).state ≡ runnable → d < m.n → is_online m d ≡ true → σ.prio ≤ highest_priority
        → Doable m (shift t (task_of m t).cpu σ d)
    shifted = moved false

    pub reordered : (b : Bool) (σ : Task) → (task_of m t).state ≡ runnable → σ.prio ≤ highest_priority → Doable m (reorder b t (task_of m t).cpu σ)
    reordered b σ s hp = moved b σ (task_of m t).cpu s (runnable_fit m t l.formed s).cpu (home_online m t l.formed s) hp

    -- kinds 1 and 2
    pub rewritten : (σ : Task) → (task_of m t).state ≢ runnable → Carries (carried (rewrite t σ) m) m (rewrite t σ)
    rewritten σ n = record { effect = refl; doable = idle σ n }

    -- kind 3
    module _ (s : τ.state ≡ asleep) (up : stranded m (task_of m t).mask ≡ false) where
      asleep_fit : Fit m.n m.full (task_of m t)
      asleep_fit = used_fit (λ z. omega arith)

      good : (wake_cpu m t < m.n) × (allows m (task_of m t).mask (wake_cpu m t) ≡ true)
      good = wake_good t m l.formed ht asleep_fit up

      pub wake_is : {on : ℕ} → on ≡ m.online
          → cond (bit (bit_and τ.mask on) τ.cpu) τ.cpu (lowest cpu_places (bit_and τ.mask on)) ≡ wake_cpu m t
      wake_is e =
          ap₂ (λ (x : Task) (on : ℕ). cond (bit (bit_and x.mask on) x.cpu) x.cpu (lowest cpu_places (bit_and x.mask on))) l.columns e
          ∙ ap₂ (λ (b : Bool) (d : ℕ). cond b (task_of m t).cpu d) (allows_bit m (task_of m t).mask (task_of m t).cpu)
          (lowest_allowed_lem m (task_of m t).mask l.formed.shape.cpus asleep_fit.mask_fits up)

      pub wakes : Carries (woken t m) m (enter t (with_state runnable (task_of m t)) (wake_cpu m t))
      wakes =
          record {
            effect = ap (enqueue t (wake_cpu m t)) (sym (write_state t runnable m));
            doable = record {
              task = ht;
              leaves = tt;
              stays = inl (λ z. let a : (task_of m t).state ≡ asleep = state_is s in omega arith);
              enters = (good.0, allows_online m (task_of m t).mask (wake_cpu m t) good.1, asleep_fit.prio_high);
            };
          }

    -- kind 4
    pub sleeps : τ.state ≡ runnable → Carries (slept t m) m (leave t (task_of m t).cpu (with_state asleep (task_of m t)))
    sleeps s =
        record {
          effect = sym (write_state t asleep (dequeue t (task_of m t).cpu m));
          doable = record {
            task = ht;
            leaves = ((runnable_fit m t l.formed (state_is s)).cpu, row_in m t l.formed (state_is s));
            stays = tt;
            enters = tt;
          };
        }

    -- kind 5
    module _ (p : ℕ) where
      pub priority_idle : τ.state ≢ runnable → Carries (reprioritised t p m) m (rewrite t (with_prio p (task_of m t)))
      priority_idle n =
          record {
            effect = rw (not_in runnable n) (sym (write_prio t p m));
            doable = idle (with_prio p (task_of m t)) (state_other n);
          }

      pub priority_same : τ.state ≡ runnable → τ.prio ≡ p → reprioritised t p m ≡ m
      priority_same s e =
          rw (is_in runnable s, eq-eqb (task_of m t).prio p (ap (λ (x : Task). x.prio) (sym l.columns) ∙ e))

      pub priority_moved : τ.state ≡ runnable → τ.prio ≢ p → p ≤ highest_priority
          → Carries (reprioritised t p m) m (reorder (ltb p (task_of m t).prio) t (task_of m t).cpu (with_prio p (task_of m t)))
      priority_moved s n hp =
          record {
            effect = rw (is_in runnable s, ne_eqb (task_of m t).prio p (λ e. n (ap (λ (x : Task). x.prio) l.columns ∙ e)))
                (ap (enqueue_at (ltb p (task_of m t).prio) t (task_of m t).cpu) (sym (write_prio t p (dequeue t (task_of m t).cpu m))));
            doable = reordered (ltb p (task_of m t).prio) (with_prio p (task_of m t)) (state_is s) hp;
          }

    -- kind 6
    module _ (k : ℕ) where
      pub affinity_idle : τ.state ≢ runnable → Carries (reaffined t k m) m (rewrite t (with_mask k (task_of m t)))
      affinity_idle n =
          record {
            effect = rw (not_in runnable n) (sym (write_mask t k m));
            doable = idle (with_mask k (task_of m t)) (state_other n);
          }

      pub affinity_same : τ.state ≡ runnable → allows m k τ.cpu ≡ true → Carries (reaffined t k m) m (rewrite t (with_mask k (task_of m t)))
      affinity_same s e =
          record {
            effect = rw (is_in runnable s, ap (λ (x : Task). allows m k x.cpu) (sym l.columns) ∙ e) (sym (write_mask t k m));
            doable = kept (with_mask k (task_of m t)) refl;
          }

      pub affinity_moved : τ.state ≡ runnable → allows m k τ.cpu ≡ false → k < 2 ^ m.n → stranded m k ≡ false
          → Carries (reaffined t k m) m (shift t (task_of m t).cpu (with_mask k (task_of m t)) (lowest_allowed m k))
      affinity_moved s e fits up =
          let good = lowest_up m k fits up in
          record {
            effect = rw (is_in runnable s, ap (λ (x : Task). allows m k x.cpu) (sym l.columns) ∙ e) (ap (enqueue t (lowest_allowed m k)) (sym (write_mask t k (dequeue t (task_of m t).cpu m))));
            doable = shifted (with_mask k (task_of m t)) (lowest_allowed m k) (state_is s) good.0 (allows_online m k (lowest_allowed m k) good.1)
                (runnable_fit m t l.formed (state_is s)).prio_high;
          }

-- ---- CPU numbers, with N as it is lent

module _ {n k who : ℕ} (is : n ≡ k) where
  pub no_cpu_lem : n ≤ who → leb k who ≡ true
  no_cpu_lem h = ap (λ (x : ℕ). leb x who) (sym is) ∙ le-leb n who h

  pub a_cpu : who < n → leb k who ≡ false
  a_cpu h = ap (λ (x : ℕ). leb x who) (sym is) ∙ lt-leb n who h
