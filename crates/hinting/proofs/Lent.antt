-- What the lent tables say of one task.
-- Assumes nothing.
use mathlib.Core.Path.{◌≡◌, refl, sym, ap, ◌∙◌, subst}
use mathlib.Core.Bool.{Bool, true, false, cond, ◌&&◌}
use mathlib.Core.List.{List, [], ◌∷◌, tail}
use mathlib.Core.Option.{Option, none, some}
use Prim.Native.Nat.{ℕ, ◌+◌, ◌*◌, ◌≤◌, ◌<◌}
use native.Mathlib.Omega.{arith}
use lib.Dec.{eqb, ltb}
use lib.ListN.{length, get_or}
use borrow.Author.Tests.{eq-eqb, ne_eqb}
use Rattle.rules.specs.Machine.{Machine, task_of, row, head, running, level, levels, runnable, task_places}
use Rattle.rules.specs.Tables.{nothing}
use Rattle.laws.specs.Limited.{holds, second, or_nothing}
use Rattle.laws.proofs.Tables.{flat_first, flat_second, length_flat}
use Rattle.laws.proofs.Record.{levels_below}
use Rattle.placement.proofs.Order.{well_formed_order}
use Rattle.plans.specs.declared.plan.Decision.{Decision}
use Rattle.plans.specs.declared.plan.Decision.TheVariants.{Place, Offline}
use Rattle.plans.specs.declared.plan.Plan.{Plan}
use Rattle.hinting.specs.Past.{Reading, past_of, past_of_row, past_by, Able, new_since, candidates_since}
use Rattle.std.specs.Prelude as code
use Rattle.std.specs.Prelude.{Some, None, is_some, unwrap_or}
use Rattle.std.specs.Bool.{then_some}
use Rattle.std.proofs.lemmas.Option.{none-some, same_Some}
use Rattle.runqueue.specs.Row.{task_in}
use Rattle.hinting.specs.Hinted.{coded}
use Rattle.hinting.specs.declared.hint.Candidates.{Candidates}
use Rattle.hinting.specs.declared.past.Past.{Past}
use Rattle.hinting.specs.declared.past.Past.TheVariants.{Untouched, Task}
use Rattle.laws.proofs.Apart.{in_row, runnable_place}
use Rattle.laws.proofs.Limited.{waits_in, first_in}
use Rattle.hinting.proofs.Hints.{task_in_place, runs_task}
use Rattle.hinting.proofs.Events.{cpu_small, first_place}

-- candidates as the code has them
abbrev pub seen : code.Option ℕ → code.Option ℕ → Candidates
seen fallen new = record { fallen = fallen; new = new }

-- a place that holds nothing holds no task
pub holds_place : (o : Option ℕ) (t : ℕ) → t < task_places → eqb (or_nothing o) t ≡ holds o t
holds_place none t h = ne_eqb nothing t (λ e. omega arith)
holds_place (some u) t h = refl

module _ {m : Machine} {cs flat ls : List ℕ} (k : Reading m cs flat ls) where
  pub cpus_long : length cs ≡ task_places
  cpus_long = ap length k.cpu ∙ k.well.shape.cpu

  pub cpu_is : (t : ℕ) → get_or cs t 0 ≡ (task_of m t).cpu
  cpu_is t = ap (λ (q : List ℕ). get_or q t 0) k.cpu

  pub few : m.n ≤ 64
  few = k.well.shape.cpus

  pub cpu_low : (t : ℕ) → t < task_places → get_or cs t 0 < m.n
  cpu_low t h = subst (λ (c : ℕ). c < m.n) (sym (cpu_is t)) (cpu_small m t k.well h)

  pub rows_long : length flat ≡ task_places * m.n
  rows_long = ap length k.rows ∙ length_flat m.rows (well_formed_order m k.well).fits ∙ ap (λ (n : ℕ). task_places * n) k.well.shape.rows

  pub level_is : (c : ℕ) → c < m.n → get_or ls c 0 ≡ level m c
  level_is c h = ap (λ (q : List ℕ). get_or q c 0) k.levels ∙ levels_below m c h

  module _ (c : ℕ) (h : c < m.n) where
    in_rows : c < length m.rows
    in_rows = omega (arith, k.well.shape.rows)

    pub first_is : get_or flat (c * task_places) 0 ≡ or_nothing (running m c)
    first_is = ap (λ (q : List ℕ). get_or q (c * task_places) 0) k.rows ∙ flat_first m.rows (well_formed_order m k.well).fits c in_rows

    pub second_is : get_or flat (c * task_places + 1) 0 ≡ or_nothing (second (row m c))
    second_is = ap (λ (q : List ℕ). get_or q (c * task_places + 1) 0) k.rows ∙ flat_second m.rows (well_formed_order m k.well).fits c in_rows

    pub runs_is : (t : ℕ) → t < task_places → eqb (get_or flat (c * task_places) 0) t ≡ holds (running m c) t
    runs_is t l = ap (λ (x : ℕ). eqb x t) first_is ∙ holds_place (running m c) t l

  -- what is read before the effect
  pub past_is : (t : ℕ) → t < task_places → Task t (get_or cs t 0) (get_or ls (get_or cs t 0) 0) (eqb (get_or flat (get_or cs t 0 * task_places) 0) t) ≡ past_of m t
  past_is t h =
      let low : get_or cs t 0 < m.n = cpu_low t h in
      ap (λ (b : Bool). Task t (get_or cs t 0) (get_or ls (get_or cs t 0) 0) b) (runs_is (get_or cs t 0) low t h)
      ∙ ap (λ (l : ℕ). Task t (get_or cs t 0) l (holds (running m (get_or cs t 0)) t)) (level_is (get_or cs t 0) low)
      ∙ ap (λ (c : ℕ). Task t c (level m c) (holds (running m c) t)) (cpu_is t)

-- the number of CPUs is read off the rows
pub same_cpus : {a b : Machine} {cs flat ls : List ℕ} → Reading a cs flat ls → Reading b cs flat ls → a.n ≡ b.n
same_cpus k l = omega (arith, rows_long k, rows_long l)

-- the first of a row, if there is one
module _ {m : Machine} {cs flat ls : List ℕ} (k : Reading m cs flat ls) (c : ℕ) (h : c < m.n) where
  -- what is read there
  held : (o : code.Option ℕ) → task_in (get_or flat (c * task_places) 0) ≡ o → (r : List ℕ) → row m c ≡ r → o ≡ coded (head r)
  held o e r q =
      sym e ∙ ap task_in (first_is k c h)
      ∙ task_in_place (running m c) (λ t s. runs_task m k.well c t s)
      ∙ ap (λ (r : List ℕ). coded (head r)) q

  pub none_runs : task_in (get_or flat (c * task_places) 0) ≡ None → Untouched ≡ past_of_row m (row m c)
  none_runs e = go (row m c) refl
    where
      go : (r : List ℕ) → row m c ≡ r → Untouched ≡ past_of_row m r
      go [] q = refl
      go (t ∷ ts) q = absurd (none-some t (held None e (t ∷ ts) q))

  pub one_runs : {u : ℕ} → task_in (get_or flat (c * task_places) 0) ≡ Some u → (u < task_places) × (past_of m u ≡ past_of_row m (row m c))
  one_runs {u} e = go (row m c) refl
    where
      go : (r : List ℕ) → row m c ≡ r → (u < task_places) × (past_of m u ≡ past_of_row m r)
      go [] q = absurd (none-some u (sym (held (Some u) e [] q)))
      go (t ∷ ts) q =
          let same : u ≡ t = same_Some u t (held (Some u) e (t ∷ ts) q) in
          (subst (λ (x : ℕ). x < task_places) (sym same) (first_place m c t ts k.well q), ap (past_of m) same)

-- ---- by what was decided

pub decided_past : (m : Machine) (d f : Decision) → d ≡ f → past_by m f ≡ past_by m d
decided_past m d f is = ap (past_by m) (sym is)

pub able_gone : (m : Machine) (d : Decision) {c : ℕ} → Able m d → d ≡ Offline c → c < m.n
able_gone m d k is = (subst (Able m) is k).cpu

pub able_task : (m : Machine) (d : Decision) {p : Plan} → Able m d → d ≡ Place p → p.task < task_places
able_task m d k is = (subst (Able m) is k).task

-- ---- after the effect

module _ {m : Machine} {ss cs flat ls : List ℕ} (k : Reading m cs flat ls) (is : ss ≡ m.state) (t : ℕ) (h : t < task_places) (from : ℕ) (ran : Bool) where
  abbrev here : ℕ
  here = get_or cs t 0

  abbrev first : ℕ
  first = get_or flat (here * task_places) 0

  abbrev next : code.Option ℕ
  next = task_in (get_or flat (here * task_places + 1) 0)

  low : get_or cs t 0 < m.n
  low = cpu_low k t h

  next_is : next ≡ coded (second (row m here))
  next_is =
      ap task_in (second_is k here low)
      ∙ task_in_place (second (row m here)) (λ u e. runnable_place m u k.well (in_row m u here k.well (waits_in m u here (first_in u (tail (row m here)) e))).0)

  -- the new task, as read
  read : new_since t from ran m ≡ cond (eqb (get_or ss t 0) runnable) (cond (eqb first t) (cond (ran && eqb from here) none (second (row m here))) (some t)) none
  read =
      ap (λ (d : ℕ). cond (eqb (task_of m t).state runnable) (cond (holds (running m d) t) (cond (ran && eqb from d) none (second (row m d))) (some t)) none)
      (sym (cpu_is k t))
      ∙ ap (λ (q : List ℕ). cond (eqb (get_or q t 0) runnable) (cond (holds (running m here) t) (cond (ran && eqb from here) none (second (row m here))) (some t)) none)
      (sym is)
      ∙ ap (λ (b : Bool). cond (eqb (get_or ss t 0) runnable) (cond b (cond (ran && eqb from here) none (second (row m here))) (some t)) none)
      (sym (runs_is k here low t h))

  -- by its three tests, one after the other
  by : (a b c : Bool) → eqb (get_or ss t 0) runnable ≡ a → eqb first t ≡ b → (ran && eqb from here) ≡ c
      → coded (cond a (cond b (cond c none (second (row m here))) (some t)) none) ≡ coded (new_since t from ran m)
  by a b c p q r =
      ap coded (sym (read
      ∙ ap (λ (x : Bool). cond x (cond (eqb first t) (cond (ran && eqb from here) none (second (row m here))) (some t)) none) p
      ∙ ap (λ (x : Bool). cond a (cond x (cond (ran && eqb from here) none (second (row m here))) (some t)) none) q
      ∙ ap (λ (x : Bool). cond a (cond b (cond x none (second (row m here))) (some t)) none) r))

  pub new_away : (get_or ss t 0 ≡ runnable → ⊥) → None ≡ coded (new_since t from ran m)
  new_away n = by false (eqb first t) (ran && eqb from here) (ne_eqb (get_or ss t 0) runnable n) refl refl

  module _ (s : get_or ss t 0 ≡ runnable) where
    up : eqb (get_or ss t 0) runnable ≡ true
    up = eq-eqb (get_or ss t 0) runnable s

    pub new_waits : (get_or flat (get_or cs t 0 * task_places) 0 ≡ t → ⊥) → Some t ≡ coded (new_since t from ran m)
    new_waits n = by true false (ran && eqb from here) up (ne_eqb first t n) refl

    module _ (e : get_or flat (get_or cs t 0 * task_places) 0 ≡ t) where
      pub new_stays : (ran && eqb from (get_or cs t 0)) ≡ true → None ≡ coded (new_since t from ran m)
      new_stays q = by true true true up (eq-eqb first t e) q

      pub new_behind : (ran && eqb from (get_or cs t 0)) ≡ false → task_in (get_or flat (get_or cs t 0 * task_places + 1) 0) ≡ coded (new_since t from ran m)
      new_behind q = next_is ∙ by true true false up (eq-eqb first t e) q

-- who can move by what was read
pub since_is : {m : Machine} {cs flat ls : List ℕ} (k : Reading m cs flat ls) (t c l : ℕ) (ran : Bool) (past : Past) → past ≡ Task t c l ran → c < m.n
    → {fallen new : code.Option ℕ} → fallen ≡ then_some (ran && ltb (get_or ls c 0) l) c → new ≡ coded (new_since t c ran m)
    → seen fallen new ≡ candidates_since past m
since_is {m} {cs} {flat} {ls} k t c l ran past is small {fallen} {new} ef en =
    ap (λ (o : code.Option ℕ). seen o new) ef
    ∙ ap (λ (x : ℕ). seen (then_some (ran && ltb x l) c) new) (level_is k c small)
    ∙ ap (seen (then_some (ran && ltb (level m c) l) c)) en
    ∙ ap (λ (o : code.Option ℕ). seen o (coded (new_since t c ran m))) (then_coded (ran && ltb (level m c) l))
    ∙ ap (λ (p : Past). candidates_since p m) (sym is)
  where
    then_coded : (b : Bool) → then_some b c ≡ coded (cond b (some c) none)
    then_coded true = refl
    then_coded false = refl

-- the levels are not read
pub unlevelled : {m : Machine} {cs flat ls : List ℕ} → Reading m cs flat ls → Reading m cs flat (levels m)
unlevelled k = record { well = k.well; cpu = k.cpu; rows = k.rows; levels = refl }
