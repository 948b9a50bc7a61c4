-- The best candidate of all rows, with the destination that the finder gives, is the step that applies; who it is, where few can move; and
-- leaving a row as its mover keeps every level.
-- Assumes nothing.
use mathlib.Core.Path.{◌≡◌, refl, sym, ap, ap₂, ◌∙◌, subst}
use mathlib.Core.Bool.{Bool, true, false, cond, ◌&&◌, ◌||◌, false≢true}
use mathlib.Core.List.{List, tail}
use mathlib.Core.Logic.{◌⊎◌, inl, inr}
use mathlib.Core.Option.{Option, none, some}
use Prim.Native.Nat.{ℕ, ◌≤◌, ◌<◌}
use native.Mathlib.Omega.{arith}
use lib.Dec.{eqb, ltb}
use lib.ListN.{length, get_or, set}
use lib.Seq.{set-get_or}
use borrow.Author.Tests.{eqb-true, ltb-true}
use Rattle.bits.specs.Bit.{bit, lowest}
use Rattle.cpupri.specs.Level.{level_count}
use Rattle.cpupri.specs.Found.{lowest_level, allowed_at, Marked}
use Rattle.cpupri.proofs.Search.{marked_by}
use Rattle.cpupri.specs.Record.{masks_of}
use Rattle.rules.specs.Lists.{In, delete}
use Rattle.rules.specs.Machine.{Machine, task_of, prio_of, row, is_online, idle_level, level, levels, level_of, row_level, allowed, dequeue, runnable, task_places, highest_priority}
use Rattle.rules.specs.Migration.{Move, Chosen, waiting, movable, mover, move_of, next_of, destination, next}
use Rattle.rules.specs.WellFormed.{WellFormed, Fit}
use Rattle.laws.specs.Limited.{holds, drawn, Limited}
use Rattle.laws.proofs.Apart.{in_row, runnable_fit, runnable_place}
use Rattle.laws.proofs.Online.{level_online}
use Rattle.laws.proofs.Choice.{chosen, chosen_next, none_movable, movable_one, Target, target_of}
use Rattle.laws.proofs.Finder.{movable_found, found_is, found_level, found_destination}
use Rattle.laws.proofs.Limited.{none_some, candidate_movable, limited_none}
use Rattle.laws.proofs.Lists.{in_tails, tails_in, delete_behind}
use Rattle.laws.proofs.Record.{levels_below}
use Rattle.laws.proofs.Step.{Origin, origin_row, origin_small}
use Rattle.placement.proofs.Levels.{levels_row}
use Rattle.mover.specs.Foremost.{Foremost, BestOf, OnlyAbove}
use Rattle.std.specs.Prelude as code
use Rattle.std.specs.Prelude.{Some, None, IfSome}
use Rattle.hinting.specs.Hinted.{ruled}
use Rattle.choosing.specs.Choosing.{Choosing, mover_of, step_by, step_if, Leads}
use Rattle.waiting.specs.Wanted.{meant, names}
use Rattle.mover.specs.declared.pick.Above.TheVariants.{Nobody, One}
use Rattle.mover.specs.declared.pick.Mover.{Mover}
use Rattle.waiting.specs.declared.scan.Test.TheVariants.{Drawn}
use Rattle.mover.proofs.Candidates.{tail_in}

-- ---- the same test for all who wait gives the same

module _ (p q : ℕ → Bool) (m : Machine) (c : ℕ) (h : (u : ℕ) → In u (waiting m) → p u ≡ q u) where
  same_test : (u d : ℕ) → In u (tail (row m d)) → p u ≡ q u
  same_test u d i = h u (in_tails u d m.rows i)

  best_same : (b : code.Option Mover) → BestOf p m c b → BestOf q m c b
  best_same None f = λ d l u i. sym (same_test u d i) ∙ f d l u i
  best_same (Some b) f =
      record {
        cpu = f.cpu;
        waits = f.waits;
        passes = sym (same_test b.task b.origin f.waits) ∙ f.passes;
        prio = f.prio;
        highest = λ d l u i t. f.highest d l u i (same_test u d i ∙ t);
        lowest_cpu = λ d l u i t. f.lowest_cpu d l u i (same_test u d i ∙ t);
        earliest = λ u i t. f.earliest u i (same_test u b.origin i ∙ t);
      }

-- the task of the best
abbrev pub task_of_best : code.Option Mover → code.Option ℕ
task_of_best None = None
task_of_best (Some b) = Some b.task

names_holds : (o : code.Option ℕ) (u : ℕ) → names o u ≡ holds (ruled o) u
names_holds None u = refl
names_holds (Some t) u = refl

module _ (m : Machine) (w : WellFormed m) where
  -- ---- who waits

  -- a waiting task, by its row
  in_waiting : (u : ℕ) → In u (waiting m) → (d : ℕ) × (d < m.n) × In u (tail (row m d))
  in_waiting u i = let t = tails_in u m.rows i in (t.0, omega (arith, w.shape.rows, t.1), t.2)

  waits_on : (u d : ℕ) → In u (tail (row m d)) → (task_of m u).cpu ≡ d
  waits_on u d i = (in_row m u d w (tail_in u (row m d) i)).1

  module _ (u : ℕ) (i : In u (waiting m)) where
    runs : (task_of m u).state ≡ runnable
    runs = let p = in_waiting u i in (in_row m u p.0 w (tail_in u (row m p.0) p.2)).0

    fit : Fit m.n m.full (task_of m u)
    fit = runnable_fit m u w runs

    pub waits_place : u < task_places
    waits_place = runnable_place m u w runs

    -- its step, with the destination that the finder gives
    step_is : step_by (masks_of (levels m)) m.prio m.cpu m.mask u ≡ cond (movable m u) (some (move_of m u)) none
    unfolding step_by
    step_is = go (movable m u) refl
      where
        below : ℕ
        below = level_of (prio_of m u)

        found : ℕ
        found = lowest_level (masks_of (levels m)) below (task_of m u).mask

        found_move : Move
        found_move = record { task = u; origin = (task_of m u).cpu; target = lowest 64 (allowed_at (masks_of (levels m)) (task_of m u).mask found); displaced = found }

        go : (b : Bool) → movable m u ≡ b → cond (ltb found below) (some found_move) none ≡ cond b (some (move_of m u)) none
        go true e =
            let there = found_destination m w u fit (movable_found m w u fit e) in
            ap (λ (b : Bool). cond b (some found_move) none) (found_is m w u fit ∙ e)
            ∙ ap₂ (λ (c l : ℕ). some (record { task = u; origin = (task_of m u).cpu; target = c; displaced = l })) there
            (sym (found_level m w u fit (movable_found m w u fit e)) ∙ ap (level m) there)
        go false e = ap (λ (b : Bool). cond b (some found_move) none) (found_is m w u fit ∙ e)

  -- ---- the search through all rows

  -- nothing is movable: no step applies
  none_next : ((d : ℕ) → d < m.n → (u : ℕ) → In u (tail (row m d)) → movable m u ≡ false) → next m ≡ none
  none_next h = go (next m) refl
    where
      go : (o : Option Move) → next m ≡ o → next m ≡ none
      go none e = e
      go (some v) e =
          let k : Chosen m v = chosen m v w e in
          absurd (false≢true (sym (h v.origin (origin_small m v w k) v.task k.waits) ∙ k.moves))

  -- at most one who waits is above a level that no CPU is below: nobody else can move
  module _ (l : ℕ) (least : (c : ℕ) → c < m.n → l ≤ level m c) where
    -- who finds a CPU below it is above that level
    above_it : (u c : ℕ) → In u (waiting m) → c < m.n → level m c < level_of (prio_of m u) → l < level_of (prio_of m u)
    above_it u c i h below = let low : l ≤ level m c = least c h in omega arith

    pub no_candidate : OnlyAbove m l m.n Nobody → Limited m none none
    no_candidate o =
        record {
          small = λ c e. absurd (none_some c e);
          waits = λ u e. absurd (none_some u e);
          only = λ u c i h a below. absurd (let p = in_waiting u i in
              let up : l < level_of (prio_of m u) = above_it u c i h below in
              let low : level_of (prio_of m u) ≤ l = o p.0 p.1 u p.2 in
              let no : ⊥ = omega arith in
              no);
          quiet = λ x c u d e f. absurd (none_some c f);
        }

    -- no CPU is at a level that the finder gives
    pub no_level : level_count ≤ l → Limited m none none
    no_level h = no_candidate (λ d k u i. let high = (fit u (in_tails u d m.rows i)).prio_high in omega arith)

    pub only_candidate : (t : ℕ) → OnlyAbove m l m.n (One t) → Limited m none (some t)
    only_candidate t o =
        record {
          small = λ c e. absurd (none_some c e);
          waits = λ u e. let same : t ≡ u = cc in subst (λ (x : ℕ). In x (waiting m)) same (in_tails t o.waits.0 m.rows o.waits.2);
          only = λ u c i h a below. inl (let p = in_waiting u i in ap some (sym (o.only p.0 p.1 u p.2 (above_it u c i h below))));
          quiet = λ x c u d e f. absurd (none_some c f);
        }

  module _ (b : Mover) (f : Foremost (movable m) m m.n b) where
    abbrev t : ℕ
    t = b.task

    best_waits : In t (waiting m)
    best_waits = in_tails t b.origin m.rows f.waits

    best_next : next m ≡ some (move_of m t)
    best_next =
        chosen_next m (record { task = t; origin = b.origin; target = destination m t; displaced = level m (destination m t) }) w
        (record {
          runs = runs t best_waits;
          origin = home;
          waits = f.waits;
          moves = f.passes;
          highest = λ u i h. let p = in_waiting u i in subst (λ (x : ℕ). prio_of m u ≤ x) f.prio (f.highest p.0 p.1 u p.2 h);
          lowest_cpu = λ u i h q. let p = in_waiting u i in
              subst (λ (x : ℕ). b.origin ≤ x) (sym (waits_on u p.0 p.2)) (f.lowest_cpu p.0 p.1 u p.2 h (subst (λ (x : ℕ). x ≤ prio_of m u) (sym f.prio) q));
          earliest = λ u i h q e. let p = in_waiting u i in
              f.earliest u (subst (λ (d : ℕ). In u (tail (row m d))) (sym (waits_on u p.0 p.2) ∙ e) p.2) h (subst (λ (x : ℕ). x ≤ prio_of m u) (sym f.prio) q);
          small = aim.small;
          may = aim.may;
          below = omega (arith, aim.lowest one.0 one.1 one.2, one.3);
          displaced = refl;
          lowest = aim.lowest;
          nearest = aim.nearest;
        })
        ∙ ap (λ (c : ℕ). some (record { task = t; origin = c; target = destination m t; displaced = level m (destination m t) })) (sym home)
      where
        home : (task_of m t).cpu ≡ b.origin
        home = waits_on t b.origin f.waits

        one : (c : ℕ) × (c < m.n) × (allowed m t c ≡ true) × (level m c < level_of (prio_of m t))
        one = movable_one m t f.passes

        aim : Target m t (destination m t)
        aim = target_of m t one.0 one.1 one.2

  -- the best of all rows, or none, leads to the step that applies
  best_leads : (b : code.Option Mover) → BestOf (movable m) m m.n b → step_if (masks_of (levels m)) m.prio m.cpu m.mask (task_of_best b) ≡ next m
  best_leads None f = sym (none_next f)
  best_leads (Some b) f =
      step_is b.task (best_waits b f)
      ∙ ap (λ (x : Bool). cond x (some (move_of m b.task)) none) f.passes
      ∙ sym (best_next b f)

  -- ---- where few can move

  -- no CPU fell: the new task leads to the step
  new_leads : (new : code.Option ℕ) → Limited m none (ruled new) → step_if (masks_of (levels m)) m.prio m.cpu m.mask new ≡ next m
  unfolding next
  new_leads None l = sym (limited_none m w l)
  new_leads (Some new) l = go (mover m) refl
    where
      -- who moves is the new task
      is_new : (t : ℕ) → mover m ≡ some t → ◌≡◌ {A = Option ℕ} (some new) (some t)
      is_new t h = pick (l.only t v.target (in_tails t v.origin m.rows k.waits) k.small k.may k.below)
        where
          v : Move
          v = move_of m t

          k : Chosen m v
          k = chosen m v w (ap (next_of m) h)

          pick : (some new ≡ some t) ⊎ (none ≡ some v.target) → some new ≡ some t
          pick (inl e) = e
          pick (inr e) = absurd (none_some v.target e)

      waits : In new (waiting m)
      waits = l.waits new refl

      go : (o : Option ℕ) → mover m ≡ o → step_by (masks_of (levels m)) m.prio m.cpu m.mask new ≡ next_of m (mover m)
      go none h =
          step_is new waits
          ∙ ap (λ (x : Bool). cond x (some (move_of m new)) none) (none_movable m new (ap (next_of m) h) waits)
          ∙ sym (ap (next_of m) h)
      go (some t) h =
          let here : mover m ≡ some new = h ∙ sym (is_new t h) in
          step_is new waits
          ∙ ap (λ (x : Bool). cond x (some (move_of m new)) none) (chosen m (move_of m new) w (ap (next_of m) here)).moves
          ∙ sym (ap (next_of m) here)

  -- a CPU fell: who is drawn there, and the new task if it is movable
  module _ (c : ℕ) (new : code.Option ℕ) (l : Limited m (some c) (ruled new)) (who : code.Option ℕ)
      (is : ruled who ≡ mover_of (step_if (masks_of (levels m)) m.prio m.cpu m.mask new)) where
    new_is : (u : ℕ) → In u (waiting m) → names who u ≡ (holds (ruled new) u && movable m u)
    new_is u i = names_holds who u ∙ ap (λ (o : Option ℕ). holds o u) is ∙ go new l
      where
        there : (t : ℕ) (b s : Bool) → movable m t ≡ b → eqb t u ≡ s → holds (mover_of (cond b (some (move_of m t)) none)) u ≡ (s && movable m u)
        there t true true h e = e ∙ sym (ap (movable m) (sym (eqb-true t u e)) ∙ h)
        there t false true h e = sym (ap (movable m) (sym (eqb-true t u e)) ∙ h)
        there t true false h e = e
        there t false false h e = refl

        go : (new : code.Option ℕ) → Limited m (some c) (ruled new)
            → holds (mover_of (step_if (masks_of (levels m)) m.prio m.cpu m.mask new)) u ≡ (holds (ruled new) u && movable m u)
        go None l = refl
        go (Some t) l = ap (λ (o : Option Move). holds (mover_of o) u) (step_is t (l.waits t refl)) ∙ there t (movable m t) (eqb t u) refl refl

    -- a CPU below a task's level is online
    online_below : (u : ℕ) → In u (waiting m) → (b : Bool) → ltb (level m c) (level_of (prio_of m u)) ≡ b
        → (bit (task_of m u).mask c && ltb (level m c) (level_of (prio_of m u))) ≡ (allowed m u c && ltb (level m c) (level_of (prio_of m u)))
    online_below u i true h =
        let high : prio_of m u ≤ highest_priority = (runnable_fit m u w (runs u i)).prio_high in
        let on : is_online m c ≡ true = level_online m c w (omega (arith, ltb-true (level m c) (level_of (prio_of m u)) h)) in
        ap (λ (x : Bool). x && ltb (level m c) (level_of (prio_of m u))) (sym (and_true (bit (task_of m u).mask c)) ∙ ap (λ (x : Bool). bit (task_of m u).mask c && x) (sym on))
      where
        and_true : (x : Bool) → (x && true) ≡ x
        and_true true = refl
        and_true false = refl
    online_below u i false h =
        ap (λ (x : Bool). bit (task_of m u).mask c && x) h ∙ and_false (bit (task_of m u).mask c) ∙ sym (ap (λ (x : Bool). allowed m u c && x) h ∙ and_false (allowed m u c))
      where
        and_false : (x : Bool) → (x && false) ≡ false
        and_false true = refl
        and_false false = refl

    -- of those who wait, these are the movable ones
    drawn_is : (x : ℕ) → x ≡ level m c → (u : ℕ) → In u (waiting m) → meant m (Drawn c x who) u ≡ movable m u
    drawn_is x e u i =
        ap (λ (y : ℕ). names who u || (bit (task_of m u).mask c && ltb y (level_of (prio_of m u)))) e
        ∙ ap (λ (b : Bool). names who u || b) (online_below u i (ltb (level m c) (level_of (prio_of m u))) refl)
        ∙ ap (λ (b : Bool). b || drawn m (some c) u) (new_is u i)
        ∙ candidate_movable m (some c) (ruled new) l u i

  -- ---- leaving

  -- the mover leaves its row: it waited, so every level stays
  pub levels_left : (v : Move) → Chosen m v → levels (dequeue v.task v.origin m) ≡ levels m
  levels_left v k =
      levels_row m v.origin (delete v.task (row m v.origin)) w.shape.cpus w.shape.rows small
      ∙ ap (set (levels m) v.origin) (same ∙ sym (levels_below m v.origin small))
      ∙ set-get_or (levels m) v.origin 0
    where
      small : v.origin < m.n
      small = origin_small m v w k

      o : Origin m v w k
      o = origin_row m v w k

      same : row_level (prio_of m) (idle_level m v.origin) (delete v.task (row m v.origin)) ≡ level m v.origin
      same =
          ap (λ (r : List ℕ). row_level (prio_of m) (idle_level m v.origin) (delete v.task r)) o.is
          ∙ ap (row_level (prio_of m) (idle_level m v.origin)) (delete_behind v.task o.top o.rest o.other)
          ∙ sym (ap (row_level (prio_of m) (idle_level m v.origin)) o.is)

-- ---- in terms of the lent tables

module _ {m : Machine} {n : ℕ} {ps cs ms ks flat lm lw ls : List ℕ} (k : Choosing m n ps cs ms ks flat lm lw ls) where
  -- what is stored is the machine's
  stored : (t : code.Option ℕ) → step_if lm ps cs ms t ≡ step_if (masks_of (levels m)) m.prio m.cpu m.mask t
  stored t =
      ap (λ (x : List ℕ). step_if x ps cs ms t) k.masks
      ∙ ap (λ (x : List ℕ). step_if (masks_of (levels m)) x cs ms t) k.looking.prio
      ∙ ap (λ (x : List ℕ). step_if (masks_of (levels m)) m.prio x ms t) k.cpu
      ∙ ap (λ (x : List ℕ). step_if (masks_of (levels m)) m.prio m.cpu x t) k.looking.mask

  -- the words say which levels have a CPU
  pub words_mark : Marked lm lw
  words_mark = marked_by (levels m) k.masks k.words

  -- a column is as long as there are task places
  pub prio_size : length ps ≡ task_places
  prio_size = ap length k.looking.prio ∙ k.looking.well.shape.prio

  pub cpu_size : length cs ≡ task_places
  cpu_size = ap length k.cpu ∙ k.looking.well.shape.cpu

  pub mask_size : length ms ≡ task_places
  mask_size = ap length k.looking.mask ∙ k.looking.well.shape.mask

  waits_stored : (t : ℕ) → In t (waiting m) → (t < task_places) × (get_or ps t 0 ≤ highest_priority)
  waits_stored t i = (
    waits_place m k.looking.well t i,
    subst (λ (x : List ℕ). get_or x t 0 ≤ highest_priority) (sym k.looking.prio) (fit m k.looking.well t i).prio_high,
  )

  -- the new task can be looked up
  pub new_stored : (fallen : Option ℕ) (new : code.Option ℕ) → Limited m fallen (ruled new) → IfSome new (λ t. (t < task_places) × (get_or ps t 0 ≤ highest_priority))
  new_stored fallen None l = tt
  new_stored fallen (Some t) l = waits_stored t (l.waits t refl)

  pub leads_best : (b : code.Option Mover) → BestOf (movable m) m n b → Leads m lm ps cs ms (task_of_best b)
  leads_best b best = record { step = stored (task_of_best b) ∙ best_leads m k.looking.well b (all b best); stored = can b (all b best) }
    where
      all : (b : code.Option Mover) → BestOf (movable m) m n b → BestOf (movable m) m m.n b
      all b best = subst (λ (x : ℕ). BestOf (movable m) m x b) k.cpus best

      can : (b : code.Option Mover) → BestOf (movable m) m m.n b → IfSome (task_of_best b) (λ t. (t < task_places) × (get_or ps t 0 ≤ highest_priority))
      can None f = tt
      can (Some b) f = waits_stored b.task (in_tails b.task b.origin m.rows f.waits)

  pub leads_new : (new : code.Option ℕ) → Limited m none (ruled new) → Leads m lm ps cs ms new
  leads_new new l = record { step = stored new ∙ new_leads m k.looking.well new l; stored = new_stored none new l }

  pub leads_drawn : (c : ℕ) (new : code.Option ℕ) → Limited m (some c) (ruled new) → (who : code.Option ℕ) → ruled who ≡ mover_of (step_if lm ps cs ms new)
      → (b : code.Option Mover) → BestOf (meant m (Drawn c (get_or ls c 0) who)) m n b → Leads m lm ps cs ms (task_of_best b)
  leads_drawn c new l who is b best =
      leads_best b
      (best_same (meant m (Drawn c (get_or ls c 0) who)) (movable m) m n
      (drawn_is m k.looking.well c new l who (is ∙ ap mover_of (stored new)) (get_or ls c 0)
      (ap (λ (x : List ℕ). get_or x c 0) k.levels ∙ levels_below m c (l.small c refl))) b best)
