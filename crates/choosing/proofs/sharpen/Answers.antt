-- `choosing::sharpen` meets its contract.
-- Assumes nothing.
use mathlib.Core.Path.{sym, subst}
use mathlib.Core.List.{List}
use Prim.Native.Nat.{ℕ, ◌-◌, ◌^◌, ◌≤◌, ◌<◌}
use native.Mathlib.Nat.{le_trans, le_of_eq}
use native.Mathlib.Omega.{arith}
use Rattle.cpupri.specs.Level.{level_count}
use Rattle.cpupri.specs.Found.{lowest_level}
use Rattle.cpupri.proofs.Found.{some_below, some_under, none_below}
use Rattle.cpupri.proofs.Search.{marked_by}
use Rattle.rules.specs.Machine.{Machine, level, levels}
use Rattle.laws.proofs.Finder.{lowest_of_all}
use Rattle.mover.specs.Foremost.{OnlyAbove}
use Rattle.choosing.specs.Choosing.{Watching}
use Rattle.choosing.proofs.Steps.{no_level, no_candidate, only_candidate}
use Rattle.choosing.proofs.sharpen.Goals.{In-Some}
use Rattle.choosing.proofs.sharpen.Goals as goal

-- no CPU is below the lowest level
least : {m : Machine} {n : ℕ} {ps ks flat lm lw : List ℕ} → Watching m n ps ks flat lm lw → (l : ℕ) → l ≤ lowest_level lm level_count (2 ^ 64 - 1)
    → (c : ℕ) → c < m.n → l ≤ level m c
least {m} k l small c h =
    le_trans (subst (λ (ms : List ℕ). l ≤ lowest_level ms level_count (2 ^ 64 - 1)) k.masks small) (lowest_of_all m k.looking.well c h)

-- so none is below the one that was found
module _ (c : In-Some) {m : Machine} where
  least_found : let a = c.args in Watching m a.n a.prio.now a.counts.now a.rows.now a.masks.now a.words.now → (d : ℕ) → d < m.n → c.in-Some.lowest ≤ level m d
  least_found k = let x = c in
      least k x.in-Some.lowest (le_of_eq (some_below x.args.masks.now level_count (2 ^ 64 - 1) (sym x.in-Some.ensures)).0)

pub lowest_level-requires-clause-marked : goal.lowest_level-requires-clause-marked
lowest_level-requires-clause-marked c = let p = c.requires in marked_by (levels p.0) p.1.masks p.1.words

pub returns-in_default : goal.returns-in_default
returns-in_default c = λ m k h.
    no_level m k.looking.well level_count
    (least k level_count (none_below c.args.masks.now level_count (2 ^ 64 - 1) (sym c.in_default.ensures))) (omega arith)

pub returns-in-Nobody : goal.returns-in-Nobody
returns-in-Nobody c = λ m k h.
    let l = c.in-Some.lowest in
    no_candidate m k.looking.well l (least_found (goal.at.returns-in-Nobody c).In-Some k)
    (subst (OnlyAbove m l m.n) c.in-Nobody.is (subst (λ (i : ℕ). OnlyAbove m l i c.who_above.result) k.cpus (c.who_above.ensures m k.looking k.cpus)))

pub returns-in-One : goal.returns-in-One
returns-in-One c = λ m k h.
    let l = c.in-Some.lowest in
    only_candidate m k.looking.well l (least_found (goal.at.returns-in-One c).In-Some k) c.in-One.task
    (subst (OnlyAbove m l m.n) c.in-One.is (subst (λ (i : ℕ). OnlyAbove m l i c.who_above.result) k.cpus (c.who_above.ensures m k.looking k.cpus)))

pub overflow_cast-lowest : goal.overflow_cast-lowest
overflow_cast-lowest c =
    let under = some_under c.args.masks.now level_count (2 ^ 64 - 1) (sym c.in-Some.ensures) in
    omega arith
