-- `evacuation::evacuate` meets its contract. The loop's invariant: the tables hold a machine that some of the tasks have left.
-- Assumes nothing.
use mathlib.Core.Path.{◌≡◌, sym, ◌∙◌}
use Prim.Native.Nat.{ℕ, ◌<◌}
use native.Mathlib.Omega.{arith}
use Rattle.levels.specs.Record.{lent_record}
use Rattle.evacuation.proofs.Leaves.{Under, under_start, under_first, under_on, under_end, under_counted, under_long, under_cpus, fewer}
use Rattle.evacuation.proofs.evacuate.Goals.{At-loop-counts}
use Rattle.evacuation.proofs.evacuate.Goals as goal

some : {k : ℕ} → (k ≡ 0 → ⊥) → 0 < k
some n = omega arith

-- ---- in the loop

module _ (c : At-loop-counts) where
  under : let k = c in let a = k.args in let l = k.loop-counts in
      Under k.requires.0 a.prio.now l.cpus a.mask.now l.rows l.counts a.flags.now
      (lent_record l.masks l.tallies l.words l.levels) a.cpu a.up
  under =
      let k = c in
      let l = k.requires.1 in
      under_first l (some k.if-counts-cpu-eq0.false) (k.loop-counts.invariant _ (k.leave_first.ensures k.requires.0 l (some k.if-counts-cpu-eq0.false)))

pub returns-then-counts-cpu-eq0 : goal.returns-then-counts-cpu-eq0
returns-then-counts-cpu-eq0 c = λ m l. under_end (under_start l) c.if-counts-cpu-eq0.true

pub leave_first-requires : goal.leave_first-requires
leave_first-requires c = (c.requires.0, (c.requires.1, some c.if-counts-cpu-eq0.false))

pub loop-counts-init : goal.loop-counts-init
loop-counts-init c = λ m l. under_start l

pub leave_first-requires-in-loop-counts : goal.leave_first-requires-in-loop-counts
leave_first-requires-in-loop-counts c =
    let g = under (goal.at.leave_first-requires-in-loop-counts c).At-loop-counts in
    (g.reached, (g.empties, some c.loop-counts-test.true))

pub loop-counts-smaller : goal.loop-counts-smaller
loop-counts-smaller c =
    let g = under (goal.at.loop-counts-smaller c).At-loop-counts in
    let left = c.leave_first-in-loop-counts.ensures g.reached g.empties (some c.loop-counts-test.true) in
    fewer g.empties (some c.loop-counts-test.true) left

pub loop-counts-preserved : goal.loop-counts-preserved
loop-counts-preserved c =
    λ m l.
    let g = c.loop-counts.invariant m l in
    under_on g (some c.loop-counts-test.true) (c.leave_first-in-loop-counts.ensures g.reached g.empties (some c.loop-counts-test.true))

pub shape_of-cpus : goal.shape_of-cpus
shape_of-cpus c = under_cpus (under (goal.at.shape_of-cpus c).At-loop-counts) ∙ sym (under_cpus (under_start c.requires.1))

pub shape_of-rows : goal.shape_of-rows
shape_of-rows c = under_long (under (goal.at.shape_of-rows c).At-loop-counts) ∙ sym (under_long (under_start c.requires.1))

pub shape_of-counts : goal.shape_of-counts
shape_of-counts c = under_counted (under (goal.at.shape_of-counts c).At-loop-counts) ∙ sym (under_counted (under_start c.requires.1))

pub returns : goal.returns
returns c =
    λ m l.
    let one = some c.if-counts-cpu-eq0.false in
    under_end (under_first l one (c.loop-counts.invariant _ (c.leave_first.ensures m l one))) c.loop-counts-test.false
