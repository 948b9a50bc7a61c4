-- `rowcheck::row::tasks_stand` meets its contract. The loop's invariant: the tasks passed may stand where they do, they have joined the
-- set, and `bound` is the priority of the last. Assumes nothing.
use mathlib.Core.Path.{◌≡◌, refl, sym, ap, ◌∙◌, subst}
use mathlib.Core.Bool.{true}
use mathlib.Core.List.{List}
use Prim.Native.Nat.{ℕ, ◌+◌, ◌≤◌, ◌<◌}
use native.Mathlib.Omega.{arith}
use native.Mathlib.Nat.{not-suc-le-zero}
use native.Mathlib.Numerals.{add-one}
use lib.Dec.{eqb}
use lib.ListN.{length, get_or, take}
use lib.Seq.{get_or-take, length-take-le}
use borrow.Author.Count.{below_more}
use borrow.Author.Tests.{not-false}
use Rattle.bits.specs.Bit.{digit}
use Rattle.rules.specs.Lists.{occ}
use Rattle.laws.proofs.Lists.{digit_same, occ_nil}
use Rattle.rowcheck.specs.Placed.{marked, mark, above, Stands}
use Rattle.rowcheck.proofs.Saying.{yes}
use Rattle.rowcheck.proofs.Marking.{occ_take, occ_grows}
use Rattle.rowcheck.proofs.row.tasks_stand.Goals.{In-loop-place, Else-not-stands}
use Rattle.rowcheck.proofs.row.tasks_stand.Goals as goal

-- a task that is in the set, and stands at place i, is there twice
twice : (marks marks₀ row : List ℕ) (i count : ℕ) → i < count → i < length row
    → mark marks (get_or row i 0) ≡ mark marks₀ (get_or row i 0) + occ (get_or row i 0) (take i row) → marked marks (get_or row i 0) ≡ true
    → mark marks₀ (get_or row i 0) + occ (get_or row i 0) (take count row) ≤ 1 → ⊥
twice marks marks₀ row i count h l e t p =
    let u = get_or row i 0 in
    let one : mark marks u ≡ 1 = ap digit t in
    omega (arith, occ_take u row i l, digit_same u u refl, occ_grows u (i + 1) count row (omega arith))

-- ---- the task that is looked at

module _ (c : In-loop-place) where
  within : let k = c in k.loop-place.place-index < k.args.count
  within = let k = c in omega (arith, length-take-le k.args.count k.args.row.now k.requires.count_in_bounds.0)

  -- the place is the row's
  same : let k = c in get_or (take k.args.count k.args.row.now) k.loop-place.place-index 0 ≡ get_or k.args.row.now k.loop-place.place-index 0
  same = let k = c in get_or-take k.args.count k.args.row.now k.loop-place.place-index 0 within

-- it may stand there
here : (c : Else-not-stands)
    → let k = c in let a = k.args in Stands a.state.now a.prio.now a.cpu.now a.c (above a.prio.now a.row.now k.loop-place.place-index) (get_or a.row.now k.loop-place.place-index 0)
here c =
    let k = c in
    let a = k.args in
    subst (λ (u : ℕ). Stands a.state.now a.prio.now a.cpu.now a.c (above a.prio.now a.row.now k.loop-place.place-index) u) (same (goal.at.Else-not-stands k).In-loop-place)
    (subst (λ (b : ℕ). Stands a.state.now a.prio.now a.cpu.now a.c b (get_or (take a.count a.row.now) k.loop-place.place-index 0)) k.loop-place.invariant.0
    (yes k.stands.result k.stands.ensures k.if-not-stands.false))

-- ---- the needs

pub loop-place-init : goal.loop-place-init
loop-place-init c = (refl, λ i h. absurd (not-suc-le-zero h), (c.requires.count_in_bounds.1, λ u. omega (arith, occ_nil u)))

pub returns-then-not-add-clause-says : goal.returns-then-not-add-clause-says
returns-then-not-add-clause-says c =
    let l = c.loop-place in
    let row = c.args.row.now in
    let u = get_or row l.place-index 0 in
    let is = same (goal.at.returns-then-not-add-clause-says c).In-loop-place in
    let inside = within (goal.at.returns-then-not-add-clause-says c).In-loop-place in
    let there : marked l.marks u ≡ true = ap (marked l.marks) (sym is) ∙ not-false (marked l.marks _) (sym c.add.ensures.value ∙ c.if-not-add.true) in
    λ p. twice l.marks c.args.marks.now row l.place-index c.args.count inside (omega arith) (l.invariant.2.1 u) there (p.1 u)

pub loop-place-preserved : goal.loop-place-preserved
loop-place-preserved c =
    let l = c.loop-place in
    let row = c.args.row.now in
    let prio = c.args.prio.now in
    let is = same (goal.at.loop-place-preserved c).In-loop-place in
    let inside = within (goal.at.loop-place-preserved c).In-loop-place in
    let joined = c.add.ensures.joined c.if-not-add.false in (
      ap (λ (u : ℕ). get_or prio u 0) is ∙ ap (above prio row) (sym (add-one l.place-index)),
      below_more _ _ l.invariant.1 (here (goal.at.loop-place-preserved c).Else-not-stands),
      (
        joined.0,
        λ u. omega (
          arith,
          joined.1 u,
          l.invariant.2.1 u,
          occ_take u row l.place-index (omega arith),
          ap (λ (v : ℕ). digit (eqb u v)) is,
        ),
      ),
    )
