-- `mover::pick::higher` meets its contract. Assumes nothing.
use mathlib.Core.Path.{refl, sym, subst}
use Rattle.mover.specs.Foremost.{HigherIn}
use Prim.Native.Nat.{ℕ, ◌+◌, ◌*◌, ◌≤◌, ◌<◌}
use native.Mathlib.Omega.{arith}
use lib.ListN.{length, get_or}
use Rattle.waiting.specs.Wanted.{meant}
use Rattle.mover.proofs.Candidates.{row_fits, row_most, lent_count, searchable, stored_small, first_low, none_higher, one_higher}
use Rattle.mover.proofs.pick.higher.Goals.{In_ok-at, Start}
use Rattle.mover.proofs.pick.higher.Goals as goal

-- the row's part of the table
fits : (a : Start) → a.args.cpu * 512 + 512 ≤ length a.args.rows.now
fits a = let p = a.requires.looking.1 in row_fits p.0 a.args.cpu p.1

-- the place that was found is within the row
inside : (c : In_ok-at) → let k = c in (k.in_ok-at.at < get_or k.args.counts.now k.args.cpu 0) × (get_or k.args.counts.now k.args.cpu 0 ≤ 512)
inside c = let k = c in let p = k.requires.looking.1 in (omega (arith, k.in_ok-at.ensures.0, lent_count p.0 k.args.cpu p.1), row_most p.0 k.args.cpu p.1)

reach : (s i : ℕ) {n l : ℕ} → s + 512 ≤ l → i < n → n ≤ 512 → s + i < l
reach s i h less most = omega arith

-- its number is a task's
first_small : (a : Start) → get_or a.args.rows.now (a.args.cpu * 512 + 1) 0 < length a.args.prio.now
first_small a =
    let p = a.requires.looking.1 in
    omega (arith, stored_small p.0 a.args.cpu p.1 1 (omega (arith, p.2)), (searchable p.0 a.args.cpu p.1 (omega (arith, p.2))).prios)

pub returns-then-prio-first : goal.returns-then-prio-first
returns-then-prio-first c =
    λ m l told h.
    let a = c.args in
    first_low l (meant m a.test) a.cpu h c.requires.looking.1.2 a.floor c.if-prio-first.true

pub scan-requires : goal.scan-requires
scan-requires c =
    let a = c.args in
    let p = c.requires.looking.1 in record {
      asked = c.requires.asked;
      searchable = searchable p.0 a.cpu p.1 (omega (arith, p.2));
    }

pub returns-in_err-at : goal.returns-in_err-at
returns-in_err-at c =
    λ m l told h.
    let a = c.args in
    subst (HigherIn (meant m a.test) m a.cpu a.floor) (sym c.from_residual.ensures) (none_higher l a.test _ told a.cpu h a.floor c.in_err-at.ensures)

pub returns : goal.returns
returns c =
    λ m l told h.
    let a = c.args in
    one_higher l a.test _ told a.cpu h a.floor c.in_ok-at.at (inside (goal.at.returns c).In_ok-at).0 c.in_ok-at.ensures.1 _ refl refl refl

pub bounds-rows-start : goal.bounds-rows-start
bounds-rows-start c = let f = fits (goal.at.bounds-rows-start c).Start in omega arith

pub bounds-prio-first : goal.bounds-prio-first
bounds-prio-first c = first_small (goal.at.bounds-prio-first c).Start

pub slice_bounds-scan-end : goal.slice_bounds-scan-end
slice_bounds-scan-end c =
    let p = c.requires.looking.1 in
    omega (arith, fits (goal.at.slice_bounds-scan-end c).Start, row_most p.0 c.args.cpu p.1)

pub bounds-rows-start-2 : goal.bounds-rows-start-2
bounds-rows-start-2 c =
    let w = inside (goal.at.bounds-rows-start-2 c).In_ok-at in
    reach (c.args.cpu * 512) c.in_ok-at.at (fits (goal.at.bounds-rows-start-2 c).Start) w.0 w.1

pub bounds-prio-task : goal.bounds-prio-task
bounds-prio-task c =
    let a = c.args in
    let p = c.requires.looking.1 in
    let small = stored_small p.0 a.cpu p.1 c.in_ok-at.at (inside (goal.at.bounds-prio-task c).In_ok-at).0 in
    omega (arith, small, (searchable p.0 a.cpu p.1 (omega (arith, p.2))).prios)
