-- `mover::pick::who_above` meets its contract. The loop's invariant: at most one who waits in the rows passed is above the level, and a task waits on
-- the CPU at hand. Assumes nothing.
use mathlib.Core.Path.{◌≡◌, sym, ◌∙◌, subst}
use Prim.Native.Nat.{ℕ, ◌+◌, ◌≤◌, ◌<◌}
use native.Mathlib.Numerals.{add-one}
use native.Mathlib.Omega.{arith}
use lib.ListN.{length, get_or}
use Rattle.mover.specs.Foremost.{OnlyAbove}
use Rattle.mover.specs.declared.pick.Above.TheVariants.{Nobody}
use Rattle.std.specs.Prelude.{Option, IfSome}
use Rattle.waiting.proofs.Waiting.{until, found}
use Rattle.mover.proofs.Candidates.{looking_cpus, none_yet, skip_only}
use Rattle.mover.proofs.pick.who_above.Goals.{Start}
use Rattle.mover.proofs.pick.who_above.Goals as goal

-- there is a count for each CPU
counted : (a : Start) → a.args.n ≡ length a.args.counts.now
counted a = a.requires.1.1 ∙ sym (looking_cpus a.requires.1.0)

pub first_waiting-next-requires : goal.first_waiting-next-requires
first_waiting-next-requires c =
    let a = (goal.at.first_waiting-next-requires c).Start in
    let e = counted a in
    let k = a.requires.1 in
    (omega (arith, k.1, k.0.well.shape.some_cpu), omega arith)

pub loop-next-init : goal.loop-next-init
loop-next-init c =
    let next = c.first_waiting-next in (
      found _ 0 c.args.n next.result next.ensures,
      λ m k e. skip_only k c.args.level 0 c.args.n next.result Nobody e (omega arith) next.ensures (none_yet k c.args.level),
    )

pub loop-next-preserved : goal.loop-next-preserved
loop-next-preserved c =
    let x = c.args in
    let l = c.loop-next in
    let cpu = c.in-Some.cpu in
    let next = c.next_waiting-next in
    let above = c.who_above_with-found in
    let hand = subst (λ (o : Option ℕ). IfSome o (λ d. (d < x.n) × (2 ≤ get_or x.counts.now d 0))) c.in-Some.is l.invariant.0 in (
      found _ (cpu + 1) x.n next.result next.ensures,
      λ m k e.
          skip_only k x.level (cpu + 1) x.n next.result above.result e (omega (arith, hand.0)) next.ensures
          (subst (λ (i : ℕ). OnlyAbove m x.level i above.result) (sym (add-one cpu))
          (above.ensures m k (omega (arith, hand.0)) (subst (λ (o : Option ℕ). OnlyAbove m x.level (until x.n o) l.found) c.in-Some.is (l.invariant.1 m k e)))),
    )
