-- `mover::pick::pick_from` meets its contract. The loop's invariant: the best of the rows passed with the priority that is to be beaten, and a task waits on
-- the CPU at hand. Assumes nothing.
use mathlib.Core.Path.{◌≡◌, sym, ap, ◌∙◌, subst}
use Prim.Native.Nat.{ℕ, suc, ◌+◌, ◌≤◌, ◌<◌}
use native.Mathlib.Numerals.{add-one}
use native.Mathlib.Omega.{arith}
use lib.ListN.{length, get_or}
use Rattle.std.specs.Prelude.{Option, Some, None, IfSome}
use Rattle.mover.specs.Foremost.{Looking, BestOf, HigherIn}
use Rattle.rules.specs.Machine.{Machine}
use Rattle.waiting.specs.Wanted.{meant, least, Told}
use Rattle.waiting.proofs.Waiting.{until, found}
use Rattle.mover.proofs.Candidates.{floor_of, looking_cpus, no_best, skip_best, keep_best, beat_best}
use Rattle.mover.proofs.pick.pick_from.Goals.{Start, In-Some, in-Some-higher, in_default-higher}
use Rattle.mover.proofs.pick.pick_from.Goals as goal

-- a task waits on the CPU at hand
module _ (c : In-Some) where
  at_hand : let k = c in (k.in-Some.cpu < k.args.n) × (2 ≤ get_or k.args.counts.now k.in-Some.cpu 0)
  at_hand =
      let k = c in
      subst (λ (o : Option ℕ). IfSome o (λ d. (d < k.args.n) × (2 ≤ get_or k.args.counts.now d 0))) k.in-Some.is k.loop-next.invariant.0

-- there is a count for each CPU
counted : (a : Start) → a.args.n ≡ length a.args.counts.now
counted a = a.requires.looking.1.1 ∙ sym (looking_cpus a.requires.looking.1.0)

pub loop-next-init : goal.loop-next-init
loop-next-init c =
    let first = c.requires.first in (
      found _ 0 c.args.n (Some c.args.first) first,
      c.least-floor.ensures,
      λ m k told e. skip_best k (meant m c.args.test) None 0 c.args.n (Some c.args.first) e (omega arith) first (no_best k (meant m c.args.test)),
    )

pub higher-requires : goal.higher-requires
higher-requires c =
    let a = (goal.at.higher-requires c).Start in record {
      asked = a.requires.asked;
      looking = (a.requires.looking.0, (a.requires.looking.1.0, omega (arith, a.requires.looking.1.1, (at_hand (goal.at.higher-requires c).In-Some).0), (at_hand (goal.at.higher-requires c).In-Some).1));
    }

pub next_waiting-next-requires : goal.next_waiting-next-requires
next_waiting-next-requires c =
    let e = counted (goal.at.next_waiting-next-requires c).Start in
    let h = at_hand (goal.at.next_waiting-next-requires c).In-Some in
    (omega (arith, h.0), omega arith)

pub loop-next-preserved : goal.loop-next-preserved
loop-next-preserved c =
    let x = c.args in
    let l = c.loop-next in
    let cpu = c.in-Some.cpu in
    let next = c.next_waiting-next in
    let hand = at_hand (goal.at.loop-next-preserved c).In-Some in
    let below : (n : ℕ) → x.n ≡ n → cpu < n = λ n e. omega (arith, hand.0) in
    let passed : (m : Machine) → Looking m x.prio.now x.mask.now x.counts.now x.rows.now → Told m x.test x.under.now → x.n ≡ m.n → BestOf (meant m x.test) m cpu l.best =
    λ m k told e. subst (λ (o : Option ℕ). BestOf (meant m x.test) m (until x.n o) l.best) c.in-Some.is (l.invariant.2 m k told e) in
    let now : (c.match-higher.floor ≡ floor_of (least x.test) c.match-higher.best)
    × ((m : Machine) → Looking m x.prio.now x.mask.now x.counts.now x.rows.now → Told m x.test x.under.now → x.n ≡ m.n
    → BestOf (meant m x.test) m (suc cpu) c.match-higher.best) =
    elim c.match-higher.branch [
      | in-Some-higher w ↦ (
        w.floor-is ∙ sym (ap (floor_of (least x.test)) w.best-is),
        λ m k told e.
            subst (BestOf (meant m x.test) m (suc cpu)) (sym w.best-is)
            (beat_best k x.test _ told cpu (below m.n e) l.best l.floor l.invariant.1 (passed m k told e) w.in-Some-higher.higher
            (subst (HigherIn (meant m x.test) m cpu l.floor) w.in-Some-higher.is (c.higher.ensures m k told (below m.n e)))),
      )
      | in_default-higher w ↦ (
        w.floor-is ∙ l.invariant.1 ∙ sym (ap (floor_of (least x.test)) w.best-is),
        λ m k told e.
            subst (BestOf (meant m x.test) m (suc cpu)) (sym w.best-is)
            (keep_best k x.test _ told cpu (below m.n e) l.best l.floor l.invariant.1 (passed m k told e)
            (subst (HigherIn (meant m x.test) m cpu l.floor) w.in_default-higher.is (c.higher.ensures m k told (below m.n e)))),
      )
    ] in (
      found _ (cpu + 1) x.n next.result next.ensures,
      now.0,
      λ m k told e.
          skip_best k (meant m x.test) c.match-higher.best (cpu + 1) x.n next.result e (omega (arith, hand.0)) next.ensures
          (subst (λ (i : ℕ). BestOf (meant m x.test) m i c.match-higher.best) (sym (add-one cpu)) (now.1 m k told e)),
    )
