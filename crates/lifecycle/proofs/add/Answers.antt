-- `lifecycle::add` meets its contract.
-- Assumes nothing.
use mathlib.Core.Path.{◌≡◌, ap, ap₂, ◌∙◌}
use mathlib.Core.Bool.{not, true}
use mathlib.Core.Logic.{◌⊎◌, inl, inr}
use Prim.Native.Nat.{ℕ, ◌≤◌}
use native.Mathlib.Omega.{arith}
use borrow.Author.Tests.{le-leb, lt-leb, not-false}
use borrow.Author.Rules.{rules}
use Rattle.bits.specs.Bit.{lowest}
use Rattle.bits.proofs.Search.{first_le}
use Rattle.rules.specs.Machine.{free, asleep, task_places, cpu_places, fifo, rr}
use Rattle.rules.specs.Events.{event, added}
use Rattle.rules.specs.Plan.{rewrite}
use Rattle.laws.proofs.Checks.{mask_good}
use Rattle.plans.proofs.Answers.{fails_here, passes_here, none_left, tested, tested_mask}
use Rattle.plans.proofs.Plans.{replaced, is_in, not_in, state_other, rewritten}
use Rattle.laws.proofs.Online.{lowest_cpu}
use Rattle.lifecycle.proofs.add.Goals as goal

either : {a : ℕ} → (a ≡ fifo) ⊎ (a ≡ rr) → a ≤ rr
either (inl e) = omega arith
either (inr e) = omega arith

pub returns-then-who-ge-PLACES : goal.returns-then-who-ge-PLACES
returns-then-who-ge-PLACES c = λ m kind n f l. fails_here _ _ _ (le-leb task_places c.args.who c.if-who-ge-PLACES.true)

pub returns-then-named-ne-FREE : goal.returns-then-named-ne-FREE
returns-then-named-ne-FREE c =
    λ m kind n f l.
    passes_here _ _ _ 5 (lt-leb task_places c.args.who c.if-who-ge-PLACES.false) (fails_here _ _ _ (ap not (not_in l free c.if-named-ne-FREE.true)))

pub returns-then-not-known : goal.returns-then-not-known
returns-then-not-known c =
    λ m kind n f l. passes_here _ _ _ 6 (lt-leb task_places c.args.who c.if-who-ge-PLACES.false)
    (passes_here _ _ _ 6 (ap not (is_in l free c.if-named-ne-FREE.false)) (fails_here _ _ _ (tested c.is_policy-known.ensures (ap not c.if-not-known.true))))

pub returns-then-not-in_range : goal.returns-then-not-in_range
returns-then-not-in_range c =
    λ m kind n f l. passes_here _ _ _ 7 (lt-leb task_places c.args.who c.if-who-ge-PLACES.false)
    (passes_here _ _ _ 7 (ap not (is_in l free c.if-named-ne-FREE.false))
    (passes_here _ _ _ 7 (tested c.is_policy-known.ensures (ap not c.if-not-known.false)) (fails_here _ _ _ (tested c.is_priority-in_range.ensures (ap not c.if-not-in_range.true)))))

pub returns-then-not-fits : goal.returns-then-not-fits
returns-then-not-fits c =
    λ m kind n f l.
    let in_range : c.is_priority-in_range.result ≡ true = search rules in passes_here _ _ _ 8 (lt-leb task_places c.args.who c.if-who-ge-PLACES.false)
    (passes_here _ _ _ 8 (ap not (is_in l free c.if-named-ne-FREE.false))
    (passes_here _ _ _ 8 (tested c.is_policy-known.ensures (ap not c.if-not-known.false))
    (passes_here _ _ _ 8 (tested c.is_priority-in_range.ensures (ap not in_range))
    (fails_here _ _ _ (tested_mask c.args.k n c.mask_fits-fits.ensures (ap not c.if-not-fits.true))))))

pub returns : goal.returns
returns c =
    λ m kind n f l.
    let x = c.args in
    let fits = tested_mask x.k n c.mask_fits-fits.ensures (ap not c.if-not-fits.false) in
    let good = mask_good x.k m.n (not-false _ fits) in
    let cpu = c.lowest_bit-lowest.ensures ∙ lowest_cpu m.n x.k l.formed.shape.cpus good.0 good.1 in (
      passes_here _ _ _ 0 (lt-leb task_places x.who c.if-who-ge-PLACES.false)
          (passes_here _ _ _ 0 (ap not (is_in l free c.if-named-ne-FREE.false))
          (passes_here _ _ _ 0 (tested c.is_policy-known.ensures (ap not c.if-not-known.false))
          (passes_here _ _ _ 0 (tested c.is_priority-in_range.ensures (ap not c.if-not-in_range.false)) (passes_here _ _ _ 0 fits none_left)))),
      replaced
          (c.rewrite.ensures
          ∙ ap₂ (λ (d f : ℕ). rewrite x.who (record { state = asleep; policy = x.a; prio = x.b; cpu = d; slice = f; mask = x.k })) cpu f)
          (rewritten l c.if-who-ge-PLACES.false (added m (event kind x.who x.a x.b x.k)) (state_other l (λ z. omega arith))),
    )

pub overflow_cast-new-3 : goal.overflow_cast-new-3
unfolding lowest
overflow_cast-new-3 c =
    let l : lowest cpu_places c.args.k ≤ cpu_places = first_le _ cpu_places in
    omega (arith, c.lowest_bit-lowest.ensures)
