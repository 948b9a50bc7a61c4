-- `waiting::cpus::first_block` meets its contract. The loop's invariant: nobody waits on the CPUs of the blocks passed. Assumes nothing.
use mathlib.Core.Path.{◌≡◌, sym, subst}
use mathlib.Core.Bool.{false}
use Prim.Native.Nat.{ℕ, ◌+◌, ◌*◌}
use native.Mathlib.Omega.{arith}
use lib.Dec.{leb}
use lib.ListN.{get_or}
use borrow.Author.Tests.{leb-false}
use Rattle.std.proofs.Common.{rules}
use Rattle.waiting.specs.Waiting.{NobodyWaits}
use Rattle.waiting.proofs.Waiting.{nobody_further, nobody_in_block}
use Rattle.waiting.proofs.cpus.first_block.Goals as goal

pub loop-block-preserved : goal.loop-block-preserved
loop-block-preserved c =
    let ks = c.args.counts.now in
    let from : ℕ = c.loop-block.block * 16 in
    let next : from + 16 ≡ (c.loop-block.block + 1) * 16 = omega arith in
    subst (NobodyWaits ks 0) next
    (nobody_further ks 0 from _ c.loop-block.invariant (nobody_in_block ks from (λ i h.
    let said = c.any_in_block.ensures.none c.if-any_in_block.false i h in
    let few : false ≡ leb 2 (get_or ks (from + i) 0) = search rules in
    leb-false 2 _ (sym few))))
