-- `consistency::each` meets its contract. The loop's invariant: the pass has come to `cpu`.
-- Assumes nothing.
use Rattle.std.proofs.Common.{◌≡◌, ℕ, ◌+◌, ◌<◌, Bool, true, get_or, refl, ap, subst, arith}
use Rattle.consistency.specs.Gathered.{Gathers}
use Rattle.consistency.proofs.CpuBits.{bit_next, one_cpu}
use Rattle.consistency.proofs.Taken.{gathers_on}
use Rattle.consistency.proofs.each.Goals as goal

pub take-requires : goal.take-requires
take-requires c =
    let x = c.args in
    let l = c.loop-cpu in
    let below : l.cpu < 64 = omega (arith, c.requires.start_le_end.1, c.loop-cpu-test.true) in record {
      from_len = c.requires.from_len;
      le_more = (omega arith, omega (arith, below), one_cpu l.cpu l.cpus below l.invariant.0);
      alike = (λ i h. let first : l.cpu + i ≡ l.cpu = omega arith in ap (λ (j : ℕ). get_or x.from.now j 0) first);
      gathered = l.invariant.1.right refl;
    }

pub loop-cpu-preserved : goal.loop-cpu-preserved
loop-cpu-preserved c =
    let l = c.loop-cpu in
    let x = c.args in
    let t = c.take in
    let q = c.take.new in (
      bit_next l.cpu l.cpus l.invariant.0,
      gathers_on l.auto.cpu (omega arith) l.invariant.1
          (subst (λ (b : Bool). Gathers x.from.now l.cpu (l.cpu + 1) b l.left q.left q.counts q.words) c.if-not-take.false t.ensures),
    )

pub returns : goal.returns
returns c =
    let l = c.loop-cpu in
    let x = c.args in
    let end : l.cpu ≡ x.end = omega (arith, c.requires.start_le_end.0) in
    subst (λ (j : ℕ). Gathers x.from.now x.start j true x.left.now l.left l.counts l.words) end l.invariant.1
