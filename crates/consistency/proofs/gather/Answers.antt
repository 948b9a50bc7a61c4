-- `consistency::gather` meets its contract. The loop's invariant: the pass has come to `cpu`.
-- Assumes nothing.
use Rattle.std.proofs.Common.{◌≡◌, ℕ, ◌+◌, ◌-◌, ◌%◌, Bool, true, List, refl, sym, ap, ◌∙◌, subst, zero-le, arith}
use Rattle.consistency.specs.Gathered.{cpu_bit, Gathers}
use Rattle.consistency.proofs.CpuBits.{bit_eighth}
use Rattle.consistency.proofs.Taken.{gathers_on}
use Rattle.consistency.proofs.gather.Goals.{else-loop-cpu-test, then-loop-cpu-test+else-not-block+else-rest-cpu-gt8, Left-loop-cpu}
use Rattle.consistency.proofs.gather.Goals as goal

pub loop-cpu-preserved : goal.loop-cpu-preserved
loop-cpu-preserved c =
    let l = c.loop-cpu in
    let x = c.args in
    let t = c.block in
    let q = c.block.new in (
      omega (arith, l.invariant.0),
      omega (arith, l.invariant.0),
      bit_eighth l.cpu l.cpus l.invariant.2,
      gathers_on zero-le (omega arith) l.invariant.3
          (subst (λ (b : Bool). Gathers x.from.now l.cpu (l.cpu + 8) b l.left q.left q.counts q.words) c.if-not-block.false t.ensures),
    )

-- the same pass, to a place and with tables that are the same
came : {from : List ℕ} {j j' : ℕ} {left rest rest' counts counts' words words' : List ℕ} → j ≡ j' → rest ≡ rest' → counts ≡ counts' → words ≡ words'
    → Gathers from 0 j' true left rest' counts' words' → Gathers from 0 j true left rest counts words
came e r c w g = rw (e, r, c, w) g

-- when the loop is left, the pass has come to the rest
module _ (c : Left-loop-cpu) where
  abbrev rest : ℕ
  rest = c.args.end - c.args.end % 8

  passed : (c.loop-cpu-test.cpus ≡ cpu_bit rest)
      × Gathers c.args.from.now 0 rest true c.args.left.now c.loop-cpu-test.left c.loop-cpu-test.counts c.loop-cpu-test.words
  passed =
      let l = c.loop-cpu in
      elim c.loop-cpu-test.branch [
        | else-loop-cpu-test w ↦
            let all : rest ≡ l.cpu = omega (arith, l.invariant.1, w.loop-cpu-test.false) in
            (w.cpus-is ∙ l.invariant.2 ∙ ap cpu_bit (sym all), came all w.left-is w.counts-is w.words-is l.invariant.3)
        | then-loop-cpu-test+else-not-block+else-rest-cpu-gt8 w ↦
            let all : rest ≡ l.cpu + 8 = omega (arith, l.invariant.0) in
            let q = w.block.new in (
              w.cpus-is ∙ bit_eighth l.cpu l.cpus l.invariant.2 ∙ ap cpu_bit (sym all),
              came all w.left-is w.counts-is w.words-is
                  (gathers_on zero-le (omega arith) l.invariant.3
                  (subst (λ (b : Bool). Gathers c.args.from.now l.cpu (l.cpu + 8) b l.left q.left q.counts q.words) w.if-not-block.false w.block.ensures)),
            )
      ]

pub each-requires : goal.each-requires
each-requires c =
    let p = passed (goal.at.each-requires c).Left-loop-cpu in record {
      from_len = c.requires.from_len;
      start_le_end = (omega arith, c.requires.end_le_cpu_places, p.0);
      gathered = p.1.right refl;
    }

pub returns : goal.returns
returns c = gathers_on zero-le (omega arith) (passed (goal.at.returns c).Left-loop-cpu).1 c.each.ensures
