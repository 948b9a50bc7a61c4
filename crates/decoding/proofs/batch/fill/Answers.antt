-- `decoding::batch::fill` meets its contract.
-- Assumes nothing.
use native.Mathlib.Omega.{arith}
use mathlib.Core.Path.{refl, sym}
use Rattle.decoding.proofs.Filling.{filling_none, filling_more, filled_ends}
use Rattle.decoding.proofs.batch.fill.Goals as goal

pub loop-count-init : goal.loop-count-init
loop-count-init c = let x = c.args in filling_none x.room x.from x.bytes.now _ refl

pub returns-in-Err : goal.returns-in-Err
returns-in-Err c =
    let x = c.args in
    let l = c.loop-count in
    filled_ends x.room x.from x.bytes.now l.events l.count l.place _ l.invariant (sym c.in-Err.ensures)

pub loop-count-preserved : goal.loop-count-preserved
loop-count-preserved c =
    let x = c.args in
    let l = c.loop-count in
    filling_more x.room x.from x.bytes.now l.events l.count l.place _ l.invariant (omega arith) (sym c.in-Ok.ensures)
