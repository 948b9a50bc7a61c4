-- `rowcheck::row::stands` meets its contract. Assumes nothing.
use mathlib.Core.Bool.{◌&&◌}
use lib.ListN.{get_or}
use native.Mathlib.Omega.{arith}
use borrow.Author.Tests.{leb-true, eqb-true, eq-eqb, le-leb}
use lib.Dec.{eqb, leb}
use Rattle.bits.proofs.Tests.{and_both}
use Rattle.laws.proofs.Bools.{both}
use Rattle.rowcheck.proofs.Saying.{say}
use Rattle.rowcheck.proofs.row.stands.Goals as goal

pub returns-then-task-ge-PLACES : goal.returns-then-task-ge-PLACES
returns-then-task-ge-PLACES c = λ s. let n = s.number in omega arith

pub returns : goal.returns
returns c =
    let a = c.args in
    let runs = eqb (get_or a.state.now a.task 0) 2 in
    let home = eqb (get_or a.cpu.now a.task 0) a.c in
    let falls = leb (get_or a.prio.now a.task 0) a.bound in
    say (runs && home && falls)
    (λ e.
    let l = both (runs && home) falls e in
    let k = both runs home l.0 in
    record {
      number = omega arith;
      runs = eqb-true _ _ k.0;
      home = eqb-true _ _ k.1;
      falls = leb-true _ _ l.1;
    })
    (λ s. and_both _ _ (and_both _ _ (eq-eqb _ _ s.runs) (eq-eqb _ _ s.home)) (le-leb _ _ s.falls))
