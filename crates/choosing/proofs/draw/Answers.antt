-- `choosing::draw` meets its contract.
-- Assumes nothing.
use mathlib.Core.Path.{sym, subst}
use Rattle.std.specs.Prelude as code
use Rattle.choosing.specs.Choosing.{Leads}
use Rattle.mover.specs.declared.pick.Mover.{Mover}
use Rattle.choosing.proofs.Steps.{task_of_best, words_mark, new_stored, leads_drawn}
use Rattle.choosing.proofs.draw.Goals as goal

pub if_movable-movable-requires-clause-task : goal.if_movable-movable-requires-clause-task
if_movable-movable-requires-clause-task c = let p = c.requires.1 in new_stored p.0 _ c.args.new p.1

pub if_movable-movable-requires-clause-marked : goal.if_movable-movable-requires-clause-marked
if_movable-movable-requires-clause-marked c = words_mark c.requires.1.0

pub returns-in_err-mover : goal.returns-in_err-mover
returns-in_err-mover c =
    λ m l h.
    let x = c.args in
    subst (Leads m x.masks.now x.prio.now x.cpu.now x.mask.now) (sym c.from_residual.ensures)
    (subst (λ (b : code.Option Mover). Leads m x.masks.now x.prio.now x.cpu.now x.mask.now (task_of_best b)) c.in_err-mover.was
    (leads_drawn l x.fallen x.new h c.if_movable-movable.result c.if_movable-movable.ensures c.pick.result (c.pick.ensures m l.looking tt l.cpus)))

pub returns : goal.returns
returns c =
    λ m l h.
    let x = c.args in
    subst (λ (b : code.Option Mover). Leads m x.masks.now x.prio.now x.cpu.now x.mask.now (task_of_best b)) c.in_ok-mover.was
    (leads_drawn l x.fallen x.new h c.if_movable-movable.result c.if_movable-movable.ensures c.pick.result (c.pick.ensures m l.looking tt l.cpus))
