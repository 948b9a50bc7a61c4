-- `migration::settle::next_step` meets its contract.
-- Assumes nothing.
use mathlib.Core.Path.{ap, ◌∙◌, subst}
use Rattle.std.specs.Prelude as code
use Rattle.mover.specs.declared.pick.Mover.{Mover}
use Rattle.choosing.specs.Choosing.{Leads, as_move}
use Rattle.choosing.proofs.Steps.{task_of_best, prio_size, cpu_size, mask_size, words_mark, leads_best}
use Rattle.migration.proofs.settle.next_step.Goals as goal

pub pick-requires : goal.pick-requires
pick-requires c = let p = c.requires in record {
  asked = tt;
  looking = (p.0, (p.1.0.looking, p.1.0.cpus));
}

pub step_of-requires : goal.step_of-requires
step_of-requires c =
    let p = c.requires in
    let x = c.args in
    let l = subst (λ (b : code.Option Mover). Leads p.0 x.masks.now x.prio.now x.cpu.now x.mask.now (task_of_best b)) c.in_ok-mover.was
    (leads_best p.1.0 c.pick.result (c.pick.ensures p.0 p.1.0.looking p.1.1 p.1.0.cpus)) in record {
      prio_len = prio_size p.1.0;
      cpu_len = cpu_size p.1.0;
      mask_len = mask_size p.1.0;
      task = l.stored;
      marked = words_mark p.1.0;
    }

pub returns-in_err-mover : goal.returns-in_err-mover
returns-in_err-mover c = λ m l told.
    let x = c.args in
    ap as_move c.from_residual.ensures
    ∙ (subst (λ (b : code.Option Mover). Leads m x.masks.now x.prio.now x.cpu.now x.mask.now (task_of_best b)) c.in_err-mover.was
    (leads_best l c.pick.result (c.pick.ensures m l.looking told l.cpus))).step

pub returns : goal.returns
returns c = λ m l told.
    let x = c.args in
    c.step_of.ensures
    ∙ (subst (λ (b : code.Option Mover). Leads m x.masks.now x.prio.now x.cpu.now x.mask.now (task_of_best b)) c.in_ok-mover.was
    (leads_best l c.pick.result (c.pick.ensures m l.looking told l.cpus))).step
