-- `carrying::carry_out` meets its contract.
-- Assumes nothing.
use mathlib.Core.Path.{ap}
use Rattle.plans.specs.declared.plan.Decision.{Decision}
use Rattle.plans.specs.Decided.{did}
use Rattle.carrying.proofs.Carrying.{placeable, flagging, flag_set, emptying, cpu_gone, coming, cpu_back, untouched, by_plan}
use Rattle.carrying.proofs.carry_out.Goals as goal

pub place-requires : goal.place-requires
place-requires c = (c.requires.0, placeable c.requires.1 c.in-Place.is)

pub set_flag-requires : goal.set_flag-requires
set_flag-requires c = (c.requires.0, flagging c.requires.1 c.in-Flag.is)

pub take_offline-requires : goal.take_offline-requires
take_offline-requires c =
    let l = c.requires.1 in
    (c.requires.0, (emptying l c.in-Offline.is, l.holds.online))

pub bring_online-requires : goal.bring_online-requires
bring_online-requires c = (c.requires.0, coming c.requires.1 c.in-Online.is)

pub returns-in-Place : goal.returns-in-Place
returns-in-Place c =
    λ m l.
    let is = c.in-Place.is in
    by_plan l is (c.place.ensures m (placeable l is))

pub returns-in-Flag : goal.returns-in-Flag
returns-in-Flag c =
    λ m l.
    let is = c.in-Flag.is in
    flag_set l is c.set_flag.ensures.flags_set (c.set_flag.ensures.record_follows m (flagging l is))

pub returns-in-Offline : goal.returns-in-Offline
returns-in-Offline c =
    λ m l.
    let is = c.in-Offline.is in
    cpu_gone l is (c.take_offline.ensures m (emptying l is) l.holds.online)

pub returns-in-Online : goal.returns-in-Online
returns-in-Online c =
    λ m l.
    let is = c.in-Online.is in
    cpu_back l is c.bring_online.ensures.online_set (c.bring_online.ensures.record_follows m (coming l is))

pub returns-in-Nothing : goal.returns-in-Nothing
returns-in-Nothing c = λ m l. untouched l (ap (λ (d : Decision). did d m) c.in-Nothing.is)
