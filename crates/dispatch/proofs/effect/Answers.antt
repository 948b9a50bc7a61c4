-- `dispatch::effect` meets its contract: each arm by its kind's contract.
-- Assumes nothing.
use Rattle.dispatch.proofs.Dispatched.{by_number, own_online, given_online}
use Rattle.dispatch.proofs.effect.Goals as goal

pub wake-requires : goal.wake-requires
wake-requires c = (c.requires.0, c.requires.1.0)

pub sleep-requires : goal.sleep-requires
sleep-requires c = (c.requires.0, own_online c.requires.1.0)

pub set_priority-requires : goal.set_priority-requires
set_priority-requires c = (c.requires.0, own_online c.requires.1.0)

pub set_affinity-requires : goal.set_affinity-requires
set_affinity-requires c = (c.requires.0, (c.requires.1.0, c.requires.1.1))

pub tick-requires : goal.tick-requires
tick-requires c = (c.requires.0, c.requires.1)

pub yield_cpu-requires : goal.yield_cpu-requires
yield_cpu-requires c = (c.requires.0, (c.requires.1.0, c.requires.1.1))

-- none of 3 to 8
pub rest-requires : goal.rest-requires
rest-requires c =
    let r = c.in_default.in_default-own.rest in record {
      rare = record {
        wake = r.0.0.0.0.0.1;
        sleep = r.0.0.0.0.1;
        set_priority = r.0.0.0.1;
        set_affinity = r.0.0.1;
        tick = r.0.1;
        yield = r.1;
      };
      lent = c.requires;
    }

pub returns-in-3 : goal.returns-in-3
returns-in-3 c = λ m l n f. let x = c.args.event in by_number c.in-3.is (c.wake.ensures m x.a x.b x.mask l)

pub returns-in-4 : goal.returns-in-4
returns-in-4 c =
    λ m l n f.
    let x = c.args.event in
    by_number c.in-4.is (given_online l.holds.online (c.sleep.ensures m x.a x.b x.mask (own_online l)))

pub returns-in-5 : goal.returns-in-5
returns-in-5 c =
    λ m l n f.
    let x = c.args.event in
    by_number c.in-5.is (given_online l.holds.online (c.set_priority.ensures m x.a x.mask (own_online l)))

pub returns-in-6 : goal.returns-in-6
returns-in-6 c = λ m l n f. let x = c.args.event in by_number c.in-6.is (c.set_affinity.ensures m x.a x.b l n)

pub returns-in-7 : goal.returns-in-7
returns-in-7 c = λ m l n f. let x = c.args.event in by_number c.in-7.is (c.tick.ensures m x.a x.b x.mask l n f)

pub returns-in-8 : goal.returns-in-8
returns-in-8 c = λ m l n f. let x = c.args.event in by_number c.in-8.is (c.yield_cpu.ensures m x.a x.b x.mask l n)

pub returns-in_default : goal.returns-in_default
returns-in_default c = λ m l n f. c.rest.ensures m l n f
