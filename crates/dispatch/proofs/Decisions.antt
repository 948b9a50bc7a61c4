-- What a right decision says, of what is accepted.
-- Assumes nothing.
use mathlib.Core.Path.{◌≡◌, sym}
use Rattle.std.specs.Prelude.{Ok}
use Rattle.rules.specs.Machine.{Machine}
use Rattle.rules.specs.Events.{Event, effect}
use Rattle.rules.specs.Refusals.{refusal}
use Rattle.plans.specs.Decided.{did}
use Rattle.deciding.specs.Subject.{Decides}
use Rattle.plans.specs.declared.plan.Decision.{Decision}
use Rattle.plans.specs.declared.plan.Decision.TheVariants.{Nothing, Place, Flag, Offline, Online}
use Rattle.carrying.specs.Holds.{Ready}
use Rattle.hinting.specs.Past.{Able}

module _ (m : Machine) (e : Event) where
  pub ready : (d : Decision) → Decides m e (Ok d) → Ready m d
  unfolding Decides
  ready Nothing h = tt
  ready (Place p) h = h.1.doable
  ready (Flag c b) h = (h.1.1, h.1.2)
  ready (Offline c) h = h.1.1
  ready (Online c) h = h.1.1

  pub able : (d : Decision) → Decides m e (Ok d) → Able m d
  unfolding Decides
  able Nothing h = tt
  able (Place p) h = h.1.doable
  able (Flag c b) h = tt
  able (Offline c) h = h.1.1
  able (Online c) h = h.1.1

  pub taken : (d : Decision) → Decides m e (Ok d) → (refusal m e ≡ 0) × (did d m ≡ effect e m)
  unfolding Decides
  taken Nothing h = (sym h.0, sym h.1)
  taken (Place p) h = (sym h.0, sym h.1.effect)
  taken (Flag c b) h = (sym h.0, sym h.1.0)
  taken (Offline c) h = (sym h.0, sym h.1.0)
  taken (Online c) h = (sym h.0, sym h.1.0)
