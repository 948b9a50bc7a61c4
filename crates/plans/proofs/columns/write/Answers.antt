-- `plans::columns::write` meets its contract. Assumes nothing.
use mathlib.Core.Path.{refl}
use Rattle.plans.proofs.columns.write.Goals as goal

pub returns : goal.returns
returns c = record {
  state_value = refl;
  policy_value = refl;
  prio_value = refl;
  cpu_value = refl;
  slice_value = refl;
  mask_value = refl;
}
