-- `evacuation::take_offline` meets its contract.
-- Assumes nothing.
use mathlib.Core.Path.{◌≡◌, refl, sym, subst}
use mathlib.Core.List.{List}
use Prim.Native.Nat.{ℕ}
use Rattle.cpupri.specs.Level.{known}
use Rattle.levels.specs.declared.record.Record.{Record}
use Rattle.rules.specs.Machine.{Machine}
use Rattle.evacuation.specs.Going.{Emptying}
use Rattle.evacuation.proofs.Leaves.{small, has_gone, emptied_whole}
use Rattle.evacuation.proofs.take_offline.Goals as goal

-- for the word that was worked out
by_word : {m : Machine} {qs cs ks flat ns fs : List ℕ} {r : Record} {c v w : ℕ} → v ≡ w → Emptying m qs cs ks flat ns fs r c w → Emptying m qs cs ks flat ns fs r c v
by_word {m} {qs} {cs} {ks} {flat} {ns} {fs} {r} {c} e l = subst (Emptying m qs cs ks flat ns fs r c) (sym e) l

pub clear_bit-stay-requires : goal.clear_bit-stay-requires
clear_bit-stay-requires c = small c.requires.1.0

pub evacuate-requires : goal.evacuate-requires
evacuate-requires c = (c.requires.0, by_word c.clear_bit-stay.ensures c.requires.1.0)

pub set_level-requires : goal.set_level-requires
unfolding known
set_level-requires c =
    let m = c.requires.0 in record {
      whole = emptied_whole (c.evacuate.ensures m (by_word c.clear_bit-stay.ensures c.requires.1.0));
      cpu_lt_cpu_places = small c.requires.1.0;
      number_value = refl;
    }

pub returns : goal.returns
returns c =
    λ m l on.
    let up = c.clear_bit-stay.ensures in
    let done = c.evacuate.ensures m (by_word up l) in
    has_gone up on done c.set_level.ensures
