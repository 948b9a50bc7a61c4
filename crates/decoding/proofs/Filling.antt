-- One event more in a batch.
-- Assumes nothing.
use mathlib.Core.Path.{◌≡◌, refl, sym, ap, subst, ◌∙◌}
use mathlib.Core.List.{List, [], ◌∷◌, ◌++◌}
use Prim.Native.Nat.{ℕ, ◌+◌, ◌-◌, ◌≤◌, ◌<◌}
use native.Mathlib.Numerals.{add-one}
use native.Mathlib.Omega.{arith}
use lib.ListN.{length, set, take, length-set}
use lib.Seq.{take-suc, take-set-le, get_or-set_same}
use Rattle.std.specs.Prelude.{Ok, Err, Some, None}
use Rattle.recording.specs.declared.Event.{Event}
use Rattle.recording.specs.declared.Ending.{Ending}
use Rattle.recording.specs.declared.Held.{Held}
use Rattle.recording.specs.Layout.{recorded}
use Rattle.recording.specs.Reading.{Reading, before, item_at, read_from}
use Rattle.decoding.specs.Filled.{follows, batch_places, Filled}
use Rattle.decoding.proofs.Items.{read_ends, read_holds, holds_room}

pub follows_append : (es fs : List Event) (x : Reading) → follows (es ++ fs) x ≡ follows es (follows fs x)
unfolding follows
follows_append [] fs x = refl
follows_append (e ∷ es) fs x = ap (before e) (follows_append es fs x)

-- so many events are in the batch, and the rest is read from this place on
pub record Filling (room p : ℕ) (bs : List ℕ) (events : List Event) (count place : ℕ) : Type 0 where
  pub reads : read_from room p bs ≡ follows (take count events) (read_from (room - count) place bs)
  pub few : count ≤ batch_places
  pub fit : count ≤ room
  pub long : length events ≡ batch_places

pub filling_none : (room p : ℕ) (bs : List ℕ) (events : List Event) → length events ≡ batch_places → Filling room p bs events 0 p
unfolding follows
filling_none room p bs events h =
    let all : room ≡ room - 0 = omega arith in
    record { reads = ap (λ (k : ℕ). read_from k p bs) all; few = omega arith; fit = omega arith; long = h }

-- an event behind the others
take_more : (events : List Event) (count : ℕ) (e : Event) → count < length events → take (count + 1) (set events count e) ≡ take count events ++ e ∷ []
take_more events count e h =
    let none : Event = recorded 0 0 0 0 0 0 in
    let longer : count < length (set events count e) = omega (arith, h, length-set events count e) in
    ap (λ (k : ℕ). take k (set events count e)) (add-one count) ∙ take-suc (set events count e) count none longer
    ∙ (λ i. take-set-le count events count e (omega arith) i ++ get_or-set_same events count e none h i ∷ [])

pub filling_more : (room p : ℕ) (bs : List ℕ) (events : List Event) (count place : ℕ) (v : Held) → Filling room p bs events count place
    → count < batch_places → item_at (room - count) place bs ≡ Ok v → Filling room p bs (set events count v.event) (count + 1) v.end
unfolding follows
filling_more room p bs events count place v f l h =
    let e : Event = v.event in
    let q : ℕ = v.end in
    let more : 1 ≤ room - count = holds_room (room - count) place bs v h in
    let here : count < length events = omega (arith, l, f.long) in
    let less : room - count - 1 ≡ room - (count + 1) = omega arith in
    let rest : Reading = read_from (room - (count + 1)) q bs in
    record {
      reads = f.reads
          ∙ ap (follows (take count events)) (read_holds (room - count) place bs v h ∙ ap (λ (k : ℕ). before e (read_from k q bs)) less)
          ∙ sym (follows_append (take count events) (e ∷ []) rest) ∙ ap (λ (es : List Event). follows es rest) (sym (take_more events count e here));
      few = omega (arith, l);
      fit = let z = f.fit in omega (arith, more);
      long = length-set events count e ∙ f.long;
    }

-- the batch as it is handed back: where the recording ends, and where it is full
pub filled_ends : (room p : ℕ) (bs : List ℕ) (events : List Event) (count place : ℕ) (x : Ending) → Filling room p bs events count place
    → item_at (room - count) place bs ≡ Err x
    → Filled room p bs (record { events = events; count = count; place = place; ending = Some x })
filled_ends room p bs events count place x f h =
    record {
      reads = f.reads ∙ ap (follows (take count events)) (read_ends (room - count) place bs x h);
      few = f.few;
      fit = f.fit;
      some = λ e. cc;
    }

pub filled_full : (room p : ℕ) (bs : List ℕ) (events : List Event) (count place : ℕ) → Filling room p bs events count place → batch_places ≤ count
    → Filled room p bs (record { events = events; count = batch_places; place = place; ending = None })
filled_full room p bs events count place f h =
    let all : count ≡ batch_places = let z = f.few in omega (arith, z, h) in
    subst (λ (k : ℕ). Filled room p bs (record { events = events; count = k; place = place; ending = None })) all
    (record { reads = f.reads; few = f.few; fit = f.fit; some = λ e. omega (arith, h) })
