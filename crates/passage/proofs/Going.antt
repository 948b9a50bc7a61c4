-- A batch more of a recording: what is left to read and to run, and what it will come to.
-- Assumes nothing.
use mathlib.Core.Path.{◌≡◌, refl, sym, ap, subst, ◌∙◌}
use mathlib.Core.List.{List, [], ◌∷◌, ◌++◌}
use Prim.Native.Nat.{ℕ, suc, ◌+◌, ◌-◌, ◌≤◌, ◌<◌}
use native.Mathlib.Omega.{arith}
use lib.ListN.{length, length-take}
use Rattle.std.specs.Prelude.{Some, None}
use Rattle.recording.specs.declared.Ending.{Ending}
use Rattle.recording.specs.declared.Event.{Event}
use Rattle.recording.specs.Reading.{Reading, ends, read_from}
use Rattle.recording.specs.Replay.{Run, next, runs}
use Rattle.recording.proofs.Batches.{runs_append}
use Rattle.playing.specs.Ready.{Ready}
use Rattle.playing.proofs.Readiness.{ready_next, ready_less}
use Rattle.decoding.specs.declared.batch.Batch.{Batch}
use Rattle.decoding.specs.Filled.{follows, ended, events_of, rest_of, Filled}

-- ---- room

pub ready_runs : (n left : ℕ) (es : List Event) (u : Run) → Ready n (length es + left) u → Ready n left (runs n es u)
unfolding runs
ready_runs n left [] u r = let e : 0 + left ≡ left = omega arith in subst (λ (k : ℕ). Ready n k u) e r
ready_runs n left (e ∷ es) u r =
    let one : suc (length es) + left ≡ suc (length es + left) = omega arith in
    ready_runs n left es (next n e u) (ready_next n (length es + left) e u (subst (λ (k : ℕ). Ready n k u) one r))

-- of a batch
pub ready_batch : (n room place : ℕ) (bs : List ℕ) (b : Batch) (u : Run) → Filled room place bs b → Ready n room u → Ready n (length (events_of b)) u
ready_batch n room place bs b u f r =
    let fit = f.fit in
    ready_less n (length (events_of b)) room u (omega (arith, fit, length-take b.count b.events)) r

-- ---- reading

follows_events : (es : List Event) (x : Reading) → (follows es x).events ≡ es ++ x.events
unfolding follows
follows_events [] x = refl
follows_events (e ∷ es) x = ap (λ (fs : List Event). e ∷ fs) (follows_events es x)

follows_ending : (es : List Event) (x : Reading) → (follows es x).ending ≡ x.ending
unfolding follows
follows_ending [] x = refl
follows_ending (e ∷ es) x = follows_ending es x

follows_place : (es : List Event) (x : Reading) → (follows es x).place ≡ x.place
unfolding follows
follows_place [] x = refl
follows_place (e ∷ es) x = follows_place es x

-- ---- the loop

-- x is what is to be read and u the run that it finds: what they come to is what x₀ and u₀ come to
pub record Same (n : ℕ) (x₀ : Reading) (u₀ : Run) (x : Reading) (u : Run) : Type 0 where
  pub events : runs n x.events u ≡ runs n x₀.events u₀
  pub ending : x.ending ≡ x₀.ending
  pub place : x.place ≡ x₀.place

pub record Going (n : ℕ) (bs : List ℕ) (x₀ : Reading) (u₀ : Run) (room place : ℕ) (u : Run) : Type 0 where
  pub ready : Ready n room u
  pub same : Same n x₀ u₀ (read_from room place bs) u

pub going_start : (n room place : ℕ) (bs : List ℕ) (u : Run) → Ready n room u → Going n bs (read_from room place bs) u room place u
going_start n room place bs u r = record { ready = r; same = record { events = refl; ending = refl; place = refl } }

module _ (n : ℕ) (bs : List ℕ) (x₀ : Reading) (u₀ : Run) (room place : ℕ) (u v : Run) (b : Batch) (g : Going n bs x₀ u₀ room place u) (f : Filled room place bs b)
    (e : v ≡ runs n (events_of b) u) where
  -- of what is read behind the batch
  after : Same n x₀ u₀ (rest_of room bs b) v
  after =
      let x : Reading = rest_of room bs b in
      let read : read_from room place bs ≡ follows (events_of b) x = f.reads in
      record {
        events = ap (runs n x.events) e ∙ sym (runs_append n (events_of b) x.events u)
            ∙ ap (λ (es : List Event). runs n es u) (sym (ap (λ (y : Reading). y.events) read ∙ follows_events (events_of b) x)) ∙ g.same.events;
        ending = sym (ap (λ (y : Reading). y.ending) read ∙ follows_ending (events_of b) x) ∙ g.same.ending;
        place = sym (ap (λ (y : Reading). y.place) read ∙ follows_place (events_of b) x) ∙ g.same.place;
      }

  pub going_on : b.ending ≡ None → Going n bs x₀ u₀ (room - b.count) b.place v
  going_on m =
      let most : length (events_of b) ≤ b.count = omega (arith, length-take b.count b.events) in
      let fit : b.count ≤ room = f.fit in
      let all : room ≡ length (events_of b) + (room - length (events_of b)) = omega (arith, most, fit) in
      let left : room - b.count ≤ room - length (events_of b) = omega (arith, most) in
      record {
        ready = subst (Ready n (room - b.count)) (sym e)
            (ready_less n (room - b.count) (room - length (events_of b)) (runs n (events_of b) u) left
            (ready_runs n (room - length (events_of b)) (events_of b) u (subst (λ (k : ℕ). Ready n k u) all g.ready)));
        same = subst (λ (x : Reading). Same n x₀ u₀ x v)
            (ap (ended b.place (read_from (room - b.count) b.place bs)) m) after;
      }

  pub going_nearer : b.ending ≡ None → room - b.count < room
  going_nearer m = let some : 0 < b.count = f.some m in let fit : b.count ≤ room = f.fit in omega (arith, some, fit)

  pub gone : (x : Ending) → b.ending ≡ Some x → Same n x₀ u₀ (ends x b.place) v
  gone x m = subst (λ (y : Reading). Same n x₀ u₀ y v) (ap (ended b.place (read_from (room - b.count) b.place bs)) m) after

-- nothing is left to run
pub all_run : (n : ℕ) (x₀ : Reading) (u₀ v : Run) (x : Reading) → x.events ≡ [] → Same n x₀ u₀ x v → v ≡ runs n x₀.events u₀
unfolding runs
all_run n x₀ u₀ v x none s = ap (λ (es : List Event). runs n es v) (sym none) ∙ s.events
