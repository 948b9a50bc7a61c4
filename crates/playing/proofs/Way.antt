-- Every machine on the way of a replay is well-formed and settled, demand 3 holds after every accepted event, and the moves are at most N - 1 for each.
-- Assumes nothing.
use Rattle.std.proofs.Common.{◌≡◌, ℕ, zero, suc, ◌+◌, ◌-◌, ◌*◌, ◌<◌, ◌≤◌, Bool, true, false, not, eqb, List, [], ◌∷◌, length, get_or, take, sym, refl, ap, ◌∙◌, subst, le_of_suc-le-suc, not-suc-le-zero, add-mul, arith}
use Rattle.bits.specs.Bit.{digit}
use Rattle.rules.specs.Entry.{Result, checked, event_answer}
use Rattle.laws.specs.Still.{Still}
use Rattle.laws.proofs.Entry.{handled_answer, handled_refused}
use Rattle.laws.proofs.LentDemand3.{handled_lent}
use Rattle.laws.proofs.Settled.{still_handled}
use Rattle.recording.specs.declared.Event.{Event}
use Rattle.recording.specs.Replay.{Run, asked, answered, next, runs}
use Rattle.playing.specs.Ready.{no_event}
use Rattle.playing.specs.Way.{After, accepted, Way}
use Rattle.playing.proofs.Readiness.{kept_good}

pub after_event : (n : ℕ) (e : Event) (u : Run) → checked n u.cpupri u.tables ≡ 0 → Still n u.tables → After n e u
after_event n e u good still =
    record {
      good = (kept_good n u.cpupri u.tables (asked e) good).0;
      still = still_handled n u.cpupri u.tables (asked e) still;
      demand = λ z. handled_lent n u.cpupri u.tables (asked e) (sym (handled_answer n u.cpupri u.tables (asked e)) ∙ z);
    }

-- an accepted event adds at most n - 1 moves, a refused one none
moves_of : (n : ℕ) (e : Event) (u : Run) → checked n u.cpupri u.tables ≡ 0 → (answered n e u).moves ≤ digit (eqb (answered n e u).answer 0) * (n - 1)
moves_of n e u good = go (event_answer n u.cpupri u.tables (asked e)) refl
  where
    some : (n : ℕ) (b : Bool) (k : ℕ) → b ≡ true → k ≤ n - 1 → k ≤ digit b * (n - 1)
    some n b k e h = subst (λ (c : Bool). k ≤ digit c * (n - 1)) (sym e) (omega (arith, h))

    go : (a : ℕ) → event_answer n u.cpupri u.tables (asked e) ≡ a
        → (answered n e u).moves ≤ digit (eqb (answered n e u).answer 0) * (n - 1)
    go zero q =
        some n (eqb (answered n e u).answer 0) (answered n e u).moves
        (ap (λ (a : ℕ). eqb a 0) (handled_answer n u.cpupri u.tables (asked e) ∙ q)) (kept_good n u.cpupri u.tables (asked e) good).1
    go (suc a) q = subst (λ (o : Result). o.moves ≤ digit (eqb o.answer 0) * (n - 1)) (sym (handled_refused n u.cpupri u.tables (asked e) a q)) (omega arith)

one_of : (b : Bool) → digit (not b) + digit b ≡ 1
one_of true = refl
one_of false = refl

pub way : (n : ℕ) (es : List Event) (u : Run) → checked n u.cpupri u.tables ≡ 0 → Still n u.tables → Way n es u
unfolding runs accepted
way n [] u good still = record { each = λ k l. absurd (not-suc-le-zero l); counted = omega arith; few = omega arith }
way n (e ∷ es) u good still =
    let after : After n e u = after_event n e u good still in
    let rest : Way n es (next n e u) = way n es (next n e u) after.good after.still in
    let b : Bool = eqb (answered n e u).answer 0 in
    let one : digit (not b) + digit b ≡ 1 = one_of b in
    let more = rest.counted in
    let some : (answered n e u).moves ≤ digit b * (n - 1) = moves_of n e u good in
    let few = rest.few in
    let sum : (digit b + accepted n es (next n e u)) * (n - 1) ≡ digit b * (n - 1) + accepted n es (next n e u) * (n - 1) =
    add-mul (digit b) (accepted n es (next n e u)) (n - 1) in
    record {
      each = λ k l. each after rest k l;
      counted = omega (arith, one, more);
      few = omega (arith, some, few, sum);
    }
  where
    each : After n e u → Way n es (next n e u) → (k : ℕ) → k < suc (length es) → After n (get_or (e ∷ es) k no_event) (runs n (take k (e ∷ es)) u)
    each after rest zero l = after
    each after rest (suc k) l = rest.each k (le_of_suc-le-suc l)
