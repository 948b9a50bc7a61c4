-- From what the parts of `play` ensure to one event more.
-- Assumes nothing.
use Rattle.std.proofs.Common.{◌≡◌, refl, ℕ, ◌+◌, ◌^◌, ◌%◌, ◌<◌, ◌≤◌, Bool, not, eqb, List, length, get_or, ap, ◌∙◌, arith, ne_eqb}
use Rattle.std.specs.Prelude.{Result as Answer, Ok, Err}
use Rattle.bits.specs.Bit.{digit}
use Rattle.levels.specs.declared.record.Record.{Record}
use Rattle.rules.specs.Events.{event}
use Rattle.rules.specs.Tables.{Tables}
use Rattle.rules.specs.Answers.{answer_of}
use Rattle.rules.specs.declared.answer.Refusal.{Refusal}
use Rattle.rules.proofs.Answers.{answer_err}
use Rattle.rules.specs.Entry.{Result, result_of, handled}
use Rattle.recording.specs.declared.Course.{Course}
use Rattle.rules.specs.Entry.{checked}
use Rattle.laws.proofs.Entry.{checked_good}
use Rattle.recording.specs.declared.Event.{Event}
use Rattle.recording.specs.Layout.{recorded}
use Rattle.recording.specs.Replay.{Run, run, asked, next, elapsed, accrued}
use Rattle.recording.proofs.Times.{elapsed_small}
use Rattle.handling.specs.Moves.{moves_of}
use Rattle.playing.specs.Ready.{Ready}
use Rattle.playing.proofs.Readiness.{few_places}

-- a wrapping difference is the time between two stamps
pub difference : (d l t : ℕ) → d < 2 ^ 32 → l < 2 ^ 32 → t < 2 ^ 32 → (d + l) % 2 ^ 32 ≡ t → d ≡ elapsed l t
difference d l t dd ll tt e = omega (arith, dd, ll, tt, e)

-- one event more, whatever the numbers of its answer and moves
pub played : (n kind who a b k stamp d ans m f : ℕ) (r q : Record) (s u : Tables) (ts vs : List ℕ) (t : Course)
    → d ≡ elapsed t.last stamp → vs ≡ accrued d s.counts ts → result_of ans m q u ≡ handled n r s (event kind who a b k) → f ≡ digit (not (eqb ans 0))
    → run q u vs (t.moves + m) (t.refused + f) stamp ≡ next n (recorded kind who a b k stamp) (run r s ts t.moves t.refused t.last)
played n kind who a b k stamp d ans m f r q s u ts vs t de ve he fe =
    let g : ℕ → Result → Run =
    λ x o. run o.cpupri o.tables (accrued x s.counts ts) (t.moves + o.moves) (t.refused + digit (not (eqb o.answer 0))) stamp in
    ap (λ (xs : List ℕ). run q u xs (t.moves + m) (t.refused + f) stamp) ve
    ∙ ap (λ (x : ℕ). run q u (accrued d s.counts ts) (t.moves + m) (t.refused + x) stamp) fe
    ∙ ap (g d) he ∙ ap (λ (x : ℕ). g x (handled n r s (event kind who a b k))) de

module _ (n : ℕ) (e : Event) (d : ℕ) (r q : Record) (s u : Tables) (ts vs : List ℕ) (t : Course) (o : Answer ℕ Refusal) (de : d ≡ elapsed t.last e.stamp)
    (ve : vs ≡ accrued d s.counts ts) (he : result_of (answer_of o) (moves_of o) q u ≡ handled n r s (asked e)) where
  counted : (k f : ℕ) → k ≡ t.moves + moves_of o → f ≡ t.refused + digit (not (eqb (answer_of o) 0))
      → run q u vs k f e.stamp ≡ next n e (run r s ts t.moves t.refused t.last)
  counted k f ke fe =
      (λ i. run q u vs (ke i) (fe i) e.stamp)
      ∙ played n e.kind e.who e.a e.b e.mask e.stamp d (answer_of o) (moves_of o) (digit (not (eqb (answer_of o) 0))) r q s u ts vs t de ve he refl

  -- accepted: the moves are counted
  pub played_ok : (m : ℕ) → o ≡ Ok m → run q u vs (t.moves + m) t.refused e.stamp ≡ next n e (run r s ts t.moves t.refused t.last)
  played_ok m is =
      let one : moves_of o ≡ m = ap moves_of is in
      let none : digit (not (eqb (answer_of o) 0)) ≡ 0 = ap (λ (x : Answer ℕ Refusal). digit (not (eqb (answer_of x) 0))) is in
      counted (t.moves + m) t.refused (omega (arith, one)) (omega (arith, none))

  -- refused: it is counted
  pub played_err : (x : Refusal) → o ≡ Err x → run q u vs t.moves (t.refused + 1) e.stamp ≡ next n e (run r s ts t.moves t.refused t.last)
  played_err x is =
      let none : moves_of o ≡ 0 = ap moves_of is in
      let one : digit (not (eqb (answer_of o) 0)) ≡ 1 = ap (λ (b : Bool). digit (not b)) (ne_eqb (answer_of o) 0 (answer_err is)) in
      counted t.moves (t.refused + 1) (omega (arith, none)) (omega (arith, one))

pub elapsed_less : {d : ℕ} (s t : ℕ) → d ≡ elapsed s t → d < 2 ^ 32
elapsed_less {d} s t e = omega (arith, e, elapsed_small s t)

pub ready_counts : (n : ℕ) (u : Run) → Ready n 1 u → length u.tables.counts ≤ 64
ready_counts n u r =
    let good = checked_good n u.cpupri u.tables r.good in
    let size : length u.tables.counts ≡ n = good.counts in
    let most : n ≤ 64 = good.machine.shape.cpus in
    omega (arith, size, most)

pub ready_times : (n : ℕ) (u : Run) → Ready n 1 u → (c : ℕ) → get_or u.times c 0 + 2 ^ 32 < 2 ^ 64
ready_times n u r c = let z = r.times c in omega (arith, z)

-- an event has fewer moves than there are CPU places
pub moves_few : (n : ℕ) (r q : Record) (s u : Tables) (e : Event) (o : Answer ℕ Refusal) → checked n r s ≡ 0
    → result_of (answer_of o) (moves_of o) q u ≡ handled n r s (asked e) → (m : ℕ) → o ≡ Ok m → m < 64
moves_few n r q s u e o h same m is =
    let few = few_places n r s (asked e) h in
    let same_moves : moves_of o ≡ (handled n r s (asked e)).moves = ap (λ (p : Result). p.moves) same in
    let one : moves_of o ≡ m = ap moves_of is in
    omega (arith, few, same_moves, one)
