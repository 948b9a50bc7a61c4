-- The run that a fresh machine begins, and what is played from there.
-- Assumes nothing.
use mathlib.Core.Path.{◌≡◌, ap, ◌∙◌}
use mathlib.Core.Bool.{true}
use mathlib.Core.List.{List}
use Prim.Native.Nat.{ℕ}
use lib.ListN.{replicate}
use Rattle.levels.specs.declared.record.Record.{Record}
use Rattle.rules.specs.Machine.{cpu_places}
use Rattle.std.specs.Prelude.{Result as Answer}
use Rattle.std.specs.Result.{is_ok}
use Rattle.rules.specs.Answers.{answer_of}
use Rattle.rules.specs.declared.answer.Refusal.{Refusal}
use Rattle.rules.proofs.Answers.{accepted}
use Rattle.rules.specs.Tables.{Tables, lengths_fit}
use Rattle.laws.proofs.Entry.{made_fresh}
use Rattle.recording.specs.declared.Event.{Event}
use Rattle.rules.specs.Entry.{Result, kept, made}
use Rattle.recording.specs.Replay.{Run, run, runs, first_stamp, begun}
use Rattle.playing.proofs.Fresh.{from_first}

-- tables of the right lengths are not refused
pub fresh_fits : (n : ℕ) (r q : Record) (s t : Tables) → lengths_fit n s ≡ true → (o : Answer ℕ Refusal) → kept (answer_of o) q t ≡ made n r s
    → is_ok o ≡ true
fresh_fits n r q s t h o e = ap is_ok (accepted o (ap (λ (x : Result). x.answer) (e ∙ made_fresh n r s h))).1

pub begins : (n a : ℕ) (r q : Record) (s t : Tables) (ts : List ℕ) → kept a q t ≡ made n r s → ts ≡ replicate cpu_places 0
    → run q t ts 0 0 0 ≡ begun (made n r s) 0
begins n a r q s t ts e z = ap (λ (us : List ℕ). run q t us 0 0 0) z ∙ ap (λ (o : Result). begun o 0) e

-- what is played from there is what is played from the first event's stamp on
pub replays_from : (n : ℕ) (r : Record) (s : Tables) → lengths_fit n s ≡ true → (es : List Event) (u v : Run) → v ≡ runs n es u
    → u ≡ begun (made n r s) 0 → v ≡ runs n es (begun (made n r s) (first_stamp es))
replays_from n r s h es u v e b = e ∙ ap (runs n es) b ∙ from_first n r s h es
