-- Kinds by their numbers, and an event that is decided first and then carried out.
-- Assumes nothing.
use mathlib.Core.Path.{◌≡◌, sym, ap, ◌∙◌, subst, subst₂}
use mathlib.Core.Bool.{Bool, cond}
use mathlib.Core.List.{List}
use Prim.Native.Nat.{ℕ}
use borrow.Author.Tests.{eq-eqb}
use Rattle.std.specs.Prelude.{Result, Ok}
use Rattle.cpupri.specs.Record.{record_of}
use Rattle.levels.specs.declared.record.Record.{Record}
use Rattle.rules.specs.Machine.{Machine}
use Rattle.rules.specs.Events.{Event, event, effect}
use Rattle.rules.specs.Refusals.{refusal}
use Rattle.rules.specs.WellFormed.{WellFormed}
use Rattle.rules.specs.declared.answer.Refusal.{Refusal}
use Rattle.laws.proofs.Effects.{keep_effect}
use Rattle.laws.proofs.Entry.{start_fixed}
use Rattle.plans.specs.Decided.{did}
use Rattle.plans.specs.declared.plan.Decision.{Decision}
use Rattle.stranding.specs.Stranding.{strands_by, LentMasks}
use Rattle.deciding.specs.Subject.{Lent, Decides}
use Rattle.carrying.specs.Holds.{Holds, Carriable}
use Rattle.hinting.specs.Hinted.{Among}
use Rattle.hinting.specs.Past.{Reading, Standing, past_by, candidates_since}
use Rattle.hinting.specs.declared.hint.Candidates.{Candidates}
use Rattle.hinting.proofs.Events.{event_among, past_stands}
use Rattle.effect.specs.Effected.{Lends, Effected}
use Rattle.dispatch.proofs.Decisions.{ready, able, taken}

-- ---- kinds by their numbers, and the online mask that is not lent

module _ {m : Machine} {ss ps qs cs ls ks flat ns fs : List ℕ} {on : ℕ} {r : Record} where
  pub by_number : {kind j who a b k : ℕ} {o : Result Candidates Refusal} → kind ≡ j → Effected m (event j who a b k) o ss ps qs cs ls ks flat ns fs on r
      → Effected m (event kind who a b k) o ss ps qs cs ls ks flat ns fs on r
  by_number {kind} {j} {who} {a} {b} {k} {o} is h = subst (λ (x : ℕ). Effected m (event x who a b k) o ss ps qs cs ls ks flat ns fs on r) (sym is) h

  pub own_online : Lends m ss ps qs cs ls ks flat ns fs on r → Lends m ss ps qs cs ls ks flat ns fs m.online r
  own_online l = record { formed = l.formed; holds = subst (λ (x : ℕ). Holds m ss ps qs cs ls ks flat ns fs x r) l.holds.online l.holds }

  pub given_online : {e : Event} {o : Result Candidates Refusal} → on ≡ m.online → Effected m e o ss ps qs cs ls ks flat ns fs m.online r → Effected m e o ss ps qs cs ls ks flat ns fs on r
  given_online {e} {o} is h = subst (λ (x : ℕ). Effected m e o ss ps qs cs ls ks flat ns fs x r) (sym is) h

-- ---- decided first, and then carried out

module _ {m : Machine} {ss ps qs cs ls ks flat ns fs : List ℕ} {on : ℕ} {r : Record} (l : Lends m ss ps qs cs ls ks flat ns fs on r) where
  pub lent_masks : {n : ℕ} → n ≡ m.n → LentMasks m n on ks flat ns
  lent_masks is =
      record { formed = l.formed; cpus = is; online = l.holds.online; mask = l.holds.mask; rows = l.holds.rows; counts = l.holds.counts }

  pub lent_columns : {n full : ℕ} (kind who : ℕ) {b : Bool} → n ≡ m.n → full ≡ m.full → b ≡ strands_by m kind who → Lent m n on full ss ps qs cs ls ks b kind who
  lent_columns kind who is f st =
      record {
        formed = l.formed;
        cpus = is;
        online = l.holds.online;
        ticks = f;
        state = l.holds.state;
        policy = l.holds.policy;
        prio = l.holds.prio;
        cpu = l.holds.cpu;
        slice = l.holds.slice;
        mask = l.holds.mask;
        stranding = st;
      }

  pub reading : Reading m cs flat r.levels
  unfolding record_of
  reading = record { well = l.formed; cpu = l.holds.cpu; rows = l.holds.rows; levels = ap (λ (q : Record). q.levels) l.holds.levels }

  module _ (e : Event) (d : Decision) (right : Decides m e (Ok d)) where
    pub carriable : Carriable m ss ps qs cs ls ks flat ns fs on r d
    carriable = record { formed = l.formed; holds = l.holds; ready = ready m e d right }

    ok : (refusal m e ≡ 0) × (did d m ≡ effect e m)
    ok = taken m e d right

    well : WellFormed (did d m)
    well = subst WellFormed (sym ok.1) (keep_effect m e l.formed ok.0)

    kept_cpus : (did d m).n ≡ m.n
    kept_cpus = ap (λ (x : Machine). x.n) ok.1 ∙ ap (λ (f : ℕ × ℕ). f.0) (start_fixed m e ok.0)

    pub stands : Standing (did d m) (past_by m d)
    stands = past_stands m (did d m) d l.formed kept_cpus (able m e d right)

    module _ {ss' ps' qs' cs' ls' ks' flat' ns' fs' : List ℕ} {on' : ℕ} {r' : Record} (done : Holds (did d m) ss' ps' qs' cs' ls' ks' flat' ns' fs' on' r') where
      pub reading_after : Reading (did d m) cs' flat' r'.levels
      unfolding record_of
      reading_after = record { well = well; cpu = done.cpu; rows = done.rows; levels = ap (λ (q : Record). q.levels) done.levels }

      pub carried_is : {few : Candidates} → few ≡ candidates_since (past_by m d) (did d m) → Effected m e (Ok few) ss' ps' qs' cs' ls' ks' flat' ns' fs' on' r'
      carried_is {few} is =
          record {
            answer = sym ok.0;
            holds = subst (λ (b : Bool). Holds (cond b (effect e m) m) ss' ps' qs' cs' ls' ks' flat' ns' fs' on' r') (sym (eq-eqb (refusal m e) 0 ok.0))
                (subst (λ (x : Machine). Holds x ss' ps' qs' cs' ls' ks' flat' ns' fs' on' r') ok.1 done);
            few = λ still.
                subst₂ Among ok.1 (sym is) (event_among m l.formed still d (able m e d right) well);
          }
