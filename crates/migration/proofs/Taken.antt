-- Steps taken one after the other: they are the first of `settle`, there are fewer than N, and where none applies they are all.
-- Assumes nothing.
use mathlib.Core.Path.{◌≡◌, refl, sym, ap, ◌∙◌, subst, subst₂}
use mathlib.Core.List.{List, [], ◌∷◌, ◌++◌, append_assoc, append-nil}
use mathlib.Core.Option.{none, some}
use Prim.Native.Nat.{ℕ, suc, ◌+◌, ◌-◌, ◌<◌}
use native.Mathlib.Nat.{zero-add}
use native.Mathlib.Omega.{arith}
use lib.ListN.{length, length-append}
use Rattle.rules.specs.Machine.{Machine}
use Rattle.rules.specs.Migration.{Move, Settled, onward, next, migrate, settle, settle_all}
use Rattle.rules.specs.WellFormed.{WellFormed}
use Rattle.laws.proofs.Runs.{Run, out, step, run_well_formed, run_few, online_most}

-- from m the steps l have been taken, and lead to e
pub data Taken (m : Machine) : List Move → Machine → Type 0 where
  begin : Taken m [] m
  onto : {l : List Move} {e : Machine} {v : Move} → Taken m l e → next e ≡ some v → Taken m (l ++ (v ∷ [])) (migrate v e)

size_snoc : (l : List Move) (v : Move) → length (l ++ (v ∷ [])) ≡ length l + 1
size_snoc l v = length-append l (v ∷ [])

-- and go on
taken_run : {m : Machine} {l : List Move} {e : Machine} → Taken m l e → (k : ℕ) (r : List Move) (f : Machine) → Run k e r f → Run (length l + k) m (l ++ r) f
taken_run {m} begin k r f run = subst (λ (i : ℕ). Run i m r f) (sym (zero-add k)) run
taken_run {m} (onto {l = l} {v = v} t h) k r f run =
    subst₂ (λ (i : ℕ) (q : List Move). Run i m q f) (count l v k) (sym (append_assoc l (v ∷ []) r)) (taken_run t (suc k) (v ∷ r) f (step h run))
  where
    count : (l : List Move) (v : Move) (k : ℕ) → length l + suc k ≡ length (l ++ (v ∷ [])) + k
    count l v k = omega (arith, size_snoc l v)

module _ {m : Machine} {l : List Move} {e : Machine} (w : WellFormed m) (t : Taken m l e) where
  ended : Run (length l + 0) m (l ++ []) e
  ended = taken_run t 0 [] e out

  pub taken_well : WellFormed e
  taken_well = run_well_formed w ended

  -- there are fewer than N
  pub taken_few : length l < m.n
  taken_few = omega (arith, run_few w ended, online_most m, ap length (append-nil l))

pub taken_n : {m : Machine} {l : List Move} {e : Machine} → Taken m l e → e.n ≡ m.n
taken_n begin = refl
taken_n (onto t h) = taken_n t

pub taken_mask : {m : Machine} {l : List Move} {e : Machine} → Taken m l e → e.mask ≡ m.mask
taken_mask begin = refl
taken_mask (onto t h) = taken_mask t

-- ---- they are the first of `settle`

abbrev before : List Move → Settled → Settled
before l s = record { log = l ++ s.log; machine = s.machine }

settle_step : (k : ℕ) (e : Machine) (v : Move) → next e ≡ some v → settle (suc k) e ≡ before (v ∷ []) (settle k (migrate v e))
unfolding settle
settle_step k e v h = ap (onward e (λ u. settle k (migrate u e))) h

settle_stop : (k : ℕ) (e : Machine) → next e ≡ none → settle (suc k) e ≡ record { log = []; machine = e }
unfolding settle
settle_stop k e h = ap (onward e (λ u. settle k (migrate u e))) h

taken_settle : {m : Machine} {l : List Move} {e : Machine} → Taken m l e → (k : ℕ) → settle (length l + k) m ≡ before l (settle k e)
taken_settle {m} begin k = ap (λ (i : ℕ). settle i m) (zero-add k)
taken_settle {m} (onto {l = l} {e = e} {v = v} t h) k =
    ap (λ (i : ℕ). settle i m) (count l v k) ∙ taken_settle t (suc k) ∙ ap (before l) (settle_step k e v h)
    ∙ ap (λ (q : List Move). record { log = q; machine = (settle k (migrate v e)).machine }) (sym (append_assoc l (v ∷ []) (settle k (migrate v e)).log))
  where
    count : (l : List Move) (v : Move) (k : ℕ) → length (l ++ (v ∷ [])) + k ≡ length l + suc k
    count l v k = omega (arith, size_snoc l v)

-- where none applies they are all
pub taken_all : {m : Machine} {l : List Move} {e : Machine} → WellFormed m → Taken m l e → next e ≡ none → settle_all m ≡ record { log = l; machine = e }
taken_all {m} {l} {e} w t h =
    let few : length l < m.n = taken_few w t in
    let count : m.n ≡ length l + suc (m.n - suc (length l)) = omega arith in
    ap (λ (i : ℕ). settle i m) count ∙ taken_settle t (suc (m.n - suc (length l))) ∙ ap (before l) (settle_stop (m.n - suc (length l)) e h)
    ∙ ap (λ (q : List Move). record { log = q; machine = e }) (append-nil l)
