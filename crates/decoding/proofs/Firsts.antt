-- The first record, by the tests that the code makes in its order.
-- Assumes nothing.
use mathlib.Core.Path.{◌≡◌, refl, sym, ap, subst, ◌∙◌}
use mathlib.Core.Bool.{Bool, true, false, cond}
use mathlib.Core.List.{List, [], ◌∷◌}
use Prim.Native.Nat.{ℕ, ◌-◌, ◌≤◌, ◌<◌}
use native.Mathlib.Omega.{arith}
use borrow.Author.Tests.{lt-ltb, le-ltb, ne_eqb}
use lib.Dec.{eqb, ltb}
use lib.ListN.{length, get_or, drop, length-drop, drop_of_length-le}
use lib.Seq.{drop-drop, drop-cons}
use Rattle.std.specs.Prelude.{Result, Ok, Err, IsErrAnd}
use Rattle.cpupri.specs.Found.{size_fits}
use Rattle.rules.specs.WellFormed.{slice_fits}
use Rattle.recording.specs.declared.Ending.{Ending}
use Rattle.recording.specs.declared.Ending.TheVariants.{Cut, Stopped}
use Rattle.recording.specs.declared.Opening.{Opening}
use Rattle.recording.specs.Layout.{number}
use Rattle.recording.specs.Reading.{First, opens, sized, unnamed, named, first_by, first_of}
use Rattle.decoding.specs.Sizes.{size_in, slice_in}
use Rattle.decoding.proofs.Numbers.{number_behind}

-- an error that `?` passes on
pub passed_on : (r : First) (x : Ending) → IsErrAnd r (λ e. e ≡ x) → r ≡ Err x
passed_on (Ok o) x h = absurd h
passed_on (Err e) x h = λ i. Err (h i)

-- ---- N

module _ (bs : List ℕ) where
  pub size_missing : length bs < 2 → size_in (drop 1 bs) ≡ Err Cut
  size_missing h = ap size_in (drop_of_length-le bs {i = 1} (omega (arith, h)))

  pub size_by : 2 ≤ length bs → (b : Bool) → b ≡ size_fits (get_or bs 1 0) → size_in (drop 1 bs) ≡ cond b (Ok (get_or bs 1 0)) (Err Stopped)
  size_by h b e =
      ap size_in (drop-cons bs 1 0 (omega (arith, h))) ∙ ap (λ (c : Bool). cond c (Ok (get_or bs 1 0)) (Err Stopped)) (sym e)

-- ---- the full slice

module _ (bs : List ℕ) where
  left : length (drop 2 bs) ≡ length bs - 2
  left = length-drop 2 bs

  abbrev tested : Bool → Result ℕ Ending
  tested b = cond b (Err Cut) (cond (slice_fits (number 0 2 (drop 2 bs))) (Ok (number 0 2 (drop 2 bs))) (Err Stopped))

  pub slice_missing : length bs < 4 → slice_in (drop 2 bs) ≡ Err Cut
  slice_missing h = ap tested (lt-ltb (length (drop 2 bs)) 2 (omega (arith, h, left)))

  pub slice_by : 4 ≤ length bs → (full : ℕ) → full ≡ number 2 2 bs → (b : Bool) → b ≡ slice_fits full
      → slice_in (drop 2 bs) ≡ cond b (Ok full) (Err Stopped)
  slice_by h full e b f =
      let at : full ≡ number 0 2 (drop 2 bs) = e ∙ number_behind 2 0 2 bs in
      ap tested (le-ltb (length (drop 2 bs)) 2 (omega (arith, h, left)))
      ∙ ap (λ (m : ℕ). cond (slice_fits m) (Ok m) (Err Stopped)) (sym at) ∙ ap (λ (c : Bool). cond c (Ok full) (Err Stopped)) (sym f)

-- ---- the two together

-- what a first record comes to, by one of its numbers
abbrev by_number : Result ℕ Ending → (ℕ → First) → First
by_number (Err x) rest = Err x
by_number (Ok n) rest = rest n

sized_is : (bs : List ℕ) (rest : ℕ → List ℕ → First) → sized bs rest ≡ by_number (size_in bs) (λ n. rest n (drop 1 bs))
sized_is [] rest = refl
sized_is (n ∷ bs) rest = go (size_fits n)
  where
    go : (b : Bool) → cond b (rest n bs) (Err Stopped) ≡ by_number (cond b (Ok n) (Err Stopped)) (λ m. rest m bs)
    go true = refl
    go false = refl

named_is : (n : ℕ) (bs : List ℕ) → named n bs ≡ by_number (slice_in bs) (λ full. opens n full 4)
named_is n bs = go (ltb (length bs) 2) (slice_fits (number 0 2 bs))
  where
    go : (a b : Bool) → cond a (Err Cut) (cond b (opens n (number 0 2 bs) 4) (Err Stopped))
        ≡ by_number (cond a (Err Cut) (cond b (Ok (number 0 2 bs)) (Err Stopped))) (λ full. opens n full 4)
    go true b = refl
    go false true = refl
    go false false = refl

-- behind the kind: N, and what is made of it
pub sized_by : (bs : List ℕ) (rest : ℕ → List ℕ → First) (s : Result ℕ Ending) → s ≡ size_in (drop 1 bs)
    → sized (drop 1 bs) rest ≡ by_number s (λ n. rest n (drop 1 (drop 1 bs)))
sized_by bs rest s e = sized_is (drop 1 bs) rest ∙ ap (λ (x : Result ℕ Ending). by_number x (λ n. rest n (drop 1 (drop 1 bs)))) (sym e)

pub named_by : (n : ℕ) (bs : List ℕ) (s : Result ℕ Ending) → s ≡ slice_in (drop 2 bs) → named n (drop 1 (drop 1 bs)) ≡ by_number s (λ full. opens n full 4)
named_by n bs s e =
    ap (named n) (drop-drop 1 1 bs) ∙ named_is n (drop 2 bs) ∙ ap (λ (x : Result ℕ Ending). by_number x (λ full. opens n full 4)) (sym e)

-- ---- the kind

pub first_missing : (bs : List ℕ) → length bs ≡ 0 → first_of bs ≡ Err Cut
unfolding first_of
first_missing [] h = refl
first_missing (b ∷ bs) h = absurd (omega (arith, h))

module _ (bs : List ℕ) (h : length bs ≡ 0 → ⊥) where
  by_kind_lem : first_of bs ≡ first_by (get_or bs 0 0) (drop 1 bs)
  unfolding first_of
  by_kind_lem = ap first_of (drop-cons bs 0 0 (omega (arith, h)))

  pub first_plain : get_or bs 0 0 ≡ 0 → first_of bs ≡ sized (drop 1 bs) unnamed
  first_plain e = by_kind_lem ∙ ap (λ (k : ℕ). first_by k (drop 1 bs)) e

  pub first_sliced : get_or bs 0 0 ≡ 12 → first_of bs ≡ sized (drop 1 bs) named
  first_sliced e = by_kind_lem ∙ ap (λ (k : ℕ). first_by k (drop 1 bs)) e

  pub first_bad : (get_or bs 0 0 ≡ 0 → ⊥) → (get_or bs 0 0 ≡ 12 → ⊥) → first_of bs ≡ Err Stopped
  first_bad p s =
      by_kind_lem ∙ (λ i. cond (ne_eqb (get_or bs 0 0) 0 p i) (sized (drop 1 bs) unnamed) (cond (ne_eqb (get_or bs 0 0) 12 s i) (sized (drop 1 bs) named) (Err Stopped)))

-- ---- a first record that opens a replay is good

abbrev Fit : First → Type 0
Fit (Err x) = Unit {0}
Fit (Ok o) = (size_fits o.n ≡ true) × (slice_fits o.full ≡ true)

fit_sized : (bs : List ℕ) (rest : ℕ → List ℕ → First) → ((n : ℕ) (xs : List ℕ) → size_fits n ≡ true → Fit (rest n xs)) → Fit (sized bs rest)
fit_sized [] rest h = tt
fit_sized (n ∷ xs) rest h = go (size_fits n) refl
  where
    go : (b : Bool) → size_fits n ≡ b → Fit (cond b (rest n xs) (Err Stopped))
    go true e = h n xs e
    go false e = tt

fit_named : (n : ℕ) (xs : List ℕ) → size_fits n ≡ true → Fit (named n xs)
fit_named n xs h = go (ltb (length xs) 2) (slice_fits (number 0 2 xs)) refl
  where
    go : (a b : Bool) → slice_fits (number 0 2 xs) ≡ b → Fit (cond a (Err Cut) (cond b (opens n (number 0 2 xs) 4) (Err Stopped)))
    go true b e = tt
    go false true e = (h, e)
    go false false e = tt

fit_first : (bs : List ℕ) → Fit (first_of bs)
unfolding first_of
fit_first [] = tt
fit_first (k ∷ bs) = go (eqb k 0) (eqb k 12)
  where
    go : (a b : Bool) → Fit (cond a (sized bs unnamed) (cond b (sized bs named) (Err Stopped)))
    go true b = fit_sized bs unnamed (λ n xs h. (h, refl))
    go false true = fit_sized bs named fit_named
    go false false = tt

pub opens_fit : (bs : List ℕ) (o : Opening) → first_of bs ≡ Ok o → (size_fits o.n ≡ true) × (slice_fits o.full ≡ true)
opens_fit bs o e = subst Fit e (fit_first bs)
