-- The entries over a record lent as four tables: those of the rules where the four have their lengths, else refused with 1.
-- Assumes nothing.
use mathlib.Core.Path.{◌≡◌, sym, ap, ◌∙◌}
use mathlib.Core.Bool.{Bool, true, false, cond}
use Prim.Native.Nat.{ℕ}
use native.Mathlib.Omega.{arith}
use Rattle.std.specs.Prelude.{Result}
use Rattle.refusal.specs.declared.Refusal.{Refusal}
use Rattle.cpupri.specs.Found as finder
use Rattle.cpupri.specs.declared.find.Found.{Found}
use Rattle.levels.specs.declared.record.Record.{Record}
use Rattle.rules.specs.Entry as entry
use Rattle.rules.specs.Entry.{result_of}
use Rattle.rules.specs.Events.{Event}
use Rattle.rules.specs.Refusals.{bad_size}
use Rattle.rules.specs.Tables.{Tables}
use Rattle.lentrecord.specs.Lent.{lent_fits}
use Rattle.lentrecord.specs.Entry.{lent_made, lent_checked, lent_handled, lent_found}

module _ {A : Type 0} {b : Bool} (x y : A) where
  at_true : b ≡ true → cond b x y ≡ x
  at_true h = ap (λ (t : Bool). cond t x y) h

  at_false : b ≡ false → cond b x y ≡ y
  at_false h = ap (λ (t : Bool). cond t x y) h

-- ---- one of the four has another length

pub made_unfit : (n : ℕ) (r : Record) (s : Tables) → lent_fits r ≡ false → result_of bad_size 0 r s ≡ lent_made n r s
unfolding lent_made
made_unfit n r s h = sym (at_false (entry.made n r s) (entry.kept bad_size r s) h)

pub checked_unfit : (n : ℕ) (r : Record) (s : Tables) → lent_fits r ≡ false → bad_size ≡ lent_checked n r s
unfolding lent_checked
checked_unfit n r s h = sym (at_false (entry.checked n r s) bad_size h)

pub handled_unfit : (n : ℕ) (r : Record) (s : Tables) (e : Event) → lent_fits r ≡ false → result_of bad_size 0 r s ≡ lent_handled n r s e
unfolding lent_handled
handled_unfit n r s e h = sym (at_false (entry.handled n r s e) (entry.kept bad_size r s) h)

pub found_unfit : (n : ℕ) (r : Record) (level mask : ℕ) → lent_fits r ≡ false → finder.without bad_size 0 ≡ lent_found n r level mask
unfolding lent_found
found_unfit n r level mask h = sym (at_false (finder.answer_of (finder.found n r level mask)) (finder.without bad_size 0) h)

-- ---- all four fit: r is what was lent, q what was read, t what came back, u what was written

pub made_fit : (n a : ℕ) (r q t u : Record) (s z : Tables) → lent_fits r ≡ true → q ≡ r → result_of a 0 t z ≡ entry.made n q s → u ≡ t → result_of a 0 u z ≡ lent_made n r s
unfolding lent_made
made_fit n a r q t u s z h read same written =
    ap (λ (x : Record). result_of a 0 x z) written ∙ same ∙ ap (λ (x : Record). entry.made n x s) read ∙ sym (at_true (entry.made n r s) (entry.kept bad_size r s) h)

pub checked_fit : (n a : ℕ) (r q : Record) (s : Tables) → lent_fits r ≡ true → q ≡ r → a ≡ entry.checked n q s → a ≡ lent_checked n r s
unfolding lent_checked
checked_fit n a r q s h read same = same ∙ ap (λ (x : Record). entry.checked n x s) read ∙ sym (at_true (entry.checked n r s) bad_size h)

pub handled_fit : (n a k : ℕ) (r q t u : Record) (s z : Tables) (e : Event) → lent_fits r ≡ true → q ≡ r → result_of a k t z ≡ entry.handled n q s e → u ≡ t
    → result_of a k u z ≡ lent_handled n r s e
unfolding lent_handled
handled_fit n a k r q t u s z e h read same written =
    ap (λ (x : Record). result_of a k x z) written ∙ same ∙ ap (λ (x : Record). entry.handled n x s e) read ∙ sym (at_true (entry.handled n r s e) (entry.kept bad_size r s) h)

-- the finder reads what was lent where it is
pub found_fit : (n : ℕ) (r : Record) (level mask : ℕ) (a : Result Found Refusal) → lent_fits r ≡ true → a ≡ finder.found n r level mask → finder.answer_of a ≡ lent_found n r level mask
unfolding lent_found
found_fit n r level mask a h same =
    ap finder.answer_of same ∙ sym (at_true (finder.answer_of (finder.found n r level mask)) (finder.without bad_size 0) h)

-- what comes back accepted passes the check again
pub checked_again : (n : ℕ) (u t : Record) (z : Tables) → lent_fits u ≡ true → u ≡ t → entry.checked n t z ≡ 0 → lent_checked n u z ≡ 0
checked_again n u t z h written zero = sym (checked_fit n 0 u t z h (sym written) (sym zero))

pub refused : bad_size ≡ 0 → ⊥
refused h = omega arith
