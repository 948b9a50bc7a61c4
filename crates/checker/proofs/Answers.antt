-- The check's answer, from whether the lengths and the tables fit.
-- Assumes nothing.
use mathlib.Core.Path.{◌≡◌, ap, ap₂}
use mathlib.Core.Bool.{Bool, true, false, cond, not}
use Prim.Native.Nat.{ℕ}
use Rattle.levels.specs.declared.record.Record.{Record}
use Rattle.rules.specs.Refusals.{first_failing, bad_size, ill_formed}
use Rattle.rules.specs.Tables.{Tables, lengths_fit, tables_fit}
use Rattle.rules.specs.Entry.{checked}

module _ (n : ℕ) (r : Record) (s : Tables) where
  pub checked_size : lengths_fit n s ≡ false → checked n r s ≡ bad_size
  unfolding checked first_failing
  checked_size h = ap (λ (b : Bool). cond (not b) bad_size (cond (not (tables_fit n r s)) ill_formed 0)) h

  pub checked_form : lengths_fit n s ≡ true → (b : Bool) → tables_fit n r s ≡ b → checked n r s ≡ cond b 0 ill_formed
  unfolding checked first_failing
  checked_form h true e = ap₂ (λ (a b : Bool). cond (not a) bad_size (cond (not b) ill_formed 0)) h e
  checked_form h false e = ap₂ (λ (a b : Bool). cond (not a) bad_size (cond (not b) ill_formed 0)) h e
