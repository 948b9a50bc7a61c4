-- A result's answer is 0 exactly if it is Ok.
-- Assumes nothing.
use mathlib.Core.Logic.{◌≢◌}
use mathlib.Core.Path.{◌≡◌, refl, ap, ◌∙◌, sym}
use native.Mathlib.Nat.{suc-ne-zero}
use Rattle.std.specs.Prelude.{Result, Ok, Err}
use Rattle.refusal.specs.Answers.{number_of, answer_of}
use Rattle.refusal.specs.declared.Refusal.{Refusal}
use Rattle.refusal.specs.declared.Refusal.TheVariants.{BadSize, IllFormed, UnknownKind, BadNumber, WrongState, BadPolicy, BadValue, BadMask, EmptyRow, Nowhere, WrongCpuState, LastCpu}

pub number_some : (e : Refusal) → number_of e ≢ 0
number_some BadSize = suc-ne-zero 0
number_some IllFormed = suc-ne-zero 1
number_some UnknownKind = suc-ne-zero 2
number_some BadNumber = suc-ne-zero 3
number_some WrongState = suc-ne-zero 4
number_some BadPolicy = suc-ne-zero 5
number_some BadValue = suc-ne-zero 6
number_some BadMask = suc-ne-zero 7
number_some EmptyRow = suc-ne-zero 8
number_some Nowhere = suc-ne-zero 9
number_some WrongCpuState = suc-ne-zero 10
number_some LastCpu = suc-ne-zero 11

module _ {A : Type 0} where
  pub accepted : (r : Result A Refusal) → answer_of r ≡ 0 → (x : A) × (r ≡ Ok x)
  accepted (Ok x) e = (x, refl)
  accepted (Err e) z = absurd (number_some e z)

  pub refused : (r : Result A Refusal) → answer_of r ≢ 0 → (e : Refusal) × (r ≡ Err e)
  refused (Ok x) n = absurd (n refl)
  refused (Err e) n = (e, refl)

  -- of a result that is not Ok
  pub answer_err : {r : Result A Refusal} {e : Refusal} → r ≡ Err e → answer_of r ≢ 0
  answer_err {r} {e} is z = number_some e (sym (ap answer_of is) ∙ z)
