-- A refusal's number, and the answer that a result gives.
-- Assumes nothing.
use Rattle.std.specs.Prelude.{Result, Ok, Err, ℕ}
use Rattle.refusal.specs.declared.Refusal.{Refusal}
use Rattle.refusal.specs.declared.Refusal.TheVariants.{BadSize, IllFormed, UnknownKind, BadNumber, WrongState, BadPolicy, BadValue, BadMask, EmptyRow, Nowhere, WrongCpuState, LastCpu}

abbrev pub number_of : Refusal → ℕ
number_of BadSize = 1
number_of IllFormed = 2
number_of UnknownKind = 3
number_of BadNumber = 4
number_of WrongState = 5
number_of BadPolicy = 6
number_of BadValue = 7
number_of BadMask = 8
number_of EmptyRow = 9
number_of Nowhere = 10
number_of WrongCpuState = 11
number_of LastCpu = 12

-- 0, or the refusal's number
abbrev pub answer_of : {A : Type 0} → Result A Refusal → ℕ
answer_of (Ok x) = 0
answer_of (Err e) = number_of e
