-- Document 01, "Placing real-time tasks on N CPUs", as definitions, with L2, L3, L7 and L8 of document 02. They are what must be believed. Read
-- the files in the order below; comments have the papers' words.
--
-- The notation
--   f : A → B → C           the type of f; what f is stands in the lines under it, by cases where they differ
--   abbrev, unfoldable      when the prover looks into a definition: read over them, as over `pub`, `use` and `Type 0`
--   (t : ℕ) → P t           for every number t: P of t
--   (c : ℕ) × P c           there is a number c with P of c
--   A × B, A ⊎ B, ⊥         both; one of them; never
--   x ≡ y, x ≢ y            x is y; it is not
--   eqb, leb, ltb           is, is at most, is below, as tests that compute, put together by &&, || and not
--   cond b x y              x if the test b passes, else y
--   λ t. f t                the function from t to f t
--   [], x ∷ xs, xs ++ ys    the empty list; x, and then xs; xs, and then ys
--   getD xs i d             element i of xs, or d if xs is shorter; set xs i v: xs with v there
--   none, some x            nothing, or x
--   a - b                   0 if b is larger
--   m.n                    the field n of m. A record of facts, such as `WellFormed m`, holds if all its fields do
--   module _ (m : M) where  what stands indented below takes m first
--
-- What the public entries promise cites `made`, `checked`, `handled` and `result` (Entry), `LentDemand3`, `effect` and `event` (Events) and `machine_of`
-- (Tables); of the finder `found`, in crate cpupri.
-- Said again in the paper's words, and proved: `WellFormed` of `wellFormed`, `Stored` of `storedRows`, `Good` of `checked` with answer 0, `First` of the
-- number of a refusal, `Chosen` of `next`, and `Demand3`, of a machine and its moves what `LentDemand3` is of tables.
pub mod Lists
pub mod Machine
pub mod WellFormed
pub mod Events
pub mod Plan
pub mod Refusals
pub mod Answers
pub mod Migration
pub mod Outcome
pub mod Cases
pub mod Sentences
pub mod Hotplug
pub mod Demand3
pub mod Tables
pub mod Entry
pub mod LentCases
pub mod LentDemand3
