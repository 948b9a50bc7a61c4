-- A result's answer is 0 exactly if it is Ok.
-- Assumes nothing.
pub use Rattle.refusal.proofs.Answers.{number_some, accepted, refused, answer_err}
