-- The code's refusals as the numbers above, and the answer that a result gives.
-- Assumes nothing.
pub use Rattle.refusal.specs.Answers.{number_of, answer_of}
