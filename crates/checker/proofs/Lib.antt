-- The laws behind the check.
pub mod Answers
