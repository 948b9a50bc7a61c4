-- The laws of the step that applies.
pub mod Steps
