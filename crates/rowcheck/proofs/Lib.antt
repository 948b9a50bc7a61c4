-- The laws behind the pass over a row: of tests, and of the set of tasks.
pub mod Saying
pub mod Marking
