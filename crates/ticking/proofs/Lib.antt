-- The task that runs, as it was read.
pub mod Ran
