-- The laws of the CPUs on which a task waits.
pub mod Waiting
