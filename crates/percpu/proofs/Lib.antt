-- The laws of the task that runs on a CPU.
pub mod Running
