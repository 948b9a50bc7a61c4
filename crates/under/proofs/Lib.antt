-- The laws of the CPUs below each level.
pub mod Below
