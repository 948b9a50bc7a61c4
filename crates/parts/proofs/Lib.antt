-- The laws of the parts of a plan.
pub mod Optional
pub mod Flags
