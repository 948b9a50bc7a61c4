-- The laws of the steps one after the other.
pub mod Taken
pub mod Going
pub mod Told
