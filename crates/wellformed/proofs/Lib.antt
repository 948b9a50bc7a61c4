-- The laws behind the passes. `Whole` has what they decide together with the record's own test.
pub mod Sound
pub mod Standing
pub mod Whole
