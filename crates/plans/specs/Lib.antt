pub mod Columns
pub mod Decided
