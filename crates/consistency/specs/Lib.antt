pub mod Consistent
pub mod Gathered
