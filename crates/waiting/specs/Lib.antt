pub mod Wanted
pub mod Waiting
