-- The laws of deciding.
pub mod Running
pub mod Deciding
