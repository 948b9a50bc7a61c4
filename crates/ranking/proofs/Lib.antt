-- The laws of a row that is looked through.
pub mod Places
pub mod Held
pub mod Below
