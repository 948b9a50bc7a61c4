-- The laws of a fresh machine's tables.
pub mod Blank
