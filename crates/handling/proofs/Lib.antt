-- The laws of an event on lent tables.
pub mod Handling
