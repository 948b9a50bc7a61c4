-- The laws of run queues in tables.
pub mod Stored
pub mod Queued
pub mod Reordered
pub mod Flat
