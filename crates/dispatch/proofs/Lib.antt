-- The laws of an event's own effect by its kind.
pub mod Decisions
pub mod Dispatched
