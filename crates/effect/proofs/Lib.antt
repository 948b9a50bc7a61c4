-- The laws of an event's own effect.
pub mod Effects
