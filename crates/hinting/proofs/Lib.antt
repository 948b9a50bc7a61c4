-- The laws of hints: `Hints` after a step, `Events` after an event's own effect.
pub mod Hints
pub mod Events
pub mod Lent
