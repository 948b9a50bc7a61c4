-- The laws of looking for a task that has nowhere to go.
pub mod Looking
