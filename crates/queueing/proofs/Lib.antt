-- The laws of a task that goes where its plan says.
pub mod First
pub mod Going
