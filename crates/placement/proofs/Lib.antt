-- The laws of levels and of run queues that lose or gain a task.
pub mod Levels
pub mod Order
pub mod Joining
pub mod Following
