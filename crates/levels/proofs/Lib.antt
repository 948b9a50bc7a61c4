-- The laws of the CPU-priority record.
pub mod Table
pub mod Moved
pub mod Whole
pub mod Fresh
