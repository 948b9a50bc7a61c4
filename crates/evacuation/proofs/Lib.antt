-- The laws of a CPU that goes or comes back, over the lent tables.
pub mod Leaves
