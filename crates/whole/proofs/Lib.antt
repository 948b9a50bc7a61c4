-- The laws of tables that are looked at whole.
pub mod Same
pub mod From
pub mod Compared
pub mod Numbers
pub mod Blocks
