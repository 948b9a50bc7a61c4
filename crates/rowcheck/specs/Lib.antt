pub mod Says
pub mod Placed
