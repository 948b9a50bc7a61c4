pub mod Lent
pub mod Entry
