pub mod Level
pub mod Record
