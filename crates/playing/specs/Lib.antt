pub mod Ready
pub mod Way
