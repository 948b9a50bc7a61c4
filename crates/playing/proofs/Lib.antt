pub mod Accruing
pub mod Readiness
pub mod Playing
pub mod Fresh
pub mod Way
