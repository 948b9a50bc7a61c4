pub mod Level
pub mod Record
pub mod Consistent
pub mod Found
pub mod Search
pub mod Cases
