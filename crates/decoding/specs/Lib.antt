pub mod Sizes
pub mod Fields
pub mod Filled
