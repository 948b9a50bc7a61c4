pub mod Limited
pub mod Still
pub mod Leaving
