pub mod Begin
pub mod Replaying
pub mod Nights
