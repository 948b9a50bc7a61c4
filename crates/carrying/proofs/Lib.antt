-- The laws of carrying out.
pub mod Placing
pub mod Carrying
