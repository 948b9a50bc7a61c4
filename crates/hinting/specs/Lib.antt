pub mod Hinted
pub mod Past
