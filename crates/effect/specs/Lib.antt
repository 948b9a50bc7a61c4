pub mod Effected
