-- The laws of a record that is consistent in itself.
pub mod Words
pub mod Agrees
pub mod Gathered
pub mod Taken
pub mod CpuBits
