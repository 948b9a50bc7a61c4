-- The laws of words that are sets of numbers, for every width.
pub mod Digits
pub mod Word
pub mod Search
pub mod Packed
pub mod Tests
