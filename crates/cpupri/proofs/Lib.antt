-- The laws of the search.
pub mod Found
pub mod Search
pub mod AllCases
