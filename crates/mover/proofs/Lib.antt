-- The laws of the search for the mover.
pub mod Candidates
