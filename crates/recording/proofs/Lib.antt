-- What holds of recordings: the cases, by computation; that batches may be divided anywhere; the time that is added in a turn.
pub mod AllCases
pub mod Batches
pub mod Times
