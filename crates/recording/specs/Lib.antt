-- L1, "Replay a night", as definitions, with what L7 and L8 say of recordings. Read them in this order.
pub mod Layout
pub mod Reading
pub mod Replay
pub mod Cases
