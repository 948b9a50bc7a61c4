-- The laws of plans: what each kind of event does is one, and can be carried out.
pub mod Planned
pub mod Answers
pub mod Plans
