-- The rules computed: K1 to K12 and the other cases. Their laws are crate `laws`.
pub mod AllCases
pub mod Answers
