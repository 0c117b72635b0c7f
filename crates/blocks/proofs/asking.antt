-- The laws of questions.
pub mod Laws
