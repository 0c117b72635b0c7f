-- The laws of states.
pub mod Laws
