-- The laws of places.
pub mod TaskAt
