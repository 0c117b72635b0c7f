-- The laws of the pool.
pub mod FoundAt
