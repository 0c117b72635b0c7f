-- The laws of the executor.
pub mod Leaving
