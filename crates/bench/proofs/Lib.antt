-- The laws: how long a line is, the line told at a place, pieces, and the promise.
pub mod Short
pub mod Told
pub mod Turns
pub mod Whole
pub mod Assured
