-- The laws of a configuration and of the fresh table.
pub mod WellFormed
pub mod SaidOut
pub mod Loops
pub mod Shape
pub mod Exactly
