-- The laws of the calls' code.
pub mod Ending
pub mod InOrder
pub mod Ticking
