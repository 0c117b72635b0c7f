pub mod Entries
pub mod Choosing
pub mod Moves
pub mod Sound
pub mod Step
pub mod Making
pub mod Queued
pub mod Promises
