-- The laws of the messages.
pub mod Lines
pub mod Arrays
pub mod Unmet
pub mod Kept
