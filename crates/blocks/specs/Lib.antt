-- The definitions: the list of task addresses, the table of blocks, when what is asked is refused, reading, writing,
-- questions in bytes, bytes in hex, and what is promised of them all.
pub mod Lists
pub mod Types
pub mod Refusals
pub mod Reading
pub mod Writing
pub mod Asking
pub mod Hex
pub mod Promises
