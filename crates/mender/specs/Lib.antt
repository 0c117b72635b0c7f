-- The definitions: the own rules of an entry, the five passes, the rounds, the rebuilding, the list, the mending, its text,
-- and what is promised of it.
pub mod Rows
pub mod Filled
pub mod Rules
pub mod Links
pub mod Passes
pub mod Rounds
pub mod Rebuilding
pub mod Listing
pub mod Mending
pub mod Telling
pub mod Promises
