-- The definitions: numbers as bytes, the table of records, the numbers of refusals, calls, reading, writing, the round trips, refusals in an
-- order, and what is promised of them all.
pub mod Numbers
pub mod Kinds
pub mod Refusals
pub mod Calls
pub mod Reading
pub mod Writing
pub mod Trips
pub mod Firsts
pub mod Promises
