-- The definitions: text in a buffer, and what is promised of it.
pub mod Glyphs
pub mod Promises
