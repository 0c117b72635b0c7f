-- The definitions: the image of the second engine's table, what its entry points answer and leave, and what is promised.
pub mod Image
pub mod EntryPoints
pub mod Promises
