-- The definitions: a task's cause, the path, the text, and what is promised of them.
pub mod Causes
pub mod Paths
pub mod Texts
pub mod Promises
