-- The definitions: rows of equal blocks, the image of a table, what the entry points answer and leave, and why a task
-- is not running, as bytes; what mending an image answers and leaves; and a step whose answer is a value.
pub mod Blocks
pub mod Image
pub mod Coding
pub mod Laid
pub mod Waking
pub mod Seen
pub mod Sound
pub mod Marks
pub mod EntryPoints
pub mod Reasons
pub mod Mending
pub mod Acting
pub mod Promises
