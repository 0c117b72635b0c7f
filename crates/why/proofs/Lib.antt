-- The laws: searches, causes, masks, the path, the answer.
pub mod Searching
pub mod Causing
pub mod Masks
pub mod Holding
pub mod Waiting
pub mod Walking
pub mod Trail
pub mod Rings
pub mod Assured
pub mod Onward
pub mod Answering
pub mod Told
