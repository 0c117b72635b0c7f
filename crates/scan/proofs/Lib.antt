-- The laws: small ones, loops, entries by their number, lines in the order of choosing, the choice, the arrival
-- numbers, the two tables alike, a step of both, any history, the newcomers, the dispatching, and the fresh table.
pub mod Basics
pub mod Loops
pub mod Chains
pub mod Places
pub mod Order
pub mod Choices
pub mod Numbering
pub mod Alike
pub mod Flight
pub mod Moving
pub mod Stepping
pub mod Histories
pub mod Dispatching
pub mod Newcomers
pub mod FreshTable
pub mod Assured
