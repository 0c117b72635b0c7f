-- Laws of lists, tests and sums, below all else.
pub mod Tests
pub mod Sums
pub mod Arrays
pub mod Pad
pub mod Slid
pub mod ClosedUp
pub mod Chains
pub mod Loops
pub mod Search
pub mod Positions
