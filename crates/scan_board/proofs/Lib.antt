-- The laws that belong to no one function.
pub mod Chains
pub mod Pieces
pub mod Owned
pub mod Trips
pub mod Answered
pub mod Histories
pub mod Assured
