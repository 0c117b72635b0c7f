-- The laws that belong to no one function.
pub mod Numbers
pub mod Firsts
pub mod Ranges
pub mod Numbered
pub mod RoundTrips
pub mod CallParts
pub mod Assured
