-- The laws that belong to no one function.
pub mod Places
pub mod Forms
pub mod Through
pub mod Judged
pub mod Laid
pub mod Trips
pub mod Assured
