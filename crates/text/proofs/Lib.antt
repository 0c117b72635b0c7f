-- The laws: text that is added, digits, and the promises.
pub mod Adding
pub mod Digits
pub mod Assured
