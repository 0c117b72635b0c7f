-- The book of letters: what a step enters in it, and that the account is kept.
pub mod Lists
pub mod Written
pub mod Step
pub mod Counted
pub mod Told
pub mod Mail
pub mod Handed
pub mod Again
