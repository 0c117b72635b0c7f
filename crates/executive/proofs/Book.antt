-- The book of starts: what a step enters in it, and that the account is kept.
pub mod Lists
pub mod Step
pub mod Entered
pub mod Written
pub mod Counted
pub mod Worked
