-- The laws that belong to no module of src/, by subject; those of a module stand in its folder.

-- lists, tests and sums, below all else
pub mod Lists
-- the plans of the calls: each is good, and a good plan keeps the table well formed
pub mod Plans
-- the book of starts
pub mod Book
-- the book of letters
pub mod Letters
-- what the crates above name, and nothing else
pub mod Assured
