-- The laws of the word of the ready levels, and of the lamp.
pub mod Turns
pub mod OnTheWay
pub mod Highest
