-- The definitions: the lines, the listing, and the listing piece by piece.
pub mod Lines
pub mod Listing
pub mod Pieces
