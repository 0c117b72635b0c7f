-- The laws of masks, and of the bits of a word.
pub mod Masks
pub mod Bits
