-- The laws of the controlled subprograms.
pub mod InLine
