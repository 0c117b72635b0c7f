-- The laws of the refusals.
pub mod NothingRefuses
pub mod OtherKinds
