-- The laws of intervals and alarms.
pub mod Division
pub mod Interval
pub mod Alarms
