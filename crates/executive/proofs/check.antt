-- The laws of the check: its tests and its passes decide the rules.
pub mod Blanks
pub mod Descent
pub mod RuleByRule
pub mod Passes
pub mod PutTogether
pub mod Subprograms
pub mod Levels
pub mod Decides
pub mod Broken
pub mod Messages
