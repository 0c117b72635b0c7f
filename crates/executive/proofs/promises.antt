-- What is promised, shown.
pub mod EveryStart
pub mod Worked
pub mod ByDecision
pub mod CardsAndFresh
pub mod Skipping
pub mod Walks
pub mod Demands
pub mod Waking
pub mod LampLaw
pub mod SubLaw
pub mod MailLaw
