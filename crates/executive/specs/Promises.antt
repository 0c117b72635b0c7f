-- What is promised: the founder's demands, the queue's law, the fresh table, the cards.
pub mod Broken
pub mod ByDecision
pub mod Cards
pub mod Demands
pub mod FreshLaw
pub mod InWords
pub mod LampLaw
pub mod MailLaw
pub mod QueueLaw
pub mod Skipping
pub mod SubLaw
pub mod EveryStart
pub mod Waking
pub mod Walks
pub mod Worked
