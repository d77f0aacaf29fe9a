-- What the entry points promise.
pub mod Numbers
pub mod Forms
pub mod Counted
pub mod Names
pub mod Promises
pub mod PairPromises
pub mod YardTexts
pub mod YardA
pub mod ShutOut
pub mod MissionTexts
pub mod NineCases
pub mod PairShutOut
pub mod EditionCases
pub mod Keeping
