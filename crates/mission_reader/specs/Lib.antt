-- The reader of an MDF: the contract as a reader reads it, and the same, executable.
pub mod Types
pub mod MissionReplies
pub mod MissionReading
