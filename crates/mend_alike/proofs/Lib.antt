-- Where a line starts makes no difference to a walk but for where names start.
pub mod Lines
pub mod Stored
pub mod Walks
