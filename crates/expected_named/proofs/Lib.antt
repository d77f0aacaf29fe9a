-- What is listed is what the law says.
pub mod LineFields
pub mod KeywordKinds
pub mod Moves
pub mod Networks
pub mod Numbers
pub mod Parts
pub mod Entries
pub mod OrderFields
pub mod OrderLines
pub mod Limits
pub mod ExitLines
pub mod Theorems
