-- Order by rank: of anything, of options, of a network's and of a mission's statements.
pub mod Settling
pub mod OptionRanks
pub mod Networks
pub mod Missions
-- Fields and lines as they are written.
pub mod WrittenFields
pub mod WrittenLines
pub mod Shapes
-- The theorems.
pub mod Texts
pub mod Theorems
