-- Lists and statements.
pub mod RowLaws
pub mod AmongLaws
pub mod Lines
pub mod NameLaws
-- What statements fill.
pub mod Folds
pub mod LaneFills
pub mod ZoneFills
pub mod NetworkFills
pub mod MissionFills
-- How many rows that gives.
pub mod CountLaws
pub mod DeclaredLaws
pub mod SizeLaws
-- References over rows.
pub mod ResolveLaws
pub mod FaultLaws
pub mod ReferenceLaws
pub mod MissionLaws
pub mod LimitCounts
-- References over statements.
pub mod LineFaults
pub mod ReferenceLines
pub mod MissionLines
pub mod MissionFits
-- Decided.
pub mod Examples
