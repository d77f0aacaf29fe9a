-- The tables.
pub mod SameRows
pub mod Entries
pub mod SameTables
pub mod Rooms
-- Names.
pub mod NamesStand
-- References.
pub mod SameFits
-- The first line at fault.
pub mod Among
pub mod LineFaults
pub mod RndfFirst
pub mod MdfFirst
