-- Fields, rows and tables of a packed form as code reads them.
pub mod Fields
pub mod Rows
pub mod Tables
-- 27 and 28.
pub mod Frame
-- What a judge of 29 has to say, and what follows of the network.
pub mod Judging
pub mod Network
