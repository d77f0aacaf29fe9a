-- Numbers, slots and rows back from bytes.
pub mod Numbers
pub mod Reading
-- Bytes that are a network's form; it is decided; there is a reply.
pub mod Names
pub mod Forms
pub mod Some
-- The same, record by record, as code goes.
pub mod Records
pub mod Whole
pub mod Fixed
pub mod Points
