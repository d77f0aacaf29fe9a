-- What a reader must believe, bottom up: Network, Tables, Faults; House, of the writers; Same, of unpacking. Short, Along: short names, nothing more.
pub mod Network
pub mod Tables
pub mod Faults
pub mod House
pub mod Same
pub mod Short
pub mod Along
