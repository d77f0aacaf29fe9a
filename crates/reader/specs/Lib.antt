-- The entry points, as the proofs need them; what their contracts say is `replies`.
pub mod Columns
pub mod ByStatements
pub mod Pairs
