-- The writers, as the proofs need them; what their contracts say is `writings`.
pub mod ByStatements
pub mod Answers
