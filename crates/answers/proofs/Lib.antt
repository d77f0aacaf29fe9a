-- Laws for the proofs of this crate (Cases, Wholes), sentences letter by letter (Examples), and what the contracts settle (Settled).
mod Cases
mod Wholes
mod Examples
pub mod Settled
