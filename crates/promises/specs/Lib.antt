-- What the promises speak of, beside the contracts: Accepted, Declared, Refusals; Yards, Cases: yard A and its nine cases; Readers: what is shut out; Kept: what later rules keep.
pub mod Accepted
pub mod Declared
pub mod Refusals
pub mod Yards
pub mod Cases
pub mod Readers
pub mod Kept
