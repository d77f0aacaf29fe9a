-- Laws for the proofs of this crate.
mod Others
