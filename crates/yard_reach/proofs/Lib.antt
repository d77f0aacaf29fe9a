-- Laws for the proofs of this program.
mod Found
