-- What wrong lengths rule out; packed forms worked out; the records table by table, as proofs go.
pub mod Cut
pub mod Worked
pub mod Told
