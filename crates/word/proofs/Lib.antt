-- Laws of the words. `Index`, `Keywords`, `Boundary` and `Digit` are what callers cite; `Packed`, `Rows` and `Places` are what those and
-- the functions' proofs rest on.
pub mod Index
pub mod Packed
pub mod Rows
pub mod Places
pub mod Digit
pub mod Keywords
pub mod Boundary
