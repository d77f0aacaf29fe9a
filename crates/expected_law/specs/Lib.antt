-- What may stand where a line is refused (Expected), in which words (Telling), what is answered (Tells); and, inner, the items that places have (Items) and short names for the proofs (Short).
pub mod Expected
pub mod Telling
pub mod Tells
pub mod Items
pub mod Short
