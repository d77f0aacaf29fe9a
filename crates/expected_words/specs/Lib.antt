-- What the program's items and forms stand for.
pub mod Items
