-- What is made of the fields of a line.
pub mod Names
pub mod Made
pub mod MadeOrders
