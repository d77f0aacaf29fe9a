-- What is told of a field at fault: for every file (AtFields), and of both (FileFields).
pub mod AtFields
pub mod FileFields
