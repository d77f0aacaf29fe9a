-- Lists with commas; what each feature is; walks over checkpoints' rows; what filled tables read as; the theorem.
pub mod Marks
pub mod Shapes
pub mod Identifiers
pub mod Features
pub mod Lanes
pub mod Segments
pub mod Perimeters
pub mod Passing
pub mod Checkpoints
pub mod LaneCheckpoints
pub mod SpotCheckpoints
pub mod Reading
pub mod Theorem
