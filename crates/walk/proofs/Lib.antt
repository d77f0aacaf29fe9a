pub mod Speaking
pub mod Walked
pub mod Cutting
pub mod SeenLaws
pub mod MdfSteps
pub mod RndfWalk
pub mod MdfWalk
