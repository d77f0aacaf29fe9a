-- What the contracts of this program say of refused texts.
pub mod Told
