-- When two networks, or missions, are the same.
pub mod Same
