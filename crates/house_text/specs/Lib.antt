-- The house writing of a network and of a mission; networks and missions whose names can be written.
pub mod House
pub mod HouseText
pub mod Names
