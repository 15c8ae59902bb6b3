-- What expressions are read by at each level.
pub mod Levels
