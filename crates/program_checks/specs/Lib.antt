-- The files here, each after those that it cites.
pub mod Sound
pub mod Checking
