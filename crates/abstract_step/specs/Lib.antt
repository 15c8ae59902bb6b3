-- The files here, each after those that it cites.
pub mod Steppers
pub mod Standing
pub mod Turns
pub mod Inputs
