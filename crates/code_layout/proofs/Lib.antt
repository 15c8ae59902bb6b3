-- The files here.
pub mod Summing
pub mod Placing
pub mod Behind
