-- The files here.
pub mod Lasts
pub mod Joined
pub mod Looks
pub mod Turns
