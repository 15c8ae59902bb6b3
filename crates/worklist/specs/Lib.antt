-- The files of this folder.
-- The files here, each after those that it cites.
pub mod Least
pub mod LeastLaws
pub mod Lines
