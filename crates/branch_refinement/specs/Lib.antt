-- The files of this folder.
-- The files here, each after those that it cites.
pub mod Places
pub mod Sides
pub mod Refinements
pub mod Arms
