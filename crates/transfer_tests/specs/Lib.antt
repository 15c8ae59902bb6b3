-- The files of this folder.
-- The files here.
pub mod Sides
pub mod Slots
pub mod Statements
