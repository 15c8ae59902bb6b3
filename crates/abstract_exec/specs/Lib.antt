-- The files of this folder.
-- The files here, each after those that it cites.
pub mod Points
pub mod Explorations
pub mod TurnLaws
