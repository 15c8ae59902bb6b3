-- The files of this folder.
pub mod OptionalStatements
pub mod Surroundings
pub mod Afterwards
pub mod Progress
pub mod Programs
