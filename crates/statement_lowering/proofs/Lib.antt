-- The files of this folder.
pub mod Steps
pub mod Scopes
pub mod Rows
