-- The files of this folder.
pub mod Functions
pub mod Earlier
pub mod Arrays
