-- The files of this folder.
pub mod Views
pub mod Tables
pub mod Room
