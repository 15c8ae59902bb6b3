-- The files of this folder.
pub mod Paths
pub mod SeenBits
pub mod Forms
