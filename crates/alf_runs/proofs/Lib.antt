-- The files of this folder.
pub mod Along
pub mod Growing
pub mod KeptNodes
pub mod Paths
pub mod Placed
pub mod RunLengths
pub mod Sizes
pub mod Standing
pub mod Stores
