-- The files of this folder.
mod Rows
mod Objects
mod Naming
mod LaidOut
mod Globals
pub mod DifferLemmas
pub mod FrameLemmas
pub mod ListLemmas
pub mod PlaceLemmas
pub mod TextLemmas
pub mod ViewLemmas
