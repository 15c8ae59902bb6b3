-- The files of this folder.
pub mod Cells
pub mod Contents
pub mod Memories
pub mod Slots
pub mod Standing
pub mod StandingLaws
