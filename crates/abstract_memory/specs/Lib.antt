-- The files of this folder.
-- The files here, each after those that it cites.
pub mod Flags
pub mod Running
pub mod NextOffsets
pub mod PlaceFaults
pub mod OnlyCells
pub mod Blank
pub mod Cells
pub mod Rows
