-- The files of this folder.
mod Flags
mod Finding
mod Members
mod CellLists
mod ActiveFrames
mod Faulty
mod Started
mod Entered
mod Joined
mod Fitting
mod Changing
mod Loading
mod Lent
mod MemoryLone
pub mod OnlyCellLaws
