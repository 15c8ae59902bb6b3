-- The files of this folder.
pub mod Stretches
pub mod Cuts
pub mod ItemRuns
pub mod Following
pub mod CheckedItems
pub mod WorkedRuns
pub mod WorkedStretches
