-- The files of this folder.
pub mod CostTables
pub mod Costs
pub mod Documents
pub mod Entries
pub mod Files
pub mod Inputs
pub mod Laws
pub mod Marks
pub mod RunValues
pub mod TaskFiles
pub mod Tasks
pub mod Worked
