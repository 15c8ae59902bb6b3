-- The files of this folder.
pub mod Nodes
pub mod Names
pub mod Numbering
pub mod Places
pub mod Paths
pub mod PathLaws
pub mod Goals
pub mod Faults
pub mod Growing
pub mod Listing
pub mod Graphs
pub mod Expansions
-- The files here, each after those that it cites.
pub mod Edges
pub mod EdgeLaws
pub mod Worked
