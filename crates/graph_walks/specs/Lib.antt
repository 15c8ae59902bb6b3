-- The files of this folder.
pub mod Walks
pub mod Tables
pub mod MarkedNodes
pub mod ListLaws
pub mod TableLaws
pub mod WalkLaws
pub mod MarkedNodeLaws
pub mod Searching
pub mod Calls
pub mod CallLaws
pub mod Findings
