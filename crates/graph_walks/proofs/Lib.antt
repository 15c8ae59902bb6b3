-- The files of this folder.
-- The files here, each after those that it cites.
pub mod CallLemmas
pub mod ListLemmas
pub mod MarkedNodeLemmas
pub mod Spreading
pub mod TableLemmas
pub mod WalkLemmas
