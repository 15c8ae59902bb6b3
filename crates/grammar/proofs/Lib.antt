-- The files of this folder.
pub mod RowLemmas
pub mod TurnLemmas
