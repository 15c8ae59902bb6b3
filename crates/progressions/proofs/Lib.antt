-- The files of this folder.
pub mod PartLemmas
pub mod ProgressionLemmas
