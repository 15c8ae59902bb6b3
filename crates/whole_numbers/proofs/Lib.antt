-- The files of this folder.
pub mod DivisionLemmas
pub mod GcdLemmas
