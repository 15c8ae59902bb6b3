-- The files of this folder.
mod Ends
mod RowLaws
mod CutLaws
mod Shortened
-- No lemmas of its own.
pub mod Counting
pub mod FirstFaultLemmas
