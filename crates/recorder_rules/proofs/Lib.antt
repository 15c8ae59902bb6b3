-- The files of this folder.
pub mod RangeLemmas
pub mod RowLemmas
pub mod StepBitLemmas
