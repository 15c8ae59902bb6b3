-- The files of this folder.
mod WorkedRows
pub mod MemoryProofLemmas
