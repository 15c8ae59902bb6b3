-- The files of this folder.
pub mod Ends
pub mod LeastLemmas
