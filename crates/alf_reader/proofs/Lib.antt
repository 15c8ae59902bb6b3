-- Shared lemmas: the reader's.
pub mod Depths
pub mod SignedLemmas
