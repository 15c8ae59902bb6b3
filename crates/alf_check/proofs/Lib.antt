pub mod Places
pub mod Blocks
pub mod Acyclic
pub mod Kept
pub mod KeptLemmas
