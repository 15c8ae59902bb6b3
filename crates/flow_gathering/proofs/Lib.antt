-- Proofs that files of goals share.
pub mod Sizes
