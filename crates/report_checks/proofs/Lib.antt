-- Proofs that files of goals share.
pub mod Steps
pub mod Events
pub mod MarkLaws
pub mod Answering
pub mod TestLaws
