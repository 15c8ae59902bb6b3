pub mod OrderLemmas
pub mod Walks
pub mod Wider
