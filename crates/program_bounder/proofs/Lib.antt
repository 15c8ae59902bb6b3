-- Shared lemmas.
pub mod Made
pub mod Finding
pub mod Suiting
pub mod InputRowLemmas
