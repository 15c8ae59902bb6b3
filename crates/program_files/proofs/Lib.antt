-- Shared lemmas.
pub mod Judged
pub mod JudgedUnit
pub mod JudgedGraph
pub mod Told
