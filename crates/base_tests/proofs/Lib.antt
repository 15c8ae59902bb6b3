-- Shared lemmas.
pub mod ToldBounds
