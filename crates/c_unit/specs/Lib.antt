-- The files of this folder.
-- Trees, what is asked of expressions, and units.
pub mod Tree
pub mod Measures
pub mod Units
-- Limits, and texts of tokens.
pub mod Limits
pub mod Texts
