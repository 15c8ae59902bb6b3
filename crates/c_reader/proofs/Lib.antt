-- Tokens that have been cut.
pub mod Numbered
-- Functions that are declared.
pub mod Declared
